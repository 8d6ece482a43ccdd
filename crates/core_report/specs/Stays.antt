-- What a checked certificate says of the sums that its report forms again, and which dates a text can write.
use Rattle.std.specs.Prelude.{◌≡◌, ℕ, suc, ◌<◌, ◌≤◌, pos, ◌≤ℤ◌, List, false, true, ◌++◌, length}
use Rattle.std.specs.List.{All}
use Rattle.jiff_core.specs.Calendar.{IsBetween}
use Rattle.jiff_core.specs.declared.civil.date.Date.{Date}
use Rattle.core_sums.specs.Sums.{partial_sums}
use Rattle.core_sums.specs.Widths.{any_leaves}
use Rattle.core_book.specs.View.{CaseView, counts}
use Rattle.core_model.specs.Fits.{IsWithin128, AreKept}
use Rattle.core_model.specs.declared.cert.Weights.{Weights}
use Rattle.core_model.specs.Closing.{Plan, IsClosingDay, IsTierNumber, is_pooled}
use Rattle.core_model.specs.Check.{tier_closings, day_closings, pool_terms, bound_terms}
use Rattle.core_replay.specs.declared.ledger.Ledger.{Ledger}
use Rattle.core_report.specs.declared.top.Loss.{Loss}

-- the sums of what is closed of instruments, of members of pools, and of pools stay within 128 bits
pub record ClosingsStay (c : CaseView) (a : Plan) : Type 0 where
  pub den : pos 1 ≤ℤ a.den
  pub limits : (i u j : ℕ) → i < length c.instruments → IsClosingDay c u → IsTierNumber c j → counts c i u ≡ true
      → any_leaves (partial_sums (pos 0) (tier_closings c a i u j)) ≡ false
  pub members : (p u m : ℕ) → p < length c.pools → IsClosingDay c u → m < length c.members → is_pooled c p u m ≡ true
      → any_leaves (partial_sums (pos 0) (day_closings c a u m)) ≡ false
  pub pools : (p u : ℕ) → p < length c.pools → IsClosingDay c u
      → any_leaves (pool_terms c a p u ++ partial_sums (pos 0) (pool_terms c a p u)) ≡ false

-- the sum of the bound of weights stays within 128 bits
pub record BoundStays (c : CaseView) (w : Weights) : Type 0 where
  pub den : pos 1 ≤ℤ w.den
  pub sums : any_leaves (bound_terms c w ++ partial_sums (pos 0) (bound_terms c w)) ≡ false

-- a loss of a scenario and a house day of the case that 128 bits keep
pub record IsPlaced (c : CaseView) (x : Loss) : Type 0 where
  pub scenario : x.scenario < length c.scenarios
  pub day : x.day ≤ c.last
  pub kept : IsWithin128 x.loss

-- a ledger of the case's house days whose numbers 128 bits keep
pub record IsKeptLedger (c : CaseView) (ledger : Ledger) : Type 0 where
  pub den : pos 1 ≤ℤ ledger.den
  pub paid : AreKept (suc c.last) ledger.paid
  pub total : AreKept (suc c.last) ledger.total

-- dates of the years that a text of ten bytes can write
abbrev pub AreOfPrintedYears : List Date → Type 0
AreOfPrintedYears dates = All (λ d. IsBetween (pos 1) (pos 9999) d.year) dates
