-- What the answers of a replay say.
use Rattle.std.specs.Prelude.{◌≡◌, ℕ, suc, ◌≤◌, ℤ, List, length, true}
use Rattle.core_sums.specs.Places.{at}
use Rattle.core_sums.specs.Widths.{any_leaves}
use Rattle.core_book.specs.View.{CaseView}
use Rattle.core_model.specs.Closing.{Plan, cash_of, worst_loss}
use Rattle.core_replay.specs.Ledger.{paid_on, LeavesOn, LeavesFirst, IsWorstAt, NoneLeaves, StaysIn}
use Rattle.core_replay.specs.declared.ledger.Ledger.{Ledger}
use Rattle.core_replay.specs.declared.fault.ReplayFault.{ReplayFault}
use Rattle.core_replay.specs.declared.fault.ReplayFault.TheVariants.{TooWide, NoMemory}
use Rattle.core_replay.specs.declared.losses.WorstLoss.{WorstLoss}

-- a list of one number for each house day
pub record AreByDay (c : CaseView) (f : ℕ → ℤ) (xs : List ℤ) : Type 0 where
  pub count : length xs ≡ suc c.last
  pub each : (t : ℕ) → t ≤ c.last → at xs t ≡ f t

-- the ledger of a calendar in a scenario, none of whose numbers leaves
pub record IsLedger (c : CaseView) (a : Plan) (k : ℕ) (ledger : Ledger) : Type 0 where
  pub den : ledger.den ≡ a.den
  pub paid : AreByDay c (paid_on c a k) ledger.paid
  pub total : AreByDay c (cash_of c a k) ledger.total
  pub stays : StaysIn c a k

-- the worst loss with its place, where none of the numbers leaves
pub record IsWorstLoss (c : CaseView) (a : Plan) (worst : WorstLoss) : Type 0 where
  pub loss : worst.loss ≡ worst_loss c a
  pub place : IsWorstAt c a worst.scenario worst.day
  pub stays : NoneLeaves c a

-- a number of that scenario and day leaves, and none before it; want of memory says nothing of the numbers
abbrev pub StopsReplay : CaseView → Plan → ℕ → ReplayFault → Type 0
StopsReplay c a k (TooWide scenario day) = (scenario ≡ k) × LeavesOn c a k day
StopsReplay c a k NoMemory = Unit {0}

abbrev pub StopsWorst : CaseView → Plan → ReplayFault → Type 0
StopsWorst c a (TooWide scenario day) = LeavesFirst c a scenario day
StopsWorst c a NoMemory = Unit {0}

-- one of some numbers of that scenario and day leaves
abbrev pub StopsOn : ℕ → ℕ → List ℤ → ReplayFault → Type 0
StopsOn k t numbers (TooWide scenario day) = (scenario ≡ k) × (day ≡ t) × (any_leaves numbers ≡ true)
StopsOn k t numbers NoMemory = Unit {0}
