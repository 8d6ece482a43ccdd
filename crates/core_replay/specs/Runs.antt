-- A replay between two days.
use Rattle.std.specs.Prelude.{◌≡◌, ℕ, suc, ◌-◌, ◌<◌, ℤ, List, length}
use Rattle.core_sums.specs.Sums.{sum_below}
use Rattle.core_sums.specs.Places.{at}
use Rattle.core_book.specs.View.{CaseView}
use Rattle.core_model.specs.Closing.{Plan, cash_of}
use Rattle.core_replay.specs.Ledger.{paid_on}
use Rattle.core_replay.specs.Steps.{AreStanding, ArePayable}
use Rattle.core_replay.specs.declared.ledger.Run.{Run}

-- a list of one number for each house day, of which those of the days before t are entered
pub record AreEntered (c : CaseView) (f : ℕ → ℤ) (t : ℕ) (xs : List ℤ) : Type 0 where
  pub count : length xs ≡ suc c.last
  pub entered : (s : ℕ) → s < t → at xs s ≡ f s

-- a replay before day t
pub record IsRun (c : CaseView) (a : Plan) (k t : ℕ) (run : Run) : Type 0 where
  pub lines : AreStanding c a t 0 run.lines.items
  pub payable : ArePayable c a k (t - 1) 0 run.payable
  pub total : run.total ≡ sum_below t (paid_on c a k)
  pub den : run.ledger.den ≡ a.den
  pub paid_so_far : AreEntered c (paid_on c a k) t run.ledger.paid
  pub total_so_far : AreEntered c (cash_of c a k) t run.ledger.total
