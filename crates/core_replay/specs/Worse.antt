-- The worst loss of some scenarios and days.
use Rattle.std.specs.Prelude.{◌≡◌, ℕ, ◌<◌, ◌≤◌, List, ℤ, neg_ℤ, ◌≤ℤ◌, ◌<ℤ◌}
use Rattle.core_sums.specs.Places.{at}
use Rattle.core_book.specs.View.{CaseView}
use Rattle.core_model.specs.Closing.{Plan, loss_of}
use Rattle.core_replay.specs.Ledger.{StaysIn}
use Rattle.core_replay.specs.declared.losses.WorstLoss.{WorstLoss}

-- the loss of a day, by the totals of a scenario
abbrev pub loss_at : List ℤ → ℕ → ℕ → WorstLoss
loss_at totals k t = record { loss = neg_ℤ (at totals t); scenario = k; day = t }

-- the first worst of the losses on the days before n
pub record IsWorstOfDays (losses : ℕ → ℤ) (k n : ℕ) (worst : WorstLoss) : Type 0 where
  pub scenario : worst.scenario ≡ k
  pub day : worst.day < n
  pub loss : worst.loss ≡ losses worst.day
  pub bounds : (t : ℕ) → t < n → losses t ≤ℤ worst.loss
  pub earlier_days : (t : ℕ) → t < worst.day → losses t <ℤ worst.loss

-- the first worst loss of the scenarios before n
pub record IsWorstSoFar (c : CaseView) (a : Plan) (n : ℕ) (worst : WorstLoss) : Type 0 where
  pub scenario : worst.scenario < n
  pub day : worst.day ≤ c.last
  pub loss : worst.loss ≡ loss_of c a worst.scenario worst.day
  pub bounds : (k t : ℕ) → k < n → t ≤ c.last → loss_of c a k t ≤ℤ worst.loss
  pub earlier_scenarios : (k t : ℕ) → k < worst.scenario → t ≤ c.last → loss_of c a k t <ℤ worst.loss
  pub earlier_days : (t : ℕ) → t < worst.day → loss_of c a worst.scenario t <ℤ worst.loss
  pub stays : (k : ℕ) → k < n → StaysIn c a k
