-- The losses of a calendar, and which of them are the greatest.
use Rattle.std.specs.Prelude.{ℕ, suc, ℤ, List, length, map}
use Rattle.std.specs.declared.cmp.Ordering.{Ordering}
use Rattle.std.specs.Ordering.{int_cmp, nat_cmp, on, flip_args, then_cmp}
use Rattle.itertools.specs.Extremes.{IsKLeast, by_cmp}
use Rattle.core_sums.specs.Places.{below, each}
use Rattle.core_book.specs.View.{CaseView}
use Rattle.core_model.specs.Closing.{Plan, loss_of}
use Rattle.core_report.specs.declared.top.Loss.{Loss}

-- The greater loss comes first; of equal ones that of the earlier scenario, and in it that of the earlier day.
abbrev pub ranking : Loss → Loss → Ordering
ranking =
    then_cmp (flip_args (on (λ l. l.loss) int_cmp)) (then_cmp (on (λ l. l.scenario) nat_cmp) (on (λ l. l.day) nat_cmp))

-- the losses of a scenario by house day, and those of all scenarios
abbrev pub loss_on : ℕ → (ℕ → ℤ) → ℕ → Loss
loss_on k loss t = record { loss = loss t; scenario = k; day = t }

abbrev pub losses_by_day : CaseView → ℕ → (ℕ → ℤ) → List Loss
losses_by_day c k loss = map (loss_on k loss) (below (suc c.last))

abbrev pub losses : CaseView → Plan → List Loss
losses c a = each (below (length c.scenarios)) (λ k. losses_by_day c k (loss_of c a k))

-- the five greatest losses, fewer where there are fewer, the greatest first
abbrev pub AreTop : CaseView → Plan → List Loss → Type 0
AreTop c a top = IsKLeast (by_cmp ranking) 5 (losses c a) top
