-- The first worst loss, day by day and scenario by scenario.
use Rattle.std.proofs.Common.{◌≡◌, refl, sym, ◌∙◌, ap, subst, ℕ, ◌+◌, ◌-◌, ◌<◌, ◌≤◌, ◌⊎◌, inl, inr, arith, ℤ, neg_ℤ, ◌≤ℤ◌, ◌<ℤ◌, int_lt, Bool, true, false, List, [], ◌∷◌, ◌++◌, length, if◌then◌else◌}
use Rattle.std.proofs.lemmas.Int.{ints}
use Rattle.std.proofs.lemmas.Bool.{cases_lt, or_parts}
use Rattle.std.proofs.lemmas.List.Folds.{list_any-append}
use Rattle.core_sums.specs.Sums.{greatest_to}
use Rattle.core_sums.specs.Places.{at}
use Rattle.core_sums.specs.Widths.{most, leaves, any_leaves}
use Rattle.core_sums.proofs.SumLaws.{greatest_to-bounds, greatest_to-le}
use Rattle.core_sums.proofs.Within128.{stays-kept}
use Rattle.core_book.specs.View.{CaseView, cash}
use Rattle.std.specs.Prelude.{◌*ℤ◌}
use Rattle.core_model.specs.Closing.{Plan, cash_of, loss_of, worst_loss}
use Rattle.core_model.specs.Fits.{IsWithin128}
use Rattle.core_replay.specs.Ledger.{opening_numbers, lines_numbers, paid_numbers, day_leaves, StaysIn, LeavesOn}
use Rattle.core_replay.specs.Answers.{IsLedger, IsWorstLoss, StopsReplay, StopsWorst}
use Rattle.core_replay.specs.Worse.{loss_at, IsWorstOfDays, IsWorstSoFar}
use Rattle.core_replay.specs.declared.ledger.Ledger.{Ledger}
use Rattle.core_replay.specs.declared.losses.WorstLoss.{WorstLoss}
use Rattle.core_replay.specs.declared.fault.ReplayFault.{ReplayFault}
use Rattle.core_replay.specs.declared.fault.ReplayFault.TheVariants.{TooWide, NoMemory}

-- of numbers that stay those of the second part stay
right-none : (xs ys : List ℤ) → any_leaves (xs ++ ys) ≡ false → any_leaves ys ≡ false
right-none xs ys e = (or_parts (any_leaves xs) (any_leaves ys) (sym (list_any-append (leaves most) xs ys) ∙ e)).1

-- a total that stays is kept
pub cash-kept : (c : CaseView) (a : Plan) (k t : ℕ) → day_leaves c a k t ≡ false → IsWithin128 (cash_of c a k t)
cash-kept c a k t e =
    let last = cash_of c a k t in
    let ending = paid_numbers c a k t ++ (last ∷ []) in
    let later = right-none (opening_numbers c a t) _ e in
    let after_cash : any_leaves (lines_numbers c a k t ++ ending) ≡ false = (or_parts (leaves most (a.den *ℤ cash c t)) (any_leaves (lines_numbers c a k t ++ ending)) later).1 in
    let one : any_leaves (last ∷ []) ≡ false = right-none (paid_numbers c a k t) (last ∷ []) (right-none (lines_numbers c a k t) ending after_cash) in
    stays-kept last (or_parts (leaves most last) false one).0

pub total-kept : (c : CaseView) (a : Plan) (k : ℕ) (ledger : Ledger) → IsLedger c a k ledger → (t : ℕ) → t ≤ c.last → IsWithin128 (at ledger.total t)
total-kept c a k ledger is t within = subst IsWithin128 (sym (is.total.each t within)) (cash-kept c a k t (is.stays t within))

-- ---- days

abbrev pub worse_of : WorstLoss → WorstLoss → WorstLoss
worse_of first other = if int_lt first.loss other.loss then other else first

pub day-first : (totals : List ℤ) (k : ℕ) → IsWorstOfDays (λ t. neg_ℤ (at totals t)) k 1 (loss_at totals k 0)
day-first totals k = record {
  scenario = refl;
  day = omega arith;
  loss = refl;
  bounds = λ t under. let here : neg_ℤ (at totals t) ≡ neg_ℤ (at totals 0) = ap (λ (t : ℕ). neg_ℤ (at totals t)) (omega (arith, under)) in omega (arith, ints, here);
  earlier_days = λ t under. absurd (omega (arith, under));
}

pub day-more : (totals : List ℤ) (k n : ℕ) (worst : WorstLoss) → IsWorstOfDays (λ t. neg_ℤ (at totals t)) k n worst
    → IsWorstOfDays (λ t. neg_ℤ (at totals t)) k (n + 1) (worse_of worst (loss_at totals k n))
day-more totals k n worst is = by_test (int_lt worst.loss (neg_ℤ (at totals n))) refl
  where
    losses : ℕ → ℤ
    losses t = neg_ℤ (at totals t)

    keep : (losses n ≤ℤ worst.loss) → (t : ℕ) → t < n + 1 → (t < n) ⊎ (n ≤ t) → losses t ≤ℤ worst.loss
    keep low t under (inl lower) = is.bounds t lower
    keep low t under (inr high) = let here : losses n ≡ losses t = ap losses (omega (arith, under, high)) in subst (λ z. z ≤ℤ worst.loss) here low

    take : (worst.loss <ℤ losses n) → (t : ℕ) → t < n + 1 → (t < n) ⊎ (n ≤ t) → losses t ≤ℤ losses n
    take above t under (inl lower) = let low : losses t ≤ℤ worst.loss = is.bounds t lower in omega (arith, ints, low, above)
    take above t under (inr high) = let here : losses n ≡ losses t = ap losses (omega (arith, under, high)) in omega (arith, ints, here)

    by_test : (b : Bool) → int_lt worst.loss (losses n) ≡ b → IsWorstOfDays losses k (n + 1) (if b then loss_at totals k n else worst)
    by_test true e =
        let above : worst.loss <ℤ losses n = grind (arith, ints, e) in
        record {
          scenario = refl;
          day = omega arith;
          loss = refl;
          bounds = λ t under. take above t under (cases_lt t n);
          earlier_days = λ t under. let low : losses t ≤ℤ worst.loss = is.bounds t under in omega (arith, ints, low, above);
        }
    by_test false e =
        let low : losses n ≤ℤ worst.loss = grind (arith, ints, e) in
        record {
          scenario = is.scenario;
          day = omega (arith, is.day);
          loss = is.loss;
          bounds = λ t under. keep low t under (cases_lt t n);
          earlier_days = is.earlier_days;
        }

-- ---- scenarios

loss-is : (c : CaseView) (a : Plan) (k : ℕ) (ledger : Ledger) → IsLedger c a k ledger → (t : ℕ) → t ≤ c.last → neg_ℤ (at ledger.total t) ≡ loss_of c a k t
loss-is c a k ledger is t within = ap neg_ℤ (is.total.each t within)

-- the first worst loss of a scenario, by the losses themselves
record IsWorstOf (c : CaseView) (a : Plan) (k : ℕ) (worst : WorstLoss) : Type 0 where
  scenario : worst.scenario ≡ k
  day : worst.day ≤ c.last
  loss : worst.loss ≡ loss_of c a k worst.day
  bounds : (t : ℕ) → t ≤ c.last → loss_of c a k t ≤ℤ worst.loss
  earlier_days : (t : ℕ) → t < worst.day → loss_of c a k t <ℤ worst.loss

of-scenario : (c : CaseView) (a : Plan) (k n : ℕ) (ledger : Ledger) (worst : WorstLoss) → n ≡ c.last + 1 → IsLedger c a k ledger
    → IsWorstOfDays (λ t. neg_ℤ (at ledger.total t)) k n worst → IsWorstOf c a k worst
of-scenario c a k n ledger worst e is days =
    let within : worst.day ≤ c.last = omega (arith, e, days.day) in
    record {
      scenario = days.scenario;
      day = within;
      loss = days.loss ∙ loss-is c a k ledger is worst.day within;
      bounds = λ t low. subst (λ z. z ≤ℤ worst.loss) (loss-is c a k ledger is t low) (days.bounds t (omega (arith, e, low)));
      earlier_days = λ t under. subst (λ z. z <ℤ worst.loss) (loss-is c a k ledger is t (omega (arith, under, within))) (days.earlier_days t under);
    }

pub scenario-first : (c : CaseView) (a : Plan) (n : ℕ) (ledger : Ledger) (worst : WorstLoss) → n ≡ c.last + 1 → IsLedger c a 0 ledger
    → IsWorstOfDays (λ t. neg_ℤ (at ledger.total t)) 0 n worst → IsWorstSoFar c a 1 worst
scenario-first c a n ledger worst e is days =
    let first = of-scenario c a 0 n ledger worst e is days in
    record {
      scenario = omega (arith, first.scenario);
      day = first.day;
      loss = first.loss ∙ ap (λ (k : ℕ). loss_of c a k worst.day) (sym first.scenario);
      bounds = λ k t under low. subst (λ (k : ℕ). loss_of c a k t ≤ℤ worst.loss) (zero-is k under) (first.bounds t low);
      earlier_scenarios = λ k t under low. absurd (omega (arith, under, first.scenario));
      earlier_days = λ t under. subst (λ (k : ℕ). loss_of c a k t <ℤ worst.loss) (sym first.scenario) (first.earlier_days t under);
      stays = λ k under. subst (StaysIn c a) (zero-is k under) is.stays;
    }
  where
    zero-is : (k : ℕ) → k < 1 → 0 ≡ k
    zero-is k under = omega (arith, under)

pub scenario-more : (c : CaseView) (a : Plan) (k n : ℕ) (ledger : Ledger) (worst other : WorstLoss) → n ≡ c.last + 1 → IsLedger c a k ledger
    → IsWorstOfDays (λ t. neg_ℤ (at ledger.total t)) k n other → IsWorstSoFar c a k worst → IsWorstSoFar c a (k + 1) (worse_of worst other)
scenario-more c a k n ledger worst other e is days before = by_test (int_lt worst.loss other.loss) refl
  where
    here : IsWorstOf c a k other
    here = of-scenario c a k n ledger other e is days

    stay : (j : ℕ) → j < k + 1 → (j < k) ⊎ (k ≤ j) → StaysIn c a j
    stay j under (inl lower) = before.stays j lower
    stay j under (inr high) = let same : k ≡ j = omega (arith, under, high) in subst (StaysIn c a) same is.stays

    keep : (other.loss ≤ℤ worst.loss) → (j t : ℕ) → j < k + 1 → t ≤ c.last → (j < k) ⊎ (k ≤ j) → loss_of c a j t ≤ℤ worst.loss
    keep low j t under within (inl lower) = before.bounds j t lower within
    keep low j t under within (inr high) =
        let same : k ≡ j = omega (arith, under, high) in
        let mine : loss_of c a k t ≤ℤ other.loss = here.bounds t within in
        let all : loss_of c a k t ≤ℤ worst.loss = omega (arith, ints, mine, low) in
        subst (λ (i : ℕ). loss_of c a i t ≤ℤ worst.loss) same all

    take : (worst.loss <ℤ other.loss) → (j t : ℕ) → j < k + 1 → t ≤ c.last → (j < k) ⊎ (k ≤ j) → loss_of c a j t ≤ℤ other.loss
    take above j t under within (inl lower) = let low : loss_of c a j t ≤ℤ worst.loss = before.bounds j t lower within in omega (arith, ints, low, above)
    take above j t under within (inr high) =
        let same : k ≡ j = omega (arith, under, high) in subst (λ (i : ℕ). loss_of c a i t ≤ℤ other.loss) same (here.bounds t within)

    by_test : (b : Bool) → int_lt worst.loss other.loss ≡ b → IsWorstSoFar c a (k + 1) (if b then other else worst)
    by_test true q =
        let above : worst.loss <ℤ other.loss = grind (arith, ints, q) in
        record {
          scenario = omega (arith, here.scenario);
          day = here.day;
          loss = here.loss ∙ ap (λ (i : ℕ). loss_of c a i other.day) (sym here.scenario);
          bounds = λ j t under within. take above j t under within (cases_lt j k);
          earlier_scenarios = λ j t under within.
              let low : loss_of c a j t ≤ℤ worst.loss = before.bounds j t (omega (arith, under, here.scenario)) within in omega (arith, ints, low, above);
          earlier_days = λ t under. subst (λ (i : ℕ). loss_of c a i t <ℤ other.loss) (sym here.scenario) (here.earlier_days t under);
          stays = λ j under. stay j under (cases_lt j k);
        }
    by_test false q =
        let low : other.loss ≤ℤ worst.loss = grind (arith, ints, q) in
        record {
          scenario = omega (arith, before.scenario);
          day = before.day;
          loss = before.loss;
          bounds = λ j t under within. keep low j t under within (cases_lt j k);
          earlier_scenarios = before.earlier_scenarios;
          earlier_days = before.earlier_days;
          stays = λ j under. stay j under (cases_lt j k);
        }

-- all scenarios
pub worst-all : (c : CaseView) (a : Plan) (n : ℕ) (worst : WorstLoss) → n ≡ length c.scenarios → IsWorstSoFar c a n worst → IsWorstLoss c a worst
worst-all c a n worst e all =
    let least : worst_loss c a ≤ℤ worst.loss =
    greatest_to-le (length c.scenarios - 1) (λ k. greatest_to c.last (loss_of c a k)) worst.loss
    (λ k low. greatest_to-le c.last (loss_of c a k) worst.loss (λ t within. all.bounds k t (omega (arith, e, low, all.scenario)) within)) in
    let one : loss_of c a worst.scenario worst.day ≤ℤ greatest_to c.last (loss_of c a worst.scenario) = greatest_to-bounds c.last (loss_of c a worst.scenario) worst.day all.day in
    let two : greatest_to c.last (loss_of c a worst.scenario) ≤ℤ worst_loss c a =
    greatest_to-bounds (length c.scenarios - 1) (λ k. greatest_to c.last (loss_of c a k)) worst.scenario (omega (arith, e, all.scenario)) in
    let same : worst.loss ≡ worst_loss c a = omega (arith, ints, least, one, two, all.loss) in
    record {
      loss = same;
      place = record {
        scenario = omega (arith, e, all.scenario);
        day = all.day;
        worst = sym all.loss ∙ same;
        earlier_scenarios = λ j s under within. subst (λ z. loss_of c a j s <ℤ z) same (all.earlier_scenarios j s under within);
        earlier_days = λ s under. subst (λ z. loss_of c a worst.scenario s <ℤ z) same (all.earlier_days s under);
      };
      stays = λ k under. all.stays k (omega (arith, e, under));
    }

-- a fault of a scenario is one of the calendar where none before it leaves
pub stops-scenario : (c : CaseView) (a : Plan) (k : ℕ) (fault : ReplayFault) → k < length c.scenarios → ((j : ℕ) → j < k → StaysIn c a j)
    → StopsReplay c a k fault → StopsWorst c a fault
stops-scenario c a k (TooWide scenario day) known earlier stops = record {
  scenario = omega (arith, stops.0, known);
  earlier_scenarios = λ j under. earlier j (omega (arith, stops.0, under));
  day = subst (λ (j : ℕ). LeavesOn c a j day) (sym stops.0) stops.1;
}
stops-scenario c a k NoMemory known earlier stops = tt
