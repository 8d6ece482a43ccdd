-- What a report is made of is fixed: the dates, the worst scenario and day, the greatest losses.
use Rattle.std.proofs.Common.{◌≡◌, refl, sym, ◌∙◌, ap, subst, ℕ, ◌<◌, ◌≤◌, inl, inr, arith, ℤ, ◌<ℤ◌, false, true≢false, List, []}
use Rattle.std.specs.declared.cmp.Ordering.{Ordering}
use Rattle.std.specs.declared.cmp.Ordering.TheVariants.{Less, Equal, Greater}
use Rattle.std.specs.Cmp.{IsTotalOrder}
use Rattle.std.specs.Ordering.{int_cmp, is_gt, is_lt, nat_cmp, ordering_reverse, ordering_then}
use Rattle.std.proofs.lemmas.Bool.{cases_lt}
use Rattle.std.proofs.lemmas.Cmp.{back_total, int_cmp_total, nat_cmp_total, on_total, then_total}
use Rattle.std.proofs.lemmas.Int.{ints}
use Rattle.std.proofs.lemmas.List.{get_or_default, same_lists}
use Rattle.std.proofs.lemmas.List.MinMax.{ranks_by}
use Rattle.std.proofs.lemmas.Map.Lookups.{exact_signed, exact_unsigned}
use Rattle.itertools.specs.Extremes.{by_cmp}
use Rattle.core_sums.specs.Places.{row_at}
use Rattle.core_rows.proofs.Dates.{one-text}
use Rattle.core_book.specs.View.{CaseView, date}
use Rattle.core_model.specs.Closing.{Plan}
use Rattle.core_replay.specs.Ledger.{IsWorstAt, LeavesFirst, NoneLeaves}
use Rattle.core_report.specs.declared.top.Loss.{Loss}
use Rattle.core_report.specs.Ranking.{AreTop, losses, ranking}
use Rattle.core_report.specs.Report.{AreDates}
use Rattle.core_report.proofs.Least.{k-least-one}

pub dates-one : (c : CaseView) (xs ys : List (List ℕ)) → AreDates c xs → AreDates c ys → xs ≡ ys
dates-one c xs ys one two =
    same_lists xs ys (one.count ∙ sym two.count)
    (λ t d under.
    let within : t ≤ c.last = omega (arith, under, one.count) in
    get_or_default xs t d [] under
    ∙ one-text (row_at xs t) (row_at ys t) (date c t) (one.each t within) (two.each t within)
    ∙ get_or_default ys t [] d (omega (arith, within, two.count)))

-- two numbers, neither of which is below the other
number-one : (m n : ℕ) → (m < n → ⊥) → (n < m → ⊥) → m ≡ n
number-one m n up down = elim (cases_lt m n) [
  | inl below ↦ absurd (up below)
  | inr from ↦ elim (cases_lt n m) [
    | inl above ↦ absurd (down above)
    | inr to ↦ omega (arith, from, to)
  ]
]

not-below : (x y : ℤ) → x ≡ y → x <ℤ y → ⊥
not-below x y same below = absurd (omega (arith, ints, same, below))

-- ---- the worst scenario and day

worst-scenario : (c : CaseView) (a : Plan) (k t j s : ℕ) → IsWorstAt c a k t → IsWorstAt c a j s → k < j → ⊥
worst-scenario c a k t j s one two before = not-below _ _ one.worst (two.earlier_scenarios k t before one.day)

worst-day : (c : CaseView) (a : Plan) (k t s : ℕ) → IsWorstAt c a k t → IsWorstAt c a k s → t < s → ⊥
worst-day c a k t s one two before = not-below _ _ one.worst (two.earlier_days t before)

pub worst-one : (c : CaseView) (a : Plan) (k t j s : ℕ) → IsWorstAt c a k t → IsWorstAt c a j s → k ≡ j
worst-one c a k t j s one two = number-one k j (worst-scenario c a k t j s one two) (worst-scenario c a j s k t two one)

-- ---- the first scenario and day on which a number leaves

leaves-scenario : (c : CaseView) (a : Plan) (k t j s : ℕ) → LeavesFirst c a k t → LeavesFirst c a j s → k < j → ⊥
leaves-scenario c a k t j s one two before =
    true≢false (sym one.day.leaving ∙ two.earlier_scenarios k before t one.day.within)

leaves-day : (c : CaseView) (a : Plan) (k t s : ℕ) → LeavesFirst c a k t → LeavesFirst c a k s → t < s → ⊥
leaves-day c a k t s one two before = true≢false (sym one.day.leaving ∙ two.day.earlier_days t before)

pub leaves-one : (c : CaseView) (a : Plan) (k j t s : ℕ) → LeavesFirst c a k t → LeavesFirst c a j s → (k ≡ j) × (t ≡ s)
leaves-one c a k j t s one two =
    let scenario = number-one k j (leaves-scenario c a k t j s one two) (leaves-scenario c a j s k t two one) in
    let same : LeavesFirst c a k s = subst (λ (i : ℕ). LeavesFirst c a i s) (sym scenario) two in
    (scenario, number-one t s (leaves-day c a k t s one same) (leaves-day c a k s t same one))

pub stays-or-leaves : (c : CaseView) (a : Plan) (k t : ℕ) → NoneLeaves c a → LeavesFirst c a k t → ⊥
stays-or-leaves c a k t stays leaves =
    true≢false (sym leaves.day.leaving ∙ stays k leaves.scenario t leaves.day.within)

-- ---- the greatest losses

ranking-total : IsTotalOrder ranking
ranking-total = then_total (back_total (on_total (λ (l : Loss). l.loss) int_cmp_total)) (then_total (on_total (λ (l : Loss). l.scenario) nat_cmp_total) (on_total (λ (l : Loss). l.day) nat_cmp_total))

both-equal : (a b : Ordering) → ordering_then a b ≡ Equal → (a ≡ Equal) × (b ≡ Equal)
both-equal Less b e = absurd (true≢false (ap is_lt e))
both-equal Equal b e = (refl, e)
both-equal Greater b e = absurd (true≢false (ap is_gt e))

-- losses that the ranking does not tell apart are the same
tie-same : (x y : Loss) → ranking x y ≡ Equal → x ≡ y
tie-same x y tie =
    let first = both-equal (int_cmp y.loss x.loss) (ordering_then (nat_cmp x.scenario y.scenario) (nat_cmp x.day y.day)) tie in
    let later = both-equal (nat_cmp x.scenario y.scenario) (nat_cmp x.day y.day) first.1 in
    let loss = sym (exact_signed y.loss x.loss first.0) in
    let scenario = exact_unsigned x.scenario y.scenario later.0 in
    let day = exact_unsigned x.day y.day later.1 in
    λ i. record { loss = loss i; scenario = scenario i; day = day i }

tied : (r : Ordering) → is_lt r ≡ false → is_lt (ordering_reverse r) ≡ false → r ≡ Equal
tied Less up down = absurd (true≢false up)
tied Equal up down = refl
tied Greater up down = absurd (true≢false down)

ranked-apart : (x y : Loss) → by_cmp ranking x y ≡ false → by_cmp ranking y x ≡ false → x ≡ y
ranked-apart x y up down = tie-same x y (tied (ranking x y) up (sym (ap is_lt (ranking-total.antisymm y x)) ∙ down))

pub top-one : (c : CaseView) (a : Plan) (xs ys : List Loss) → AreTop c a xs → AreTop c a ys → xs ≡ ys
top-one c a xs ys = k-least-one (by_cmp ranking) (ranks_by ranking-total (λ x. x)) ranked-apart 5 (losses c a) xs ys
