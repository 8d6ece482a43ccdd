-- What a certificate that passes the check says of its sums.
use Rattle.std.proofs.Common.{◌≡◌, refl, sym, ◌∙◌, ap, ℕ, zero, suc, ◌<◌, ◌≤◌, ◌⊎◌, inl, inr, arith, ℤ, pos, ◌*ℤ◌, int_le, Bool, true, false, true≢false, not, ◌&&◌, List, [], ◌∷◌, ◌++◌, length, map, if◌then◌else◌}
use Rattle.std.specs.List.{list_all}
use Rattle.std.proofs.lemmas.Bool.{and_parts, cases_Bool, cases_lt, or_parts}
use Rattle.std.proofs.lemmas.List.Folds.{list_all-append, list_any-append}
use Rattle.core_sums.specs.Sums.{partial_sums}
use Rattle.core_sums.specs.Places.{below, days_to, each}
use Rattle.core_sums.specs.Widths.{most, leaves, any_leaves}
use Rattle.core_sums.proofs.Joined.{each-below-more, each-filter, each-map, each-single}
use Rattle.core_sums.proofs.Leaving.{one-of-each}
use Rattle.core_sums.proofs.Lists.{days_to-below}
use Rattle.core_book.specs.View.{CaseView, counts, limit, pool, tiers}
use Rattle.core_model.specs.declared.condition.Condition.{Condition}
use Rattle.core_model.specs.Closing.{Plan, IsClosingDay, IsTierNumber, is_pooled}
use Rattle.core_model.specs.Check.{Test, Place, places_of, Verdict, Passed, Failed, Wide, verdict_of, against, plain, by_limit, by_pool_and_day, limit_test, pool_test, tier_closings, day_closings, members_of_pool, pool_terms}

-- ---- the first place passes, and so do two parts of a list

first-passes : (w h : Bool) (a b p q : ℕ) (rest : Verdict) → (if w then Wide a b else if h then rest else Failed p q) ≡ Passed
    → (w ≡ false) × (h ≡ true) × (rest ≡ Passed)
first-passes true h a b p q rest e = absurd (cc)
first-passes false false a b p q rest e = absurd (cc)
first-passes false true a b p q rest e = (refl, refl, e)

pub place-passes : (x : Place) (xs : List Place) → verdict_of (x ∷ xs) ≡ Passed
    → (any_leaves x.test.numbers ≡ false) × (x.test.holds ≡ true) × (verdict_of xs ≡ Passed)
unfolding verdict_of
place-passes x xs e = first-passes (any_leaves x.test.numbers) x.test.holds x.condition x.place x.condition x.place (verdict_of xs) e

passes-first : (x : Place) (xs : List Place) → any_leaves x.test.numbers ≡ false → x.test.holds ≡ true → verdict_of xs ≡ Passed → verdict_of (x ∷ xs) ≡ Passed
unfolding verdict_of
passes-first x xs stays holds rest =
    ap (λ b. if b then Wide x.condition x.place else if x.test.holds then verdict_of xs else Failed x.condition x.place) stays
    ∙ ap (λ b. if b then verdict_of xs else Failed x.condition x.place) holds
    ∙ rest

none-passes : verdict_of [] ≡ Passed
unfolding verdict_of
none-passes = refl

pub parts-pass : (xs ys : List Place) → verdict_of (xs ++ ys) ≡ Passed → (verdict_of xs ≡ Passed) × (verdict_of ys ≡ Passed)
parts-pass [] ys e = (none-passes, e)
parts-pass (x ∷ xs) ys e =
    let here = place-passes x (xs ++ ys) e in
    let rest = parts-pass xs ys here.2 in
    (passes-first x xs here.0 here.1 rest.0, rest.1)

-- ---- the tests of a condition

abbrev pub test_stays : Test → Bool
test_stays x = not (any_leaves x.numbers)

not-true : (b : Bool) → not b ≡ true → b ≡ false
not-true true e = absurd (cc)
not-true false e = refl

pub tests-stay : (condition : Condition) (first : ℕ) (xs : List Test) → verdict_of (places_of condition first xs) ≡ Passed → list_all test_stays xs ≡ true
unfolding places_of
tests-stay condition first [] e = refl
tests-stay condition first (x ∷ xs) e =
    let here = place-passes _ (places_of condition (suc first) xs) e in
    ap (λ b. not b && list_all test_stays xs) here.0 ∙ tests-stay condition (suc first) xs here.2

-- of each number below a bound, and of each day
all-of-each : (n i : ℕ) (f : ℕ → List Test) → i < n → list_all test_stays (each (below n) f) ≡ true → list_all test_stays (f i) ≡ true
all-of-each zero i f under e = absurd (omega (arith, under))
all-of-each (suc n) i f under e =
    let parts = and_parts (list_all test_stays (each (below n) f)) (list_all test_stays (f n))
    (sym (ap (list_all test_stays) (each-below-more n f) ∙ list_all-append test_stays (each (below n) f) (f n)) ∙ e) in
    split (λ lower. all-of-each n i f lower parts.0) parts.1 (cases_lt i n)
  where
    split : (i < n → list_all test_stays (f i) ≡ true) → list_all test_stays (f n) ≡ true → (i < n) ⊎ (n ≤ i) → list_all test_stays (f i) ≡ true
    split before here (inl lower) = before lower
    split before here (inr high) = let same : i ≡ n = omega (arith, under, high) in ap (λ (k : ℕ). list_all test_stays (f k)) same ∙ here

all-of-days : (h u : ℕ) (f : ℕ → List Test) → 1 ≤ u → u ≤ h → list_all test_stays (each (days_to h) f) ≡ true → list_all test_stays (f u) ≡ true
all-of-days h zero f low high e = absurd (omega (arith, low))
all-of-days h (suc v) f low high e =
    all-of-each h v (λ j. f (suc j)) (omega (arith, high))
    (sym (ap (list_all test_stays) (ap (λ days. each days f) (days_to-below h) ∙ each-map (below h) suc f)) ∙ e)

one-stays : (x : Test) → list_all test_stays (x ∷ []) ≡ true → any_leaves x.numbers ≡ false
one-stays x e = not-true (any_leaves x.numbers) (and_parts (test_stays x) true e).0

mapped-stays : (h u : ℕ) (f : ℕ → Test) → 1 ≤ u → u ≤ h → list_all test_stays (map f (days_to h)) ≡ true → any_leaves (f u).numbers ≡ false
mapped-stays h u f low high e =
    one-stays (f u) (all-of-days h u (λ v. f v ∷ []) low high (ap (list_all test_stays) (each-single (days_to h) f) ∙ e))

-- ---- limits and pools

limit-numbers : (c : CaseView) (f : ℕ → ℕ → ℕ → Test) (i u j : ℕ) → i < length c.instruments → IsClosingDay c u → IsTierNumber c j
    → list_all test_stays (by_limit c f) ≡ true → any_leaves (f i u j).numbers ≡ false
limit-numbers c f i u j known day tier e =
    mapped-stays (tiers c) j (f i u) tier.0 tier.1
    (all-of-days c.horizon u (λ v. map (f i v) (days_to (tiers c))) day.0 day.1
    (all-of-each (length c.instruments) i (λ k. each (days_to c.horizon) (λ v. map (f k v) (days_to (tiers c)))) known e))

pub limit-sums-stay : (c : CaseView) (a : Plan) (i u j : ℕ) → i < length c.instruments → IsClosingDay c u → IsTierNumber c j → counts c i u ≡ true
    → list_all test_stays (by_limit c (limit_test c a)) ≡ true → any_leaves (partial_sums (pos 0) (tier_closings c a i u j)) ≡ false
limit-sums-stay c a i u j known day tier counting e =
    let product = limit c i u j *ℤ a.den in
    let numbers : any_leaves (against product int_le (tier_closings c a i u j)).numbers ≡ false =
    sym (ap (λ b. any_leaves (if b then against product int_le (tier_closings c a i u j) else plain true).numbers) counting) ∙ limit-numbers c (limit_test c a) i u j known day tier e in
    (or_parts (any_leaves (partial_sums (pos 0) (tier_closings c a i u j))) (any_leaves (product ∷ []))
    (sym (list_any-append (leaves most) (partial_sums (pos 0) (tier_closings c a i u j)) (product ∷ [])) ∙ numbers)).0

-- the numbers of a pool on a day
pub record PoolStays (c : CaseView) (a : Plan) (p u : ℕ) : Type 0 where
  pub members : any_leaves (each (members_of_pool c p u) (λ m. partial_sums (pos 0) (day_closings c a u m))) ≡ false
  pub terms : any_leaves (pool_terms c a p u) ≡ false
  pub sums : any_leaves (partial_sums (pos 0) (pool_terms c a p u)) ≡ false

pub pool-stays : (c : CaseView) (a : Plan) (p u : ℕ) → p < length c.pools → IsClosingDay c u
    → list_all test_stays (by_pool_and_day c (pool_test c a)) ≡ true → PoolStays c a p u
pool-stays c a p u known day e =
    let members = each (members_of_pool c p u) (λ m. partial_sums (pos 0) (day_closings c a u m)) in
    let terms = pool_terms c a p u in
    let product = (pool c p).cap *ℤ a.den in
    let sums = partial_sums (pos 0) terms ++ (product ∷ []) in
    let numbers : any_leaves ((members ++ terms) ++ sums) ≡ false =
    mapped-stays c.horizon u (pool_test c a p) day.0 day.1
    (all-of-each (length c.pools) p (λ q. map (pool_test c a q) (days_to c.horizon)) known e) in
    let parts = or_parts (any_leaves (members ++ terms)) (any_leaves sums) (sym (list_any-append (leaves most) (members ++ terms) sums) ∙ numbers) in
    let first = or_parts (any_leaves members) (any_leaves terms) (sym (list_any-append (leaves most) members terms) ∙ parts.0) in
    let second = or_parts (any_leaves (partial_sums (pos 0) terms)) (any_leaves (product ∷ [])) (sym (list_any-append (leaves most) (partial_sums (pos 0) terms) (product ∷ [])) ∙ parts.1) in
    record { members = first.0; terms = first.1; sums = second.0 }

-- and of each member that counts
pub member-stays : (c : CaseView) (a : Plan) (p u m : ℕ) → PoolStays c a p u → m < length c.members → is_pooled c p u m ≡ true
    → any_leaves (partial_sums (pos 0) (day_closings c a u m)) ≡ false
member-stays c a p u m stays known kept = by_test (cases_Bool (any_leaves (partial_sums (pos 0) (day_closings c a u m))))
  where
    sums : ℕ → List ℤ
    sums k = partial_sums (pos 0) (day_closings c a u k)

    by_test : (any_leaves (sums m) ≡ true) ⊎ (any_leaves (sums m) ≡ false) → any_leaves (sums m) ≡ false
    by_test (inr good) = good
    by_test (inl bad) =
        let here : any_leaves (if is_pooled c p u m then sums m else []) ≡ true = ap (λ b. any_leaves (if b then sums m else [])) kept ∙ bad in
        let all : any_leaves (each (members_of_pool c p u) sums) ≡ true =
        ap any_leaves (each-filter (is_pooled c p u) sums (below (length c.members)))
        ∙ one-of-each (length c.members) m (λ k. if is_pooled c p u k then sums k else []) known here in
        absurd (true≢false (sym all ∙ stays.members))
