-- What a member adds to the weighted closings of a pool.
use Rattle.std.proofs.Common.{◌≡◌, sym, ◌∙◌, ap, ℕ, arith, ℤ, pos, ◌+ℤ◌, ◌*ℤ◌, Bool, true, false, ◌||◌, List, [], ◌∷◌, ◌++◌, if◌then◌else◌, Option, Some, None}
use Rattle.std.proofs.lemmas.Int.{ints}
use Rattle.std.proofs.lemmas.List.Folds.{list_any-append}
use Rattle.core_sums.specs.Sums.{total, partial_sums}
use Rattle.core_sums.specs.Widths.{most, leaves, any_leaves}
use Rattle.core_book.specs.View.{CaseView, member}
use Rattle.core_model.specs.Closing.{Plan, is_pooled}
use Rattle.core_model.specs.Check.{day_closings}
use Rattle.core_wide.specs.Steps.{summed, with_product}
use Rattle.core_check.specs.Steps.{pooled_step, pooled_numbers}
use Rattle.core_wide.proofs.Adding.{some-chosen, none-chosen, summed-none}
use Rattle.core_check.proofs.Judging.{summed-same}

-- the sum after a member, by whether it is one of the pool
abbrev sum_after : CaseView → Plan → ℕ → ℕ → ℤ → Bool → Option ℤ
sum_after c a u m s b =
    let closed = day_closings c a u m in
    let term = (member c m).weight *ℤ total closed in
    summed s (if b then partial_sums (pos 0) closed ++ (term ∷ []) else []) (if b then term ∷ [] else [])

pub other-pool : (c : CaseView) (a : Plan) (p u m : ℕ) (s : ℤ) → is_pooled c p u m ≡ false → Some s ≡ summed s (pooled_numbers c a p u m) (pooled_step c a p u m)
other-pool c a p u m s other = sym (ap (sum_after c a u m s) other ∙ summed-none s)

-- the sums of what is closed are met first
closed-leaves : (xs : List ℤ) (term s : ℤ) → summed (pos 0) [] xs ≡ None → summed s (partial_sums (pos 0) xs ++ (term ∷ [])) (term ∷ []) ≡ None
unfolding summed
closed-leaves xs term s e =
    let out : any_leaves (partial_sums (pos 0) xs) ≡ true = none-chosen (any_leaves (partial_sums (pos 0) xs)) (pos 0 +ℤ total xs) e in
    let first : any_leaves (partial_sums (pos 0) xs ++ (term ∷ [])) ≡ true =
    list_any-append (leaves most) (partial_sums (pos 0) xs) (term ∷ []) ∙ ap (λ b. b || any_leaves (term ∷ [])) out in
    let all : any_leaves ((partial_sums (pos 0) xs ++ (term ∷ [])) ++ partial_sums s (term ∷ [])) ≡ true =
    list_any-append (leaves most) (partial_sums (pos 0) xs ++ (term ∷ [])) (partial_sums s (term ∷ [])) ∙ ap (λ b. b || any_leaves (partial_sums s (term ∷ []))) first in
    ap (λ b. if b then None else Some (s +ℤ total (term ∷ []))) all

closed-stays : (xs : List ℤ) (weight s z : ℤ) → summed (pos 0) [] xs ≡ Some z
    → with_product s (weight *ℤ z) ≡ summed s (partial_sums (pos 0) xs ++ ((weight *ℤ total xs) ∷ [])) ((weight *ℤ total xs) ∷ [])
unfolding summed
closed-stays xs weight s z e =
    let first = some-chosen (any_leaves (partial_sums (pos 0) xs)) (pos 0 +ℤ total xs) z e in
    let sum : z ≡ total xs = omega (arith, ints, first.1) in
    let term = weight *ℤ total xs in
    let same : any_leaves (term ∷ []) ≡ any_leaves (partial_sums (pos 0) xs ++ (term ∷ [])) =
    sym (list_any-append (leaves most) (partial_sums (pos 0) xs) (term ∷ []) ∙ ap (λ b. b || any_leaves (term ∷ [])) first.0) in
    ap (λ y. with_product s (weight *ℤ y)) sum ∙ summed-same s (term ∷ []) (partial_sums (pos 0) xs ++ (term ∷ [])) (term ∷ []) same

pub pool-leaves : (c : CaseView) (a : Plan) (p u m : ℕ) (s : ℤ) → is_pooled c p u m ≡ true → summed (pos 0) [] (day_closings c a u m) ≡ None
    → None ≡ summed s (pooled_numbers c a p u m) (pooled_step c a p u m)
pool-leaves c a p u m s here e =
    sym
    (ap (sum_after c a u m s) here
    ∙ closed-leaves (day_closings c a u m) ((member c m).weight *ℤ total (day_closings c a u m)) s e)

pub pool-stays : (c : CaseView) (a : Plan) (p u m : ℕ) (s z : ℤ) → is_pooled c p u m ≡ true → summed (pos 0) [] (day_closings c a u m) ≡ Some z
    → with_product s ((member c m).weight *ℤ z) ≡ summed s (pooled_numbers c a p u m) (pooled_step c a p u m)
pool-stays c a p u m s z here e =
    closed-stays (day_closings c a u m) (member c m).weight s z e ∙ sym (ap (sum_after c a u m s) here)
