-- The greatest losses of a calendar are losses of its scenarios and house days.
use Rattle.std.proofs.Common.{◌≡◌, sym, arith, ℕ, zero, suc, ◌<◌, ◌≤◌, List, [], ◌∷◌, ◌++◌, get_or, length, subst}
use Rattle.std.specs.List.{All}
use Rattle.std.proofs.lemmas.List.Elements.{All-append, All-get_or, All-nil, All-push}
use Rattle.std.proofs.lemmas.List.{get_or_append_left, length-append}
use Rattle.std.proofs.lemmas.List.Sorted.{All-permutation}
use Rattle.core_sums.specs.Places.{below, each}
use Rattle.core_sums.proofs.Joined.{each-below-more, each-none, each-single}
use Rattle.core_book.specs.View.{CaseView}
use Rattle.core_model.specs.Closing.{Plan, loss_of}
use Rattle.core_replay.specs.Ledger.{NoneLeaves}
use Rattle.core_report.specs.declared.top.Loss.{Loss}
use Rattle.core_report.specs.Ranking.{AreTop, loss_on, losses, losses_by_day}
use Rattle.core_report.specs.Records.{loss_at, no_loss}
use Rattle.core_report.specs.Stays.{IsPlaced}
use Rattle.core_report.proofs.Replayed.{loss-kept}

-- what holds of each part holds of the parts joined
each-holds : {A : Type 0} (P : A → Type 0) (n : ℕ) (f : ℕ → List A) → ((i : ℕ) → i < n → All P (f i)) → All P (each (below n) f)
each-holds P zero f holds = subst (All P) (sym (each-none f)) (All-nil P)
each-holds P (suc n) f holds =
    subst (All P) (sym (each-below-more n f))
    (All-append P (each (below n) f) (f n) (each-holds P n f (λ i under. holds i (omega (arith, under)))) (holds n (omega arith)))

-- what holds of two parts holds of the first
first-holds : {A : Type 0} (P : A → Type 0) (xs ys : List A) → All P (xs ++ ys) → All P xs
first-holds P xs ys holds =
    λ k d under.
    let same : get_or (xs ++ ys) k d ≡ get_or xs k d = get_or_append_left xs ys d k under in
    subst P same (holds k d (omega (arith, under, length-append xs ys)))

losses-placed : (c : CaseView) (a : Plan) → NoneLeaves c a → All (IsPlaced c) (losses c a)
losses-placed c a stays =
    each-holds (IsPlaced c) (length c.scenarios) (λ k. losses_by_day c k (loss_of c a k))
    (λ k known. subst (All (IsPlaced c)) (each-single (below (suc c.last)) (loss_on k (loss_of c a k)))
    (each-holds (IsPlaced c) (suc c.last) (λ t. loss_on k (loss_of c a k) t ∷ [])
    (λ t under. let within : t ≤ c.last = omega (arith, under) in
    All-push (IsPlaced c) [] (loss_on k (loss_of c a k) t) (All-nil (IsPlaced c))
    (record { scenario = known; day = within; kept = loss-kept c a k t (stays k known t within) }))))

pub top-placed : (c : CaseView) (a : Plan) (top : List Loss) → NoneLeaves c a → AreTop c a top → (n : ℕ) → n < length top → IsPlaced c (loss_at top n)
top-placed c a top stays is n under =
    let rest = is.2 in
    All-get_or (IsPlaced c) top n no_loss under
    (first-holds (IsPlaced c) top rest (All-permutation (IsPlaced c) (losses c a) (top ++ rest) is.3 (losses-placed c a stays)))
