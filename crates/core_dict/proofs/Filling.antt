-- Lists that are filled one after the other.
use Rattle.std.proofs.Common.{◌≡◌, ℕ, ◌+◌, ◌<◌, List, [], ◌∷◌, ◌++◌, length, get_or, sym, subst, arith, below_more}
use Rattle.std.proofs.Math.Seq.{get_or-append_seam}
use Rattle.std.proofs.lemmas.List.{get_or_append_left}

-- what holds of each and of one that is pushed
pub each_pushed : {A : Type 0} (P : ℕ → A → Type 0) (xs : List A) (n : ℕ) (y : A) → length xs ≡ n
    → ((k : ℕ) (x : A) → k < n → P k (get_or xs k x)) → P n y
    → (k : ℕ) (x : A) → k < n + 1 → P k (get_or (xs ++ y ∷ []) k x)
each_pushed {A} P xs n y e before here = λ k x l. all k l x
  where
    last : (x : A) (m : ℕ) → length xs ≡ m → P m y → P m (get_or (xs ++ y ∷ []) m x)
    last x m f p = subst (P m) (sym (subst (λ (i : ℕ). get_or (xs ++ y ∷ []) i x ≡ y) f (get_or-append_seam xs y [] x))) p

    all : (k : ℕ) → k < n + 1 → (x : A) → P k (get_or (xs ++ y ∷ []) k x)
    all = below_more (λ (k : ℕ). (x : A) → P k (get_or (xs ++ y ∷ []) k x)) n
        (λ k l x. subst (P k) (sym (get_or_append_left xs (y ∷ []) x k (omega (arith, l, e)))) (before k x l))
        (λ x. last x n e here)
