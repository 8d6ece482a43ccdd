-- Lists by index that grow by one.
use Rattle.std.proofs.Common.{◌≡◌, sym, ◌∙◌, subst, ℕ, ◌+◌, ◌<◌, ◌≤◌, ◌⊎◌, inl, inr, arith, List, [], ◌∷◌, ◌++◌, get_or, length-append}
use Rattle.std.proofs.lemmas.Bool.{cases_lt}
use Rattle.std.proofs.lemmas.List.{get_or_append_left, get_or_push}
use Rattle.core_flows.specs.Tables.{IsTable}

-- nothing is listed yet
pub table-none : {A : Type 0} (P : ℕ → A → Type 0) (xs : List A) → xs ≡ [] → IsTable 0 P xs
table-none P xs e = rw e (record { count = omega arith; each = λ k d below. absurd (omega (arith, below)) })

-- one thing more
table-more : {A : Type 0} (P : ℕ → A → Type 0) (n : ℕ) (xs : List A) (x : A) → IsTable n P xs → P n x → IsTable (n + 1) P (xs ++ (x ∷ []))
table-more {A} P n xs x table here = record {
  count = omega (arith, length-append xs (x ∷ []), table.count);
  each = λ k d below. split k d below (cases_lt k n);
}
  where
    split : (k : ℕ) (d : A) → k < n + 1 → (k < n) ⊎ (n ≤ k) → P k (get_or (xs ++ (x ∷ [])) k d)
    split k d below (inl lower) =
        subst (P k) (sym (get_or_append_left xs (x ∷ []) d k (omega (arith, lower, table.count)))) (table.each k d lower)
    split k d below (inr high) =
        let last : n ≡ k = omega (arith, below, high) in
        let found : get_or (xs ++ (x ∷ [])) k d ≡ x = get_or_push xs x d k (table.count ∙ last) in
        subst (P k) (sym found) (subst (λ (m : ℕ). P m x) last here)

-- one thing more, as it is pushed
pub table-pushed : {A : Type 0} (P : ℕ → A → Type 0) (n : ℕ) (xs ys : List A) (x : A) → IsTable n P xs → P n x → ys ≡ xs ++ (x ∷ []) → IsTable (n + 1) P ys
table-pushed P n xs ys x table here e = subst (IsTable (n + 1) P) (sym e) (table-more P n xs x table here)
