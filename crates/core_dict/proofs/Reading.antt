-- Lists of numbers that are read as fractions: a written place, a number pushed, and operations with 0.
use Rattle.std.proofs.Common.{◌≡◌, ◌≢◌, ℕ, ◌+◌, ◌<◌, ◌≤◌, ◌⊎◌, inl, inr, true, false, List, [], ◌∷◌, ◌++◌}
use Rattle.std.proofs.Common.{length, get_or, set, sym, ap, refl, ◌∙◌, subst, arith, below_more, length-append}
use Rattle.std.proofs.Math.Seq.{get_or-append_seam}
use Rattle.std.proofs.lemmas.Bool.{cases_lt}
use Rattle.std.proofs.lemmas.List.{get_or-set_same, get_or-set_other, get_or_append_left, length-set}
use Rattle.algebra.proofs.Ring.{v, ◌⊗◌, 𝟎, ring}
use Rattle.fractions.specs.Fraction.{Fraction, zero_q, ◌*ℚ◌}
use Rattle.fractions.specs.Leaves.{OverLeaves}
use Rattle.fractions.proofs.Field.{field}
use Rattle.core_dict.specs.Rows.{fraction_at}
use Rattle.core_dict.specs.DenseLaw.{fraction_here, fraction_past}

-- ---- 0
pub zero-times : (b : Fraction) → zero_q *ℚ b ≡ zero_q
zero-times b = ring field (b ∷ []) (𝟎 ⊗ v 0) 𝟎 refl

-- 0 divided is itself
pub zero_divided : (a b : Fraction) → a ≡ zero_q → a ≡ a *ℚ b
zero_divided a b e = e ∙ sym (zero-times b) ∙ ap (λ (y : Fraction). y *ℚ b) (sym e)

-- what does not leave does not leave as it is called elsewhere
pub not_left : (most : ℕ) (a b x y : Fraction) → a ≡ x → b ≡ y → (OverLeaves most a b → false ≡ true)
    → OverLeaves most x y → ⊥
not_left most a b x y e f h k =
    no (h (subst (λ (z : Fraction). OverLeaves most z b) (sym e) (subst (λ (z : Fraction). OverLeaves most x z) (sym f) k)))
  where
    no : false ≡ true → ⊥
    no k = cc

-- ---- places
module _ {E : Type 0} (read : E → Fraction) where
  -- the number that stands at a place
  pub fraction_is : (xs : List E) (j : ℕ) (x : E) → j < length xs → x ≡ get_or xs j x → fraction_at read xs j ≡ read x
  fraction_is xs j x l e = fraction_here read xs j x l ∙ ap read (sym e)

  -- a written place
  pub fraction_written : (xs : List E) (j : ℕ) (x : E) → j < length xs → fraction_at read (set xs j x) j ≡ read x
  fraction_written xs j x l =
      fraction_here read (set xs j x) j x (subst (λ (n : ℕ). j < n) (sym (length-set xs j x)) l)
      ∙ ap read (get_or-set_same xs j x x l)

  -- and the others
  pub fraction_kept : (xs : List E) (j k : ℕ) (x : E) → k ≢ j → fraction_at read (set xs j x) k ≡ fraction_at read xs k
  fraction_kept xs j k x h = by (cases_lt k (length xs))
    where
      by : (k < length xs) ⊎ (length xs ≤ k) → fraction_at read (set xs j x) k ≡ fraction_at read xs k
      by (inl l) =
          fraction_here read (set xs j x) k x (subst (λ (n : ℕ). k < n) (sym (length-set xs j x)) l)
          ∙ ap read (get_or-set_other xs j k x x h) ∙ sym (fraction_here read xs k x l)
      by (inr l) =
          fraction_past read (set xs j x) k (subst (λ (n : ℕ). n ≤ k) (sym (length-set xs j x)) l)
          ∙ sym (fraction_past read xs k l)

  -- one more place is written as it should be
  pub more_written : (xs : List E) (j : ℕ) (x : E) (f : ℕ → Fraction) → j < length xs
      → ((k : ℕ) → k < j → fraction_at read xs k ≡ f k) → read x ≡ f j
      → (k : ℕ) → k < j + 1 → fraction_at read (set xs j x) k ≡ f k
  more_written xs j x f l below here =
      below_more (λ (k : ℕ). fraction_at read (set xs j x) k ≡ f k) j
      (λ k m. fraction_kept xs j k x (apart k m) ∙ below k m) (fraction_written xs j x l ∙ here)
    where
      apart : (k : ℕ) → k < j → k ≡ j → ⊥
      apart k m e = omega arith

  -- or pushed
  pub more_pushed : (xs : List E) (n : ℕ) (x : E) (f : ℕ → Fraction) → length xs ≡ n
      → ((k : ℕ) → k < n → fraction_at read xs k ≡ f k) → read x ≡ f n
      → (k : ℕ) → k < n + 1 → fraction_at read (xs ++ x ∷ []) k ≡ f k
  more_pushed xs n x f e below here = below_more (λ (k : ℕ). fraction_at read (xs ++ x ∷ []) k ≡ f k) n before last
    where
      long : (k : ℕ) → k < n + 1 → k < length (xs ++ x ∷ [])
      long k m = omega (arith, length-append xs (x ∷ []))

      before : (k : ℕ) → k < n → fraction_at read (xs ++ x ∷ []) k ≡ f k
      before k m = fraction_here read (xs ++ x ∷ []) k x (long k (omega arith))
          ∙ ap read (get_or_append_left xs (x ∷ []) x k (omega arith)) ∙ sym (fraction_here read xs k x (omega arith))
          ∙ below k m

      last : fraction_at read (xs ++ x ∷ []) n ≡ f n
      last = fraction_here read (xs ++ x ∷ []) n x (long n (omega arith)) ∙ ap read (element n e) ∙ here
        where
          element : (n : ℕ) → length xs ≡ n → get_or (xs ++ x ∷ []) n x ≡ x
          element n e = subst (λ (m : ℕ). get_or (xs ++ x ∷ []) m x ≡ x) e (get_or-append_seam xs x [] x)
