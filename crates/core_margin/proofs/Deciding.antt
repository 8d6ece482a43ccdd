-- The numbers of a certificate leave a width, or they do not.
use Rattle.std.proofs.Common.{ℕ, ◌<◌, ◌≤◌, ◌⊎◌, inl, inr, suc, List, [], ◌∷◌, ℤ, All, Contains}
use Rattle.std.proofs.Common.{refl, arith}
use Rattle.std.proofs.Common.{unsigned_abs}
use Rattle.std.proofs.lemmas.Bool.{cases_lt}
use Rattle.std.proofs.lemmas.List.Elements.{All-nil, All-cons, All-contains}
use Rattle.fractions.specs.Fraction.{Fraction}
use Rattle.fractions.specs.Common.{common_den}
use Rattle.core_book.specs.View.{CaseView}
use Rattle.core_dict.specs.Dictionary.{Dictionary}
use Rattle.core_duals.specs.Lists.{primal_of, duals_of, farkas_of, over_common, CommonLeaves}
use Rattle.core_duals.specs.Lists.{Denominator, Numerator}
use Rattle.core_run.specs.Run.{Turn, Best, NoSolution, PivotOn}
use Rattle.core_lp.specs.Placing.{Numerators, in_common, fixed_placed, loss_placed, LossLeaves}
use Rattle.core_lp.specs.Placing.{Product}
use Rattle.core_lp.specs.Placing.{Difference, ClosesLeaves, Primal, Duals, Loss}
use Rattle.core_margin.specs.Last.{CertLeaves}

-- a fact is so or is not
abbrev pub IsOrNot : Type 0 → Type 0
IsOrNot P = P ⊎ ¬ P

module _ (most : ℕ) where
  -- a number of a list is above the greatest, or each is kept
  above_or_kept : (xs : List ℤ)
      → ((z : ℤ) × Contains xs z × (most < unsigned_abs z)) ⊎ All (λ z. unsigned_abs z ≤ most) xs
  above_or_kept [] = inr (All-nil (λ z. unsigned_abs z ≤ most))
  above_or_kept (x ∷ xs) = by (cases_lt most (unsigned_abs x)) (above_or_kept xs)
    where
      by : (most < unsigned_abs x) ⊎ (unsigned_abs x ≤ most)
          → ((z : ℤ) × Contains xs z × (most < unsigned_abs z))
          ⊎ All (λ z. unsigned_abs z ≤ most) xs
          → ((z : ℤ) × Contains (x ∷ xs) z × (most < unsigned_abs z))
          ⊎ All (λ z. unsigned_abs z ≤ most) (x ∷ xs)
      by (inl l) rest = inl (x, (0, omega arith, refl), l)
      by (inr l) (inl (z, h, m)) = inl (z, (suc h.0, omega (arith, h.1), h.2), m)
      by (inr l) (inr h) = inr (All-cons (λ z. unsigned_abs z ≤ most) x xs l h)

  -- a list over its common denominator
  common : (qs : List Fraction) → IsOrNot (CommonLeaves most qs)
  common qs = by (cases_lt most (common_den qs)) (above_or_kept (over_common qs))
    where
      by : (most < common_den qs) ⊎ (common_den qs ≤ most)
          → ((z : ℤ) × Contains (over_common qs) z × (most < unsigned_abs z))
          ⊎ All (λ z. unsigned_abs z ≤ most) (over_common qs)
          → IsOrNot (CommonLeaves most qs)
      by (inl l) rest = inl (Denominator l)
      by (inr l) (inl (z, h, m)) = inl (Numerator z h m)
      by (inr l) (inr h) = inr none
        where
          none : CommonLeaves most qs → ⊥
          none (Denominator m) = omega (arith, l, m)
          none (Numerator z i m) =
              let kept : unsigned_abs z ≤ most =
              All-contains (λ (y : ℤ). unsigned_abs y ≤ most) (over_common qs) z h i in
              omega (arith, m, kept)

  -- the loss
  loss : (c : CaseView) (x : Numerators) → IsOrNot (LossLeaves most c x)
  loss c x =
      by (cases_lt most (unsigned_abs (fixed_placed c x)))
      (cases_lt most (unsigned_abs (loss_placed c x)))
    where
      by : (most < unsigned_abs (fixed_placed c x)) ⊎ (unsigned_abs (fixed_placed c x) ≤ most)
          → (most < unsigned_abs (loss_placed c x)) ⊎ (unsigned_abs (loss_placed c x) ≤ most)
          → IsOrNot (LossLeaves most c x)
      by (inl l) rest = inl (Product l)
      by (inr l) (inl m) = inl (Difference m)
      by (inr l) (inr m) = inr none
        where
          none : LossLeaves most c x → ⊥
          none (Product h) = omega (arith, l, h)
          none (Difference h) = omega (arith, m, h)

  closes : (c : CaseView) (e : Dictionary) → IsOrNot (ClosesLeaves most c e)
  closes c e = by (common (primal_of e)) (common (duals_of e)) (loss c (in_common (primal_of e)))
    where
      by : IsOrNot (CommonLeaves most (primal_of e)) → IsOrNot (CommonLeaves most (duals_of e))
          → IsOrNot (LossLeaves most c (in_common (primal_of e))) → IsOrNot (ClosesLeaves most c e)
      by (inl h) duals rest = inl (Primal h)
      by (inr p) (inl h) rest = inl (Duals h)
      by (inr p) (inr d) (inl h) = inl (Loss h)
      by (inr p) (inr d) (inr l) = inr none
        where
          none : ClosesLeaves most c e → ⊥
          none (Primal h) = p h
          none (Duals h) = d h
          none (Loss h) = l h

  -- the certificate of an end
  pub cert_leaves : (c : CaseView) (e : Dictionary) (t : Turn) → IsOrNot (CertLeaves most c e t)
  cert_leaves c e Best = closes c e
  cert_leaves c e (NoSolution r) = common (farkas_of e r)
  cert_leaves c e (PivotOn r s) = inr (λ h. h)
