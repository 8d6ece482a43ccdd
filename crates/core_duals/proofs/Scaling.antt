-- Numbers put over one denominator, one after the other.
use Rattle.std.proofs.Common.{◌≡◌, ℕ, zero, suc, ◌+◌, ◌<◌, ◌≤◌, ℤ, pos, unsigned_abs, List, [], ◌∷◌}
use Rattle.std.proofs.Common.{length, map, get_or, set, below_more, sym, ap₂, ◌∙◌, subst, arith}
use Rattle.std.specs.Int.{◌∣◌}
use Rattle.std.proofs.lemmas.List.{ext_get_or, length-map, get_or-map, get_or-set_same, get_or-set_other}
use Rattle.std.proofs.lemmas.List.Elements.{Contains-get_or}
use Rattle.core_sums.specs.Places.{at}
use Rattle.fractions.specs.Fraction.{Fraction, zero_q}
use Rattle.fractions.specs.Common.{common_den, numerator_over, AllDivide}
use Rattle.fractions.proofs.Common.{lcm_all_divides}
use Rattle.exact_frac.specs.Value128.{value128}
use Rattle.exact_frac.specs.declared.frac128.Frac128.{Frac128}
use Rattle.core_dict.specs.Rows.{fraction_at}
use Rattle.core_dict.proofs.Reading.{fraction_is}
use Rattle.core_duals.specs.Lists.{over_common, CommonLeaves, Denominator, Numerator}

-- what each denominator divides
each_divides : (qs : List Fraction) (m : ℕ) → AllDivide (map (λ q. q.den) qs) m → (i : ℕ) (q : Fraction)
    → i < length qs → (get_or qs i q).den ∣ m
each_divides [] m d i q l = absurd (omega arith)
each_divides (p ∷ qs) m d zero q l = d.0
each_divides (p ∷ qs) m d (suc i) q l = each_divides qs m d.1 i q (omega arith)

-- ---- a number x that was read at place i, and the common denominator m
module _ (xs : List Frac128) (i m : ℕ) (x : Frac128) (l : i < length xs) (read : x ≡ get_or xs i x)
    (common : m ≡ common_den (map value128 xs)) where
  -- its denominator divides the common one
  pub common_divides : x.den ∣ m
  common_divides =
      let qs = map value128 xs in
      subst (λ (n : ℕ). x.den ∣ n) (sym common)
      (subst (λ (q : Fraction). q.den ∣ common_den qs) (fraction_is value128 xs i x l read)
      (each_divides qs (common_den qs) (lcm_all_divides (map (λ q. q.den) qs)) i zero_q
      (omega (arith, l, length-map xs value128))))

  -- and its numerator is the one at that place
  pub numerator_read : numerator_over m (value128 x)
      ≡ numerator_over (common_den (map value128 xs)) (fraction_at value128 xs i)
  numerator_read = ap₂ numerator_over common (sym (fraction_is value128 xs i x l read))

-- the numerator at a place
pub numerator_at : (qs : List Fraction) (i : ℕ) (d : ℤ) → i < length qs
    → get_or (over_common qs) i d ≡ numerator_over (common_den qs) (get_or qs i zero_q)
numerator_at qs i d l = get_or-map (numerator_over (common_den qs)) qs i zero_q d l

-- one more place is written as it should be
pub more_written : (xs : List ℤ) (i : ℕ) (z : ℤ) (f : ℕ → ℤ) → i < length xs
    → ((k : ℕ) → k < i → at xs k ≡ f k) → z ≡ f i → (k : ℕ) → k < i + 1 → at (set xs i z) k ≡ f k
more_written xs i z f l before here =
    below_more (λ (k : ℕ). at (set xs i z) k ≡ f k) i
    (λ k m. get_or-set_other xs i k z (pos 0) (λ e. omega (arith, m, e)) ∙ before k m)
    (get_or-set_same xs i z (pos 0) l ∙ here)

-- the list of them
pub numerators : (qs : List Fraction) (xs : List ℤ) → length xs ≡ length qs
    → ((k : ℕ) → k < length qs → at xs k ≡ numerator_over (common_den qs) (get_or qs k zero_q))
    → xs ≡ over_common qs
numerators qs xs e each =
    ext_get_or (pos 0) xs (over_common qs) (e ∙ sym (length-map qs (numerator_over (common_den qs))))
    (λ k l. each k (omega (arith, l, e)) ∙ sym (numerator_at qs k (pos 0) (omega (arith, l, e))))

-- none of them leaves
pub none_leaves : (most : ℕ) (qs : List Fraction) → (most < common_den qs → ⊥)
    → ((k : ℕ) → k < length qs → unsigned_abs (numerator_over (common_den qs) (get_or qs k zero_q)) ≤ most)
    → CommonLeaves most qs → ⊥
none_leaves most qs d each (Denominator h) = d h
none_leaves most qs d each (Numerator n h above) =
    let inside : h.0 < length qs = omega (arith, h.1, length-map qs (numerator_over (common_den qs))) in
    let is : numerator_over (common_den qs) (get_or qs h.0 zero_q) ≡ n =
    sym (numerator_at qs h.0 n inside) ∙ h.2 in
    let fits : unsigned_abs n ≤ most = subst (λ (z : ℤ). unsigned_abs z ≤ most) is (each h.0 inside) in
    omega (arith, above, fits)

-- one of them does
pub one_leaves : (most : ℕ) (qs : List Fraction) (i : ℕ) → i < length qs
    → most < unsigned_abs (numerator_over (common_den qs) (get_or qs i zero_q)) → CommonLeaves most qs
one_leaves most qs i l above =
    Numerator (at (over_common qs) i)
    (Contains-get_or (over_common qs) i (pos 0)
    (omega (arith, l, length-map qs (numerator_over (common_den qs)))))
    (subst (λ (z : ℤ). most < unsigned_abs z) (sym (numerator_at qs i (pos 0) l)) above)
