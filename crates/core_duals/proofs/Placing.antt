-- Lists of numbers by variable.
use Rattle.std.proofs.Common.{◌≡◌, ◌≢◌, ℕ, suc, ◌+◌, ◌-◌, ◌<◌, ◌≤◌, ◌⊎◌, inl, inr, List, length, map, replicate}
use Rattle.std.proofs.Common.{cond, eqb, sym, ap, ◌∙◌, arith, set}
use Rattle.std.proofs.lemmas.Bool.{cases_eq}
use Rattle.std.proofs.lemmas.List.{ext_get_or, length-map, length-replicate, get_or-replicate}
use Rattle.core_sums.specs.Places.{below}
use Rattle.core_sums.proofs.Lists.{length-below, get_or-below}
use Rattle.fractions.specs.Fraction.{Fraction, zero_q}
use Rattle.exact_frac.specs.Value128.{value128}
use Rattle.exact_frac.specs.declared.frac128.Frac128.{Frac128}
use Rattle.core_dict.specs.DenseLaw.{fraction_here}
use Rattle.core_dict.specs.Rows.{fraction_at}
use Rattle.core_dict.proofs.Choice.{at_equal, at_other}
use Rattle.core_dict.proofs.Reading.{fraction_written, fraction_kept}

-- a list whose numbers are those of a function is the list of these
pub listed : (xs : List Frac128) (n : ℕ) (f : ℕ → Fraction) → length xs ≡ n
    → ((k : ℕ) → k < n → fraction_at value128 xs k ≡ f k) → map value128 xs ≡ map f (below n)
listed xs n f e each =
    ext_get_or zero_q (map value128 xs) (map f (below n))
    (length-map xs value128 ∙ e ∙ sym (length-map (below n) f ∙ length-below n))
    (λ k l. each k (inside k l) ∙ sym (get_or-below n k f zero_q (inside k l)))
  where
    inside : (k : ℕ) → k < length (map value128 xs) → k < n
    inside k l = omega (arith, l, e, length-map xs value128)

-- a list of so many zeros
pub zero_at : (n k : ℕ) (x : Frac128) → value128 x ≡ zero_q → k < n
    → fraction_at value128 (replicate n x) k ≡ zero_q
zero_at n k x e l =
    fraction_here value128 (replicate n x) k x (omega (arith, l, length-replicate n x))
    ∙ ap value128 (get_or-replicate n k x x l) ∙ e

-- where a number is put at the place of its variable
pub put_at : (xs : List Frac128) (before v : ℕ) (x : Frac128) (k : ℕ) → before < v → v - before ≤ length xs
    → k < length xs
    → fraction_at value128 (set xs (v - before - 1) x) k
    ≡ cond (eqb v (suc (before + k))) (value128 x) (fraction_at value128 xs k)
put_at xs before v x k above inside l = by (cases_eq v (suc (before + k)))
  where
    by : (v ≡ suc (before + k)) ⊎ (v ≢ suc (before + k))
        → fraction_at value128 (set xs (v - before - 1) x) k
        ≡ cond (eqb v (suc (before + k))) (value128 x) (fraction_at value128 xs k)
    by (inl e) =
        let here : v - before - 1 ≡ k = omega (arith, e) in
        ap (λ (i : ℕ). fraction_at value128 (set xs i x) k) here ∙ fraction_written value128 xs k x l
        ∙ sym (at_equal v (suc (before + k)) _ _ e)
    by (inr e) =
        fraction_kept value128 xs (v - before - 1) k x (λ f. e (omega (arith, f, above)))
        ∙ sym (at_other v (suc (before + k)) _ _ e)
