-- The items of a programme's row, pushed column by column.
use Rattle.std.proofs.Common.{◌≡◌, ◌≢◌, ℕ, ◌+◌, ◌<◌, ◌≤◌, List, [], length, sym, ◌∙◌, subst, arith, below_more}
use Rattle.fractions.specs.Fraction.{Fraction}
use Rattle.core_sparse.specs.Items.{col_at, number, AreItems}
use Rattle.core_sparse.specs.declared.row.Item.{Item}
use Rattle.core_sparse.proofs.Places.{kept_none}

module _ {E : Type 0} (read : E → Fraction) (n : ℕ) (a : ℕ → Fraction) where
  -- the numbers a of the first j of n columns are kept
  pub record Filled (zs : List (Item E)) (j : ℕ) : Type 0 where
    pub kept : AreItems read n zs
    pub below : (k : ℕ) → k < length zs → col_at zs k < j
    pub numbers : (m : ℕ) → m < j → number read zs m ≡ a m

  pub filled_first : (zs : List (Item E)) → zs ≡ [] → Filled zs 0
  filled_first zs e = subst (λ (ys : List (Item E)). Filled ys 0) (sym e) record {
    kept = kept_none read n;
    below = λ k l. absurd (omega (arith, l));
    numbers = λ m l. absurd (omega (arith, l));
  }

  pub filled_more : (ys zs : List (Item E)) (j : ℕ) → Filled ys j → AreItems read n zs
      → ((k : ℕ) → k < length zs → col_at zs k ≤ j) → number read zs j ≡ a j
      → ((m : ℕ) → m ≢ j → number read zs m ≡ number read ys m) → Filled zs (j + 1)
  filled_more ys zs j h kept below here others = record {
    kept = kept;
    below = λ k l. let b : col_at zs k ≤ j = below k l in omega (arith, b);
    numbers = below_more (λ (m : ℕ). number read zs m ≡ a m) j
        (λ m l. others m (apart m l) ∙ h.numbers m l) here;
  }
    where
      apart : (m : ℕ) → m < j → m ≢ j
      apart m l e = omega (arith, l, e)
