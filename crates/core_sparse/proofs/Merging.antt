-- The columns that a merge of two rows has gone through.
use Rattle.std.proofs.Common.{◌≡◌, ◌≢◌, ℕ, suc, ◌<◌, ◌≤◌, ◌⊎◌, inl, inr}
use Rattle.std.proofs.Common.{List, [], length, get_or, sym, ap, ◌∙◌, subst, arith}
use Rattle.std.proofs.lemmas.Bool.{cases_eq, cases_lt}
use Rattle.fractions.specs.Fraction.{Fraction, zero_q}
use Rattle.fractions.specs.Leaves.{LessTimesLeaves}
use Rattle.core_dict.proofs.Choice.{at_other}
use Rattle.fractions.proofs.LessTimes.{less_zero, no_leaving}
use Rattle.core_sparse.specs.Items.{columns, col_at, number, IsRising, AreItems, Stands}
use Rattle.core_sparse.specs.Steps.{merged, IsCopied}
use Rattle.core_sparse.specs.declared.row.Item.{Item}
use Rattle.core_sparse.proofs.Places.{kept_none}
use Rattle.core_sparse.proofs.Walks.{stands_first, stands_on, number_between}

module _ {E : Type 0} (most : ℕ) (read : E → Fraction) (n : ℕ) (xs os : List (Item E)) (q t : Fraction) (s : ℕ) where
  -- the columns before j are merged into ys, and the walks stand at places i and k
  pub record Merged (ys : List (Item E)) (j i k : ℕ) : Type 0 where
    pub before : Stands xs j i
    pub own : Stands os j k
    pub kept : AreItems read n ys
    pub below : (m : ℕ) → m < length ys → col_at ys m < j
    pub exact : (m : ℕ) → m < j → number read ys m ≡ merged s q t (number read xs) (number read os) m
    pub fits : (m : ℕ) → m < j → m ≢ s → LessTimesLeaves most (number read xs m) q (number read os m) → ⊥

  module _ (own_rising : IsRising os) (turned : number read os s ≢ zero_q) where
    -- the items before the next one of the own row are copied
    pub merged_run : (ys zs : List (Item E)) (c i k r e : ℕ) → Merged ys c i k → c ≤ n
        → IsCopied read n xs c r ys zs e → r ≡ get_or (columns os) k n → Merged zs r e k
    merged_run ys zs c i k r e h l copied is = record {
      before = copied.stands;
      own = own;
      kept = copied.kept;
      below = copied.below;
      exact = λ m o. exact m o (cases_lt m c);
      fits = λ m o. fits m o (cases_lt m c);
    }
      where
        own : Stands os r k
        own = stands_on os n c k r own_rising h.own copied.order (omega (arith, is))

        free : (m : ℕ) → c ≤ m → m < r → number read os m ≡ zero_q
        free m o p = number_between os read c k r h.own own m o p

        exact : (m : ℕ) → m < r → (m < c) ⊎ (c ≤ m)
            → number read zs m ≡ merged s q t (number read xs) (number read os) m
        exact m o (inl p) = copied.old m p ∙ h.exact m p
        exact m o (inr p) =
            copied.run m p o
            ∙ less_zero (number read xs m) q (number read os m) (free m p o)
            ∙ sym (at_other m s t _ (λ f. turned (ap (number read os) (sym f) ∙ free m p o)))

        fits : (m : ℕ) → m < r → (m < c) ⊎ (c ≤ m) → m ≢ s
            → LessTimesLeaves most (number read xs m) q (number read os m) → ⊥
        fits m o (inl p) ne = h.fits m p ne
        fits m o (inr p) ne = no_leaving most _ q _ (inr (free m p o))

  -- at the beginning nothing is merged
  pub merged_none : Merged [] 0 0 0
  merged_none = record {
    before = stands_first xs;
    own = stands_first os;
    kept = kept_none read n;
    below = λ m l. absurd (omega arith);
    exact = λ m l. absurd (omega arith);
    fits = λ m l. absurd (omega arith);
  }

  -- one more column is merged
  pub merged_more : (ys zs : List (Item E)) (j i k i' k' : ℕ) → Merged ys j i k → Stands xs (suc j) i'
      → Stands os (suc j) k' → AreItems read n zs → ((m : ℕ) → m < length zs → col_at zs m ≤ j)
      → number read zs j ≡ merged s q t (number read xs) (number read os) j
      → ((m : ℕ) → m ≢ j → number read zs m ≡ number read ys m)
      → (j ≢ s → LessTimesLeaves most (number read xs j) q (number read os j) → ⊥) → Merged zs (suc j) i' k'
  merged_more ys zs j i k i' k' h before own kept below here others fit = record {
    before = before;
    own = own;
    kept = kept;
    below = λ m l. let b : col_at zs m ≤ j = below m l in omega arith;
    exact = λ m l. exact m l (cases_eq m j);
    fits = λ m l. fits m l (cases_eq m j);
  }
    where
      exact : (m : ℕ) → m < suc j → (m ≡ j) ⊎ (m ≢ j)
          → number read zs m ≡ merged s q t (number read xs) (number read os) m
      exact m l (inl e) = subst
          (λ (w : ℕ). number read zs w ≡ merged s q t (number read xs) (number read os) w) (sym e) here
      exact m l (inr ne) = others m ne ∙ h.exact m (omega arith)

      fits : (m : ℕ) → m < suc j → (m ≡ j) ⊎ (m ≢ j) → m ≢ s
          → LessTimesLeaves most (number read xs m) q (number read os m) → ⊥
      fits m l (inl e) = subst
          (λ (w : ℕ). w ≢ s → LessTimesLeaves most (number read xs w) q (number read os w) → ⊥) (sym e) fit
      fits m l (inr ne) = h.fits m (omega arith)
