-- The items that are copied of one row behind those of another.
use Rattle.std.proofs.Common.{◌≡◌, ◌≢◌, ℕ, suc, ◌<◌, ◌≤◌, ◌⊎◌, inl, inr, min}
use Rattle.std.proofs.Common.{List, length, get_or, sym, ◌∙◌, subst, refl, arith}
use Rattle.std.proofs.lemmas.Bool.{cases_eq, cases_lt}
use Rattle.fractions.specs.Fraction.{Fraction}
use Rattle.core_sparse.specs.Items.{columns, col_at, number, IsRising, AreItems, Stands}
use Rattle.core_sparse.specs.Steps.{AreBefore, IsCopied}
use Rattle.core_sparse.specs.SparseLaw.{number_none}
use Rattle.core_sparse.specs.declared.row.Item.{Item}
use Rattle.core_sparse.proofs.Walks.{stands_on, head_from, number_between}

module _ {E : Type 0} (read : E → Fraction) (n : ℕ) (xs : List (Item E)) where
  -- the walk goes on to the next item before the end
  pub copied_on : (ys zs : List (Item E)) (from c until e r : ℕ) → IsRising xs → IsCopied read n xs from c ys zs e
      → c ≤ until → r ≡ min (get_or (columns xs) e until) until → IsCopied read n xs from r ys zs e
  copied_on ys zs from c until e r rising h l is = record {
    order = let o : from ≤ c = h.order in omega (arith, o, on);
    stands = stands;
    kept = h.kept;
    below = λ k m. let b : col_at zs k < c = h.below k m in omega (arith, b, on);
    old = h.old;
    run = λ j m o. run j m o (cases_lt j c);
  }
    where
      ahead : c ≤ get_or (columns xs) e until
      ahead = head_from xs until c e l h.stands

      on : c ≤ r
      on = omega (arith, ahead, l, is)

      stands : Stands xs r e
      stands = stands_on xs until c e r rising h.stands on (omega (arith, is))

      run : (j : ℕ) → from ≤ j → j < r → (j < c) ⊎ (c ≤ j) → number read zs j ≡ number read xs j
      run j m o (inl p) = h.run j m p
      run j m o (inr p) =
          number_none read zs j (λ k u f. let b : col_at zs k < c = h.below k u in omega (arith, b, p, f))
          ∙ sym (number_between xs read c e r h.stands stands j p o)

  -- as it does at the beginning
  pub copied_first : (ys : List (Item E)) (from until e r : ℕ) → IsRising xs → AreItems read n ys → AreBefore from ys
      → Stands xs from e → from ≤ until → r ≡ min (get_or (columns xs) e until) until
      → IsCopied read n xs from r ys ys e
  copied_first ys from until e r rising kept below stands l is =
      copied_on ys ys from from until e r rising
      record {
        order = omega arith;
        stands = stands;
        kept = kept;
        below = below;
        old = λ j m. refl;
        run = λ j m o. absurd (omega (arith, m, o));
      }
      l is

  -- one more item is copied
  pub copied_more : (ys zs ws : List (Item E)) (from j e e' : ℕ) → IsCopied read n xs from j ys zs e
      → Stands xs (suc j) e' → AreItems read n ws → ((k : ℕ) → k < length ws → col_at ws k ≤ j)
      → number read ws j ≡ number read xs j → ((m : ℕ) → m ≢ j → number read ws m ≡ number read zs m)
      → IsCopied read n xs from (suc j) ys ws e'
  copied_more ys zs ws from j e e' h stands kept below here others = record {
    order = let o : from ≤ j = h.order in omega (arith, o);
    stands = stands;
    kept = kept;
    below = λ k l. let b : col_at ws k ≤ j = below k l in omega (arith, b);
    old = λ m l. others m (λ f. let o : from ≤ j = h.order in omega (arith, o, l, f)) ∙ h.old m l;
    run = λ m l o. run m l o (cases_eq m j);
  }
    where
      run : (m : ℕ) → from ≤ m → m < suc j → (m ≡ j) ⊎ (m ≢ j) → number read ws m ≡ number read xs m
      run m l o (inl f) = subst (λ (w : ℕ). number read ws w ≡ number read xs w) (sym f) here
      run m l o (inr ne) = others m ne ∙ h.run m l (omega (arith, o, ne))
