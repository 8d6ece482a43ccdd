-- What a merge of another row, or of the costs, with the pivot's own row says of it. The merge is told of lists us
-- and vs, which are those of the rows.
use Rattle.std.proofs.Common.{◌≡◌, ◌≢◌, ℕ, ◌<◌, inl, List, Result, Ok, Err, cond, eqb, sym, ap, ap₂, ◌∙◌, subst}
use Rattle.std.specs.Result.{IsErrAnd}
use Rattle.fractions.specs.Fraction.{Fraction, zero_q, ◌-ℚ◌, ◌*ℚ◌, ◌/ℚ◌, neg_ℚ}
use Rattle.fractions.specs.Leaves.{OverLeaves, LessTimesLeaves}
use Rattle.core_dict.specs.Rows.{EntriesLeave, Less}
use Rattle.core_dict.proofs.Outcomes.{leaves_same, no_entry}
use Rattle.core_sparse.specs.Items.{number, AreItems}
use Rattle.fractions.proofs.LessTimes.{no_leaving}
use Rattle.core_sparse.specs.Steps.{merged, entry_of, AreAfter, RowLeaves, Entries, Value}
use Rattle.core_sparse.specs.declared.row.Item.{Item}
use Rattle.core_sparse.specs.declared.row.Row.{Row}

-- what a `?` hands on is the fault that it met
pub same_fault : {T F : Type 0} (r : Result T F) (x y : F) → IsErrAnd r (λ z. z ≡ x) → r ≡ Err y
    → ◌≡◌ {A = Result T F} (Err x) (Err y)
same_fault (Ok t) x y h e = absurd h
same_fault (Err z) x y h e = ap Err (sym h) ∙ e

-- numbers with 0 in the pivot's column leave nowhere
pub unchanged_entries : {most n : ℕ} {p : Fraction} {s : ℕ} {own a : ℕ → Fraction} → a s ≡ zero_q
    → EntriesLeave most n p s own a → ⊥
unchanged_entries {most = most} zero =
    no_entry (λ h. h.left_not_zero zero) (λ j l e h. no_leaving most _ _ _ (inl zero) h)

module _ {E : Type 0} {most : ℕ} {read : E → Fraction} {n : ℕ} {p : Fraction} {s : ℕ} {own before : Row E} where
  -- a row none of whose operations leaves
  pub no_row_leaves : (EntriesLeave most n p s (entry_of read own) (entry_of read before) → ⊥)
      → (LessTimesLeaves most (read before.value) (entry_of read before s) (read own.value) → ⊥)
      → RowLeaves most read n p s own before → ⊥
  no_row_leaves entries value (Entries h) = entries h
  no_row_leaves entries value (Value h) = value h

  -- as is one with 0 in the pivot's column
  pub unchanged_row : entry_of read before s ≡ zero_q → RowLeaves most read n p s own before → ⊥
  unchanged_row zero = no_row_leaves (unchanged_entries zero) (λ h. no_leaving most _ _ _ (inl zero) h)

module _ {E : Type 0} (most : ℕ) (read : E → Fraction) (n : ℕ) (xs os us vs : List (Item E)) (e : us ≡ xs)
    (f : vs ≡ os) (q p : Fraction) (s : ℕ) (is : q ≡ number read xs s) where
  pub merge_left : (j : ℕ) × (j < n) × (j ≢ s) × LessTimesLeaves most (number read us j) q (number read vs j)
      → EntriesLeave most n p s (number read os) (number read xs)
  merge_left (j, l, ne, h) = Less j l ne
      (leaves_same (ap (λ (zs : List (Item E)). number read zs j) e) is
      (ap (λ (zs : List (Item E)). number read zs j) f) h)

  pub merge_fits : (OverLeaves most q p → ⊥)
      → ((j : ℕ) → j < n → j ≢ s → LessTimesLeaves most (number read us j) q (number read vs j) → ⊥)
      → EntriesLeave most n p s (number read os) (number read xs) → ⊥
  merge_fits quotient less = no_entry
      (λ h. quotient (subst (λ (y : Fraction). OverLeaves most y p) (sym is) h))
      (λ j l ne h. less j l ne
      (leaves_same (ap (λ (zs : List (Item E)). number read zs j) (sym e)) (sym is)
      (ap (λ (zs : List (Item E)). number read zs j) (sym f)) h))

  pub merge_exact : (t : Fraction) → t ≡ neg_ℚ (q /ℚ p) → (zs : List (Item E)) → AreItems read n zs
      → ((j : ℕ) → j < n → number read zs j ≡ merged s q t (number read us) (number read vs) j)
      → AreAfter read n p s os xs zs
  merge_exact t turned zs kept exact = record {
    kept = kept;
    entries = λ j l.
        exact j l ∙ ap (λ (ws : List (Item E)). merged s q t (number read ws) (number read vs) j) e
        ∙ ap (λ (ws : List (Item E)). merged s q t (number read xs) (number read ws) j) f
        ∙ ap₂ (λ (y z : Fraction). cond (eqb j s) y (number read xs j -ℚ z *ℚ number read os j))
        (turned ∙ ap (λ (y : Fraction). neg_ℚ (y /ℚ p)) is) is;
  }
