-- What a pivot's steps on the rows of a tableau say of its dictionary.
use Rattle.std.proofs.Common.{◌≡◌, ◌≢◌, ℕ, ◌<◌, List, length, get_or, sym, ap, ap₂, ◌∙◌, subst, refl}
use Rattle.fractions.specs.Fraction.{Fraction, zero_q, ◌/ℚ◌}
use Rattle.fractions.specs.Leaves.{OverLeaves}
use Rattle.core_dict.specs.Dictionary.{Dictionary}
use Rattle.core_dict.specs.Pivot.{own_entry, own_value}
use Rattle.core_dict.specs.Leaving as leaving
use Rattle.core_dict.specs.Rows.{divided_entry, EntriesLeave}
use Rattle.core_dict.proofs.Outcomes.{leaves_same, less_same}
use Rattle.core_dict.proofs.Preparing.{entries_leave, leaves_entries, entry_is, no_pivot_leaves}
use Rattle.core_sparse.specs.Items.{number}
use Rattle.core_sparse.specs.Steps.{entry_of, IsOwnAfter, OwnRowLeaves, Entry, OwnValue, AreAfter, IsMade}
use Rattle.core_sparse.specs.Steps.{RowLeaves, Entries, Value}
use Rattle.core_sparse.specs.Sparse.{rows_of, entry_of_row, tableau, IsPrepared}
use Rattle.core_sparse.specs.SparseLaw.{slot_entries, slot_value, entries_at, value_of_at}
use Rattle.core_sparse.specs.declared.row.Item.{Item}
use Rattle.core_sparse.specs.declared.row.Row.{Row}
use Rattle.core_sparse.specs.declared.row.Slot.{Slot}

module _ {E : Type 0} (most : ℕ) (read : E → Fraction) (r s : ℕ) (xs : List (Slot E)) (costs : List (Item E))
    (basic nonbasic : List ℕ) (same : length xs ≡ length basic) (lr : r < length basic) (x : Row E) (o : Slot E)
    (row : x ≡ (get_or xs r o).row) (p : Fraction) (pivot : p ≡ entry_of read x s) where
  abbrev d : Dictionary
  d = tableau read (rows_of xs) costs basic nonbasic

  inside : (k : ℕ) → k < length basic → k < length xs
  inside k l = subst (λ (m : ℕ). k < m) (sym same) l

  outside : (k : ℕ) → k < length xs → k < length basic
  outside k l = subst (λ (m : ℕ). k < m) same l

  -- the pivot's own row
  entries : entry_of read x ≡ d.entry r
  entries = ap (entry_of read) row ∙ sym (slot_entries read xs r o (inside r lr))

  value : read x.value ≡ d.value r
  value = ap (λ (y : Row E). read y.value) row ∙ sym (slot_value read xs r o (inside r lr))

  pub pivot_is : p ≡ d.entry r s
  pivot_is = pivot ∙ ap (λ (a : ℕ → Fraction). a s) entries

  pub own_left : OwnRowLeaves most read (length nonbasic) s x → leaving.PivotLeaves most d r s
  own_left (Entry j l h) =
      leaving.OwnEntry j l (subst (λ (a : ℕ → Fraction). OverLeaves most (divided_entry s a j) (a s)) entries h)
  own_left (OwnValue h) = leaving.OwnValue
      (subst (λ (a : ℕ → Fraction). OverLeaves most (d.value r) (a s)) entries
      (subst (λ (z : Fraction). OverLeaves most z (entry_of read x s)) value h))

  module _ (y : Row E) (made : IsOwnAfter read (length nonbasic) s x y) where
    own_is : (j : ℕ) → j < length nonbasic → entry_of read y j ≡ own_entry d r s j
    own_is j l = made.entries j ∙ ap (λ (a : ℕ → Fraction). divided_entry s a j /ℚ a s) entries

    own_value_is : read y.value ≡ own_value d r s
    own_value_is = made.value ∙ ap₂ ◌/ℚ◌ value (ap (λ (a : ℕ → Fraction). a s) entries)

    -- another row
    entries_of : (k : ℕ) (z : Slot E) → k < length xs → entry_of read (get_or xs k z).row ≡ d.entry k
    entries_of k z l = sym (slot_entries read xs k z l)

    pub others_left : (k : ℕ) (z : Slot E) → k < length xs → k ≢ r
        → RowLeaves most read (length nonbasic) p s y (get_or xs k z).row → leaving.PivotLeaves most d r s
    others_left k z l ne (Entries h) =
        leaving.OtherRow k (outside k l) ne
        (entries_leave most d r s p (entry_of read y) pivot_is own_is (length nonbasic)
        (entry_of read (get_or xs k z).row) (d.entry k) refl (entries_of k z l) h)
    others_left k z l ne (Value h) =
        leaving.OtherValue k (outside k l) ne
        (leaves_same (sym (slot_value read xs k z l)) (ap (λ (a : ℕ → Fraction). a s) (entries_of k z l)) own_value_is h)

    -- the costs
    pub costs_left : EntriesLeave most (length nonbasic) p s (entry_of read y) (number read costs)
        → leaving.PivotLeaves most d r s
    costs_left h = leaving.Costs
        (entries_leave most d r s p (entry_of read y) pivot_is own_is (length nonbasic) (number read costs)
        (number read costs) refl refl h)

    -- where none of these leaves, the pivot does not
    pub all_fit : (OwnRowLeaves most read (length nonbasic) s x → ⊥)
        → ((k : ℕ) (z : Slot E) → k < length xs → k ≢ r
        → RowLeaves most read (length nonbasic) p s y (get_or xs k z).row → ⊥)
        → (EntriesLeave most (length nonbasic) p s (entry_of read y) (number read costs) → ⊥)
        → leaving.PivotLeaves most d r s → ⊥
    all_fit own others last =
        no_pivot_leaves most d r s
        (λ j l h. own (Entry j l
        (subst (λ (a : ℕ → Fraction). OverLeaves most (divided_entry s a j) (a s)) (sym entries) h)))
        (λ h. own (OwnValue
        (subst (λ (z : Fraction). OverLeaves most z (entry_of read x s)) (sym value)
        (subst (λ (a : ℕ → Fraction). OverLeaves most (d.value r) (a s)) (sym entries) h))))
        (λ i l ne h. others i o (inside i l) ne (Entries
        (leaves_entries most d r s p (entry_of read y) pivot_is own_is (length nonbasic)
        (entry_of read (get_or xs i o).row) (d.entry i) refl (entries_of i o (inside i l)) h)))
        (λ i l ne h. others i o (inside i l) ne (Value
        (leaves_same (slot_value read xs i o (inside i l))
        (ap (λ (a : ℕ → Fraction). a s) (sym (entries_of i o (inside i l)))) (sym own_value_is) h)))
        (λ h. last (leaves_entries most d r s p (entry_of read y) pivot_is own_is (length nonbasic)
        (number read costs) (number read costs) refl refl h))

    -- what was made is what the pivot makes
    pub prepared : ((k : ℕ) (z : Slot E) → k < length xs → k ≢ r
        → IsMade read (length nonbasic) p s y (get_or xs k z))
        → (spare : List (Item E)) → (number read costs s ≢ zero_q
        → AreAfter read (length nonbasic) p s y.items.items costs spare)
        → IsPrepared read r s xs costs basic nonbasic y spare
    prepared exact spare last = record {
      own_kept = made.kept;
      own_entries = own_is;
      own_value = own_value_is;
      marked = λ i z l ne. (exact i z (inside i l) ne).marked;
      kept = λ i z l ne turns. ((exact i z (inside i l) ne).after (turning i z l turns)).items.kept;
      entries = λ i j l ne turns m.
          ap (λ (a : ℕ → Fraction). a j) (entries_at read (λ (z : Slot E). z.spare) xs i o (inside i l))
          ∙ ((exact i o (inside i l) ne).after (turning i o l turns)).items.entries j m
          ∙ entry_is most d r s p (entry_of read y) pivot_is own_is (entry_of read (get_or xs i o).row) (d.entry i)
          (entries_of i o (inside i l)) j m;
      values = λ i l ne turns.
          value_of_at read (λ (z : Slot E). z.spare) xs i o (inside i l)
          ∙ ((exact i o (inside i l) ne).after (turning i o l turns)).value
          ∙ less_same (sym (slot_value read xs i o (inside i l)))
          (ap (λ (a : ℕ → Fraction). a s) (entries_of i o (inside i l))) own_value_is;
      costs_kept = λ turns. (last turns).kept;
      spare_costs = λ turns j l.
          (last turns).entries j l
          ∙ entry_is most d r s p (entry_of read y) pivot_is own_is (number read costs) (number read costs) refl j l;
    }
      where
        turning : (i : ℕ) (z : Slot E) → i < length basic → entry_of_row read (rows_of xs) i s ≢ zero_q
            → entry_of read (get_or xs i z).row s ≢ zero_q
        turning i z l ne e = ne (ap (λ (a : ℕ → Fraction). a s) (slot_entries read xs i z (inside i l)) ∙ e)
