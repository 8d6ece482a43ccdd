-- What a pivot's steps on the rows of a tableau say of the tableau.
use Rattle.std.proofs.Common.{◌≡◌, ◌≢◌, ℕ, ◌<◌, List, length, get_or, sym, ap, ◌∙◌, subst, refl, arith}
use Rattle.fractions.specs.Fraction.{Fraction, zero_q}
use Rattle.core_dict.specs.Dictionary.{Dictionary}
use Rattle.core_dict.specs.Pivot.{own_entry, own_value}
use Rattle.core_dict.specs.Leaving as leaving
use Rattle.core_dict.specs.Rows.{width, entry_of, fraction_at, entry_after, AreWide, EntriesLeave, OwnRowLeaves, RowLeaves}
use Rattle.core_dict.specs.Rows.{IsOwnAfter, IsMade}
use Rattle.core_dict.specs.Dense.{rows_of, entry_at, tableau, IsPrepared}
use Rattle.core_dict.specs.DenseLaw.{slot_entries, slot_value, room_entries, room_value}
use Rattle.core_dict.specs.declared.row.Row.{Row}
use Rattle.core_dict.specs.declared.row.Slot.{Slot}
use Rattle.core_dict.proofs.Preparing as steps

module _ {E : Type 0} (most : ℕ) (read : E → Fraction) (r s : ℕ) (xs : List (Slot E)) (costs : List E)
    (basic nonbasic : List ℕ) (same : length xs ≡ length basic) (wide : AreWide (length nonbasic) xs)
    (costs_in : length costs ≡ length nonbasic) (lr : r < length basic) (x : Slot E) (at : x ≡ get_or xs r x)
    (p : Fraction) (pivot : p ≡ entry_of read x.row s) where
  abbrev d : Dictionary
  d = tableau read (rows_of xs) costs basic nonbasic

  inside : (k : ℕ) → k < length basic → k < length xs
  inside k l = subst (λ (n : ℕ). k < n) (sym same) l

  entries : entry_of read x.row ≡ d.entry r
  entries = ap (λ (y : Slot E). entry_of read y.row) at ∙ sym (slot_entries read xs r x (inside r lr))

  value : read x.row.value ≡ d.value r
  value = ap (λ (y : Slot E). read y.row.value) at ∙ sym (slot_value read xs r x (inside r lr))

  pub pivot_width : width x.row ≡ length nonbasic
  pivot_width = ap (λ (y : Slot E). width y.row) at ∙ (wide r x (omega arith) (inside r lr)).row

  pub pivot_is : p ≡ d.entry r s
  pivot_is = pivot ∙ ap (λ (a : ℕ → Fraction). a s) entries

  -- the pivot's own row
  pub own_left : OwnRowLeaves most read s x.row → leaving.PivotLeaves most d r s
  own_left h = steps.own_leaves most d r s read x.row entries value pivot_width h

  module _ (y : Row E) (made : IsOwnAfter read s x.row y) where
    own_is : (j : ℕ) → j < length nonbasic → entry_of read y j ≡ own_entry d r s j
    own_is = steps.own_entry_is most d r s read x.row entries value pivot_width y made

    own_value_is : read y.value ≡ own_value d r s
    own_value_is = steps.own_value_is most d r s read x.row entries value pivot_width y made

    -- another row
    pub others_left : (k : ℕ) → k < length xs → k ≢ r → RowLeaves most read p s y (get_or xs k x).row
        → leaving.PivotLeaves most d r s
    others_left k l ne h =
        steps.row_leaves most d r s p (entry_of read y) pivot_is own_is read (get_or xs k x).row y k refl own_value_is
        (sym (slot_entries read xs k x l)) (sym (slot_value read xs k x l)) (wide k x (omega arith) l).row
        (subst (λ (n : ℕ). k < n) same l) ne h

    -- the costs
    pub costs_left : EntriesLeave most (length costs) p s (entry_of read y) (fraction_at read costs)
        → leaving.PivotLeaves most d r s
    costs_left h = leaving.Costs
        (steps.entries_leave most d r s p (entry_of read y) pivot_is own_is (length costs) (fraction_at read costs)
        (fraction_at read costs) costs_in refl h)

    -- where none of these leaves, the pivot does not
    pub all_fit : (OwnRowLeaves most read s x.row → ⊥)
        → ((k : ℕ) (z : Slot E) → k < length xs → k ≢ r → RowLeaves most read p s y (get_or xs k z).row → ⊥)
        → (EntriesLeave most (length costs) p s (entry_of read y) (fraction_at read costs) → ⊥)
        → leaving.PivotLeaves most d r s → ⊥
    all_fit own others last =
        steps.no_pivot_leaves most d r s
        (λ j l h. own (steps.own_entry_leaves most d r s read x.row entries value pivot_width j l h))
        (λ h. own (steps.own_value_leaves most d r s read x.row entries value pivot_width h))
        (λ i l ne h. others i x (inside i l) ne
        (steps.leaves_row most d r s p (entry_of read y) pivot_is own_is read (get_or xs i x).row y i refl
        own_value_is (sym (slot_entries read xs i x (inside i l))) (sym (slot_value read xs i x (inside i l)))
        (wide i x (omega arith) (inside i l)).row h))
        (λ i l ne h. others i x (inside i l) ne
        (steps.leaves_value most d r s p (entry_of read y) pivot_is own_is read (get_or xs i x).row y i refl
        own_value_is (sym (slot_entries read xs i x (inside i l))) (sym (slot_value read xs i x (inside i l)))
        (wide i x (omega arith) (inside i l)).row h))
        (λ h. last (steps.leaves_entries most d r s p (entry_of read y) pivot_is own_is (length costs)
        (fraction_at read costs) (fraction_at read costs) costs_in refl h))

-- the tableau is prepared: its rows are those of before
module _ {E : Type 0} (read : E → Fraction) (r s : ℕ) (ys : List (Slot E)) (costs : List E)
    (basic nonbasic : List ℕ) (same : length ys ≡ length basic) (wide : AreWide (length nonbasic) ys)
    (costs_in : length costs ≡ length nonbasic) (lr : r < length basic) (x : Slot E)
    (row : x.row ≡ (get_or ys r x).row) (p : Fraction) (pivot : p ≡ entry_of read x.row s) (y : Row E)
    (made : IsOwnAfter read s x.row y) where
  abbrev after : Dictionary
  after = tableau read (rows_of ys) costs basic nonbasic

  within : (k : ℕ) → k < length basic → k < length ys
  within k l = subst (λ (n : ℕ). k < n) (sym same) l

  entries_after : entry_of read x.row ≡ after.entry r
  entries_after = ap (entry_of read) row ∙ sym (slot_entries read ys r x (within r lr))

  value_after : read x.row.value ≡ after.value r
  value_after = ap (λ (z : Row E). read z.value) row ∙ sym (slot_value read ys r x (within r lr))

  width_after : width x.row ≡ length nonbasic
  width_after = ap width row ∙ (wide r x (omega arith) (within r lr)).row

  is_pivot : p ≡ after.entry r s
  is_pivot = pivot ∙ ap (λ (a : ℕ → Fraction). a s) entries_after

  own_after : (j : ℕ) → j < length nonbasic → entry_of read y j ≡ own_entry after r s j
  own_after = steps.own_entry_is 0 after r s read x.row entries_after value_after width_after y made

  own_value_after : read y.value ≡ own_value after r s
  own_value_after = steps.own_value_is 0 after r s read x.row entries_after value_after width_after y made

  pub prepared : ((k : ℕ) (z : Slot E) → k < length ys → k ≢ r → IsMade read p s y (get_or ys k z))
      → (spare : List E) → ((j : ℕ) → j < length costs
      → fraction_at read spare j ≡ entry_after p s (entry_of read y) (fraction_at read costs) j)
      → IsPrepared read r s ys costs basic nonbasic y spare
  prepared exact spare last = record {
    own_entries = own_after;
    own_value = own_value_after;
    entries = λ i j l ne turns m.
        ap (λ (a : ℕ → Fraction). a j) (room_entries read ys i x (within i l))
        ∙ steps.row_entry_is 0 after r s p (entry_of read y) is_pivot own_after read (get_or ys i x).row y i refl
        own_value_after (sym (slot_entries read ys i x (within i l))) (sym (slot_value read ys i x (within i l)))
        (wide i x (omega arith) (within i l)).row (get_or ys i x).spare
        (exact i x (within i l) ne (turning i l turns)) j m;
    values = λ i l ne turns.
        room_value read ys i x (within i l)
        ∙ steps.row_value_is 0 after r s p (entry_of read y) is_pivot own_after read (get_or ys i x).row y i refl
        own_value_after (sym (slot_entries read ys i x (within i l))) (sym (slot_value read ys i x (within i l)))
        (wide i x (omega arith) (within i l)).row (get_or ys i x).spare
        (exact i x (within i l) ne (turning i l turns));
    spare_costs = λ j l.
        last j (subst (λ (n : ℕ). j < n) (sym costs_in) l)
        ∙ steps.entry_is 0 after r s p (entry_of read y) is_pivot own_after (fraction_at read costs)
        (fraction_at read costs) refl j l;
  }
    where
      turning : (i : ℕ) → i < length basic → entry_at read (rows_of ys) i s ≢ zero_q
          → entry_of read (get_or ys i x).row s ≢ zero_q
      turning i l ne e = ne (ap (λ (a : ℕ → Fraction). a s) (slot_entries read ys i x (within i l)) ∙ e)
