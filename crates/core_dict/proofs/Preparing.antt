-- What a pivot's steps on the rows say of its dictionary.
use Rattle.std.proofs.Common.{◌≡◌, ◌≢◌, ℕ, ◌<◌, cond, eqb, sym, ap, ap₂, ◌∙◌, subst}
use Rattle.fractions.specs.Fraction.{Fraction, ◌-ℚ◌, ◌*ℚ◌, ◌/ℚ◌, neg_ℚ}
use Rattle.fractions.specs.Leaves.{OverLeaves, LessTimesLeaves}
use Rattle.core_dict.specs.Dictionary.{Dictionary}
use Rattle.core_dict.specs.Pivot.{own_entry, own_value, other_entry, other_value}
use Rattle.core_dict.specs.Leaving as leaving
use Rattle.core_dict.specs.Rows.{width, entry_of, divided_entry, entry_after, EntriesLeave, Quotient, Less}
use Rattle.core_dict.specs.Rows.{OwnRowLeaves, Entry, OwnValue, RowLeaves, Entries, Value, IsOwnAfter, IsAfter}
use Rattle.core_dict.specs.declared.row.Row.{Row}
use Rattle.core_dict.proofs.Outcomes.{leaves_same, less_same}

module _ (most : ℕ) (d : Dictionary) (r s : ℕ) where
  -- ---- the pivot's own row
  module _ {E : Type 0} (read : E → Fraction) (x : Row E) (e : entry_of read x ≡ d.entry r)
      (v : read x.value ≡ d.value r) (n : width x ≡ d.cols) where
    pub own_leaves : OwnRowLeaves most read s x → leaving.PivotLeaves most d r s
    own_leaves (Entry j l h) = leaving.OwnEntry j (subst (λ (z : ℕ). j < z) n l)
        (subst (λ (a : ℕ → Fraction). OverLeaves most (divided_entry s a j) (a s)) e h)
    own_leaves (OwnValue h) = leaving.OwnValue
        (subst (λ (a : ℕ → Fraction). OverLeaves most (d.value r) (a s)) e
        (subst (λ (z : Fraction). OverLeaves most z (entry_of read x s)) v h))

    pub own_entry_leaves : (j : ℕ) → j < d.cols → OverLeaves most (divided_entry s (d.entry r) j) (d.entry r s)
        → OwnRowLeaves most read s x
    own_entry_leaves j l h = Entry j (subst (λ (z : ℕ). j < z) (sym n) l)
        (subst (λ (a : ℕ → Fraction). OverLeaves most (divided_entry s a j) (a s)) (sym e) h)

    pub own_value_leaves : OverLeaves most (d.value r) (d.entry r s) → OwnRowLeaves most read s x
    own_value_leaves h = OwnValue
        (subst (λ (z : Fraction). OverLeaves most z (entry_of read x s)) (sym v)
        (subst (λ (a : ℕ → Fraction). OverLeaves most (d.value r) (a s)) (sym e) h))

    -- what is made of it
    pub own_entry_is : (y : Row E) → IsOwnAfter read s x y → (j : ℕ) → j < d.cols
        → entry_of read y j ≡ own_entry d r s j
    own_entry_is y h j l =
        h.entries j (subst (λ (z : ℕ). j < z) (sym n) l)
        ∙ ap (λ (a : ℕ → Fraction). divided_entry s a j /ℚ a s) e

    pub own_value_is : (y : Row E) → IsOwnAfter read s x y → read y.value ≡ own_value d r s
    own_value_is y h = h.value ∙ ap₂ ◌/ℚ◌ v (ap (λ (a : ℕ → Fraction). a s) e)

  -- ---- another row, or the costs
  module _ (p : Fraction) (own : ℕ → Fraction) (q : p ≡ d.entry r s)
      (o : (j : ℕ) → j < d.cols → own j ≡ own_entry d r s j) where
    pub entries_leave : (n : ℕ) (a b : ℕ → Fraction) → n ≡ d.cols → a ≡ b → EntriesLeave most n p s own a
        → leaving.OtherLeaves most d r s (b s) b
    entries_leave n a b m e (Quotient h) =
        leaving.Quotient (subst (λ (c : ℕ → Fraction). OverLeaves most (c s) (d.entry r s)) e
        (subst (λ (z : Fraction). OverLeaves most (a s) z) q h))
    entries_leave n a b m e (Less j l ne h) =
        leaving.Entry j (subst (λ (z : ℕ). j < z) m l) ne
        (leaves_same (ap (λ (c : ℕ → Fraction). c j) e) (ap (λ (c : ℕ → Fraction). c s) e)
        (o j (subst (λ (z : ℕ). j < z) m l)) h)

    pub leaves_entries : (n : ℕ) (a b : ℕ → Fraction) → n ≡ d.cols → a ≡ b
        → leaving.OtherLeaves most d r s (b s) b → EntriesLeave most n p s own a
    leaves_entries n a b m e (leaving.Quotient h) =
        Quotient (subst (λ (c : ℕ → Fraction). OverLeaves most (c s) p) (sym e)
        (subst (λ (z : Fraction). OverLeaves most (b s) z) (sym q) h))
    leaves_entries n a b m e (leaving.Entry j l ne h) =
        Less j (subst (λ (z : ℕ). j < z) (sym m) l) ne
        (leaves_same (ap (λ (c : ℕ → Fraction). c j) (sym e)) (ap (λ (c : ℕ → Fraction). c s) (sym e))
        (sym (o j l)) h)

    -- an entry afterwards
    pub entry_is : (a b : ℕ → Fraction) → a ≡ b → (j : ℕ) → j < d.cols
        → entry_after p s own a j ≡ other_entry d r s (b s) b j
    entry_is a b e j l =
        ap₂ (λ (x y : Fraction). cond (eqb j s) (neg_ℚ (a s /ℚ x)) (a j -ℚ a s *ℚ y)) q (o j l)
        ∙ ap (λ (c : ℕ → Fraction). other_entry d r s (c s) c j) e

    module _ {E : Type 0} (read : E → Fraction) (x y : Row E) (i : ℕ) (f : entry_of read y ≡ own)
        (u : read y.value ≡ own_value d r s) (e : entry_of read x ≡ d.entry i) (v : read x.value ≡ d.value i)
        (n : width x ≡ d.cols) where
      pub row_leaves : i < d.rows → i ≢ r → RowLeaves most read p s y x → leaving.PivotLeaves most d r s
      row_leaves l ne (Entries h) = leaving.OtherRow i l ne
          (entries_leave (width x) (entry_of read x) (d.entry i) n e
          (subst (λ (c : ℕ → Fraction). EntriesLeave most (width x) p s c (entry_of read x)) f h))
      row_leaves l ne (Value h) =
          leaving.OtherValue i l ne (leaves_same v (ap (λ (c : ℕ → Fraction). c s) e) u h)

      pub leaves_row : leaving.OtherLeaves most d r s (d.entry i s) (d.entry i) → RowLeaves most read p s y x
      leaves_row h = Entries
          (subst (λ (c : ℕ → Fraction). EntriesLeave most (width x) p s c (entry_of read x)) (sym f)
          (leaves_entries (width x) (entry_of read x) (d.entry i) n e h))

      pub leaves_value : LessTimesLeaves most (d.value i) (d.entry i s) (own_value d r s)
          → RowLeaves most read p s y x
      leaves_value h = Value (leaves_same (sym v) (ap (λ (c : ℕ → Fraction). c s) (sym e)) (sym u) h)

      pub row_entry_is : (z : Row E) → IsAfter read p s y x z → (j : ℕ) → j < d.cols
          → entry_of read z j ≡ other_entry d r s (d.entry i s) (d.entry i) j
      row_entry_is z h j l =
          h.entries j (subst (λ (m : ℕ). j < m) (sym n) l)
          ∙ ap (λ (c : ℕ → Fraction). entry_after p s c (entry_of read x) j) f
          ∙ entry_is (entry_of read x) (d.entry i) e j l

      pub row_value_is : (z : Row E) → IsAfter read p s y x z → read z.value ≡ other_value d r s i
      row_value_is z h = h.value ∙ less_same v (ap (λ (c : ℕ → Fraction). c s) e) u

  -- where none of its parts leaves, a pivot does not
  pub no_pivot_leaves : ((j : ℕ) → j < d.cols → OverLeaves most (divided_entry s (d.entry r) j) (d.entry r s) → ⊥)
      → (OverLeaves most (d.value r) (d.entry r s) → ⊥)
      → ((i : ℕ) → i < d.rows → i ≢ r → leaving.OtherLeaves most d r s (d.entry i s) (d.entry i) → ⊥)
      → ((i : ℕ) → i < d.rows → i ≢ r
      → LessTimesLeaves most (d.value i) (d.entry i s) (own_value d r s) → ⊥)
      → (leaving.OtherLeaves most d r s (d.cost s) d.cost → ⊥) → leaving.PivotLeaves most d r s → ⊥
  no_pivot_leaves a b c e f (leaving.OwnEntry j l h) = a j l h
  no_pivot_leaves a b c e f (leaving.OwnValue h) = b h
  no_pivot_leaves a b c e f (leaving.OtherRow i l ne h) = c i l ne h
  no_pivot_leaves a b c e f (leaving.OtherValue i l ne h) = e i l ne h
  no_pivot_leaves a b c e f (leaving.Costs h) = f h
