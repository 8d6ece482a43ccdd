-- A tableau whose room has been put in place is that of the pivot.
use Rattle.std.proofs.Common.{◌≡◌, ◌≢◌, ℕ, ◌<◌, ◌⊎◌, inl, inr, List, [], ◌∷◌, length, get_or, set}
use Rattle.std.proofs.Common.{Bool, true, false, if◌then◌else◌, sym, ap, ◌∙◌, subst, refl}
use Rattle.std.proofs.lemmas.Bool.{cases_eq}
use Rattle.std.proofs.lemmas.List.{get_or-set_same, get_or-set_other, length-set}
use Rattle.algebra.proofs.Ring.{v, ◌⊗◌, ⊖, 𝟎, ring}
use Rattle.fractions.specs.Fraction.{Fraction, zero_q, neg_ℚ, ◌*ℚ◌, inverse}
use Rattle.fractions.proofs.Field.{field}
use Rattle.fractions.proofs.Laws.{≤ℚ_total, ≤ℚ_antisymm}
use Rattle.fractions.proofs.Signs.{not_zero_below, not_zero_above}
use Rattle.core_dict.specs.Dictionary.{Dictionary, HasVariables}
use Rattle.core_dict.specs.Pivot.{pivot, other_entry, other_value}
use Rattle.core_dict.specs.Variables.{HaveVariables}
use Rattle.core_dict.proofs.Choice.{at_equal, at_other}
use Rattle.core_dict.proofs.Holding.{have_variables}
use Rattle.core_dict.proofs.Outside.{same_from_Agree, IsZeroOutside_pivot}
use Rattle.fractions.proofs.LessTimes.{zero_less}
use Rattle.core_dict.proofs.Variables.{HasVariables_pivot}
use Rattle.core_sparse.specs.Items.{number, AreItems}
use Rattle.core_sparse.specs.Steps.{entry_of, AreKept, IsMarked, IsPut, IsExchanged}
use Rattle.core_sparse.specs.Sparse.{rows_of, entry_of_row, value_of_row, tableau, IsPrepared}
use Rattle.core_sparse.specs.SparseLaw.{slot_entries, slot_value, entries_at, value_of_at, tableau_outside}
use Rattle.core_sparse.specs.declared.row.Item.{Item}
use Rattle.core_sparse.specs.declared.row.Row.{Row}
use Rattle.core_sparse.specs.declared.row.Slot.{Slot}

-- a fraction is not 0 or is
turns_or_not : (a : Fraction) → (a ≢ zero_q) ⊎ (a ≡ zero_q)
turns_or_not a =
    elim (≤ℚ_total a zero_q) [
      | inl low ↦ elim (≤ℚ_total zero_q a) [
        | inl high ↦ inr (≤ℚ_antisymm a zero_q low high)
        | inr below ↦ inl (not_zero_below below)
      ]
      | inr above ↦ inl (not_zero_above above)
    ]

-- numbers with 0 in the pivot's column stay
other_entry-unchanged : (d : Dictionary) (r s j : ℕ) (a : ℕ → Fraction) → a s ≡ zero_q
    → a j ≡ other_entry d r s (a s) a j
other_entry-unchanged d r s j a e = by (cases_eq j s)
  where
    by : (j ≡ s) ⊎ (j ≢ s) → a j ≡ other_entry d r s (a s) a j
    by (inl f) =
        ap a f ∙ e ∙ ring field (inverse (d.entry r s) ∷ []) 𝟎 (⊖ (𝟎 ⊗ v 0)) refl
        ∙ ap (λ (z : Fraction). neg_ℚ (z *ℚ inverse (d.entry r s))) (sym e) ∙ sym (at_equal j s _ _ f)
    by (inr ne) = zero_less (a j) (a s) _ e ∙ sym (at_other j s _ _ ne)

module _ {E : Type 0} (read : E → Fraction) (r s : ℕ) (xs : List (Slot E)) (costs : List (Item E))
    (basic nonbasic : List ℕ) (same : length xs ≡ length basic) (kept : AreKept read (length nonbasic) xs)
    (costs_kept : AreItems read (length nonbasic) costs) (lr : r < length basic) (ls : s < length nonbasic)
    (turns : entry_of_row read (rows_of xs) r s ≢ zero_q) (own : Row E) (spare : List (Item E))
    (prepared : IsPrepared read r s xs costs basic nonbasic own spare) (x w : Slot E) (at : x ≡ get_or xs r x)
    (row_is : w.row ≡ x.row) (room_is : w.spare ≡ own) (ys : List (Slot E)) (long : length ys ≡ length xs)
    (exchanged : (k : ℕ) (z : Slot E) → k < length xs → IsExchanged read s (get_or (set xs r w) k z) (get_or ys k z))
    (last : List (Item E)) (changed : number read costs s ≢ zero_q → last ≡ spare)
    (stays : number read costs s ≡ zero_q → last ≡ costs) where
  abbrev d : Dictionary
  d = tableau read (rows_of xs) costs basic nonbasic

  inside : (k : ℕ) → k < length basic → k < length xs
  inside k l = subst (λ (n : ℕ). k < n) (sym same) l

  after : (k : ℕ) → k < length basic → k < length ys
  after k l = subst (λ (n : ℕ). k < n) (sym long) (inside k l)

  -- the pivot's own row
  pivot_row : entry_of read x.row ≡ d.entry r
  pivot_row = ap (λ (y : Slot E). entry_of read y.row) at ∙ sym (slot_entries read xs r x (inside r lr))

  own_turns : entry_of read w.row s ≢ zero_q
  own_turns e = turns (sym (ap (λ (a : ℕ → Fraction). a s) pivot_row)
      ∙ sym (ap (λ (y : Row E). entry_of read y s) row_is) ∙ e)

  own_row : (z : Slot E) → (get_or ys r z).row ≡ own
  own_row z =
      let h : IsExchanged read s w (get_or ys r z) =
      subst (λ (y : Slot E). IsExchanged read s y (get_or ys r z)) (get_or-set_same xs r w z (inside r lr))
      (exchanged r z (inside r lr)) in
      h.row own_turns ∙ room_is

  -- another row
  other : (k : ℕ) (z : Slot E) → k < length xs → k ≢ r → IsExchanged read s (get_or xs k z) (get_or ys k z)
  other k z l ne = subst (λ (y : Slot E). IsExchanged read s y (get_or ys k z))
      (get_or-set_other xs r k w z ne) (exchanged k z l)

  before : (k : ℕ) (z : Slot E) → k < length basic → entry_of read (get_or xs k z).row s ≡ d.entry k s
  before k z l = sym (ap (λ (a : ℕ → Fraction). a s) (slot_entries read xs k z (inside k l)))

  -- the items of each row are kept
  pub kept_after : AreKept read (length nonbasic) ys
  kept_after k z m = by (cases_eq k r)
    where
      in_xs : k < length xs
      in_xs = subst (λ (n : ℕ). k < n) long m

      in_basic : k < length basic
      in_basic = subst (λ (n : ℕ). k < n) same in_xs

      at_other_row : k ≢ r → (entry_of read (get_or xs k z).row s ≢ zero_q) ⊎ (entry_of read (get_or xs k z).row s ≡ zero_q)
          → AreItems read (length nonbasic) (get_or ys k z).row.items.items
      at_other_row ne (inl e) = subst (λ (y : Row E). AreItems read (length nonbasic) y.items.items)
          (sym ((other k z in_xs ne).row e))
          (prepared.kept k z in_basic ne (λ f. e (before k z in_basic ∙ f)))
      at_other_row ne (inr e) = subst (λ (y : Row E). AreItems read (length nonbasic) y.items.items)
          (sym ((other k z in_xs ne).same e)) (kept k z in_xs)

      by : (k ≡ r) ⊎ (k ≢ r) → AreItems read (length nonbasic) (get_or ys k z).row.items.items
      by (inl e) = subst (λ (i : ℕ). AreItems read (length nonbasic) (get_or ys i z).row.items.items) (sym e)
          (subst (λ (y : Row E). AreItems read (length nonbasic) y.items.items) (sym (own_row z)) prepared.own_kept)
      by (inr ne) = at_other_row ne (turns_or_not (entry_of read (get_or xs k z).row s))

  -- and those of the costs
  pub costs_kept_after : AreItems read (length nonbasic) last
  costs_kept_after = elim (turns_or_not (number read costs s)) [
    | inl e ↦ subst (AreItems read (length nonbasic)) (sym (changed e)) (prepared.costs_kept e)
    | inr e ↦ subst (AreItems read (length nonbasic)) (sym (stays e)) costs_kept
  ]

  -- what each number is
  cost_is : (j : ℕ) → j < length nonbasic → number read last j ≡ (pivot d r s).cost j
  cost_is j l = elim (turns_or_not (number read costs s)) [
    | inl e ↦ ap (λ (zs : List (Item E)). number read zs j) (changed e) ∙ prepared.spare_costs e j l
    | inr e ↦ ap (λ (zs : List (Item E)). number read zs j) (stays e)
        ∙ other_entry-unchanged d r s j (number read costs) e
  ]

  entry_is : (i j : ℕ) → i < length basic → j < length nonbasic
      → entry_of_row read (rows_of ys) i j ≡ (pivot d r s).entry i j
  entry_is i j l m = by (cases_eq i r)
    where
      here : entry_of_row read (rows_of ys) r j ≡ (pivot d r s).entry r j
      here =
          ap (λ (a : ℕ → Fraction). a j) (slot_entries read ys r x (after r lr))
          ∙ ap (λ (y : Row E). entry_of read y j) (own_row x) ∙ prepared.own_entries j m ∙ sym (at_equal r r _ _ refl)

      start : entry_of_row read (rows_of ys) i j ≡ entry_of read (get_or ys i x).row j
      start = ap (λ (a : ℕ → Fraction). a j) (slot_entries read ys i x (after i l))

      there : i ≢ r → (entry_of read (get_or xs i x).row s ≢ zero_q) ⊎ (entry_of read (get_or xs i x).row s ≡ zero_q)
          → entry_of_row read (rows_of ys) i j ≡ other_entry d r s (d.entry i s) (d.entry i) j
      there ne (inl e) =
          start ∙ ap (λ (y : Row E). entry_of read y j) ((other i x (inside i l) ne).row e)
          ∙ sym (ap (λ (a : ℕ → Fraction). a j)
          (entries_at read (λ (z : Slot E). z.spare) xs i x (inside i l)))
          ∙ prepared.entries i j l ne (λ f. e (before i x l ∙ f)) m
      there ne (inr e) =
          start ∙ ap (λ (y : Row E). entry_of read y j) ((other i x (inside i l) ne).same e)
          ∙ sym (ap (λ (a : ℕ → Fraction). a j) (slot_entries read xs i x (inside i l)))
          ∙ other_entry-unchanged d r s j (d.entry i) (sym (before i x l) ∙ e)

      by : (i ≡ r) ⊎ (i ≢ r) → entry_of_row read (rows_of ys) i j ≡ (pivot d r s).entry i j
      by (inl e) = subst (λ (k : ℕ). entry_of_row read (rows_of ys) k j ≡ (pivot d r s).entry k j) (sym e) here
      by (inr ne) = there ne (turns_or_not (entry_of read (get_or xs i x).row s)) ∙ sym (at_other i r _ _ ne)

  value_is : (i : ℕ) → i < length basic → value_of_row read (rows_of ys) i ≡ (pivot d r s).value i
  value_is i l = by (cases_eq i r)
    where
      here : value_of_row read (rows_of ys) r ≡ (pivot d r s).value r
      here =
          slot_value read ys r x (after r lr) ∙ ap (λ (y : Row E). read y.value) (own_row x) ∙ prepared.own_value
          ∙ sym (at_equal r r _ _ refl)

      there : i ≢ r → (entry_of read (get_or xs i x).row s ≢ zero_q) ⊎ (entry_of read (get_or xs i x).row s ≡ zero_q)
          → value_of_row read (rows_of ys) i ≡ other_value d r s i
      there ne (inl e) =
          slot_value read ys i x (after i l)
          ∙ ap (λ (y : Row E). read y.value) ((other i x (inside i l) ne).row e)
          ∙ sym (value_of_at read (λ (z : Slot E). z.spare) xs i x (inside i l))
          ∙ prepared.values i l ne (λ f. e (before i x l ∙ f))
      there ne (inr e) =
          slot_value read ys i x (after i l)
          ∙ ap (λ (y : Row E). read y.value) ((other i x (inside i l) ne).same e)
          ∙ sym (slot_value read xs i x (inside i l)) ∙ zero_less (d.value i) (d.entry i s) _ (sym (before i x l) ∙ e)

      by : (i ≡ r) ⊎ (i ≢ r) → value_of_row read (rows_of ys) i ≡ (pivot d r s).value i
      by (inl e) = subst (λ (k : ℕ). value_of_row read (rows_of ys) k ≡ (pivot d r s).value k) (sym e) here
      by (inr ne) = there ne (turns_or_not (entry_of read (get_or xs i x).row s)) ∙ sym (at_other i r _ _ ne)

  -- the variables change places
  module _ (b n : ℕ) (b_is : b ≡ get_or nonbasic s 0) (n_is : n ≡ get_or basic r 0) where
    basic_is : (i : ℕ) → get_or (set basic r b) i 0 ≡ (pivot d r s).basic i
    basic_is i = by (cases_eq i r)
      where
        by : (i ≡ r) ⊎ (i ≢ r) → get_or (set basic r b) i 0 ≡ (pivot d r s).basic i
        by (inl e) =
            ap (λ (k : ℕ). get_or (set basic r b) k 0) e ∙ get_or-set_same basic r b 0 lr ∙ b_is
            ∙ sym (at_equal i r _ _ e)
        by (inr ne) = get_or-set_other basic r i b 0 ne ∙ sym (at_other i r _ _ ne)

    nonbasic_is : (j : ℕ) → get_or (set nonbasic s n) j 0 ≡ (pivot d r s).nonbasic j
    nonbasic_is j = by (cases_eq j s)
      where
        by : (j ≡ s) ⊎ (j ≢ s) → get_or (set nonbasic s n) j 0 ≡ (pivot d r s).nonbasic j
        by (inl e) =
            ap (λ (k : ℕ). get_or (set nonbasic s n) k 0) e ∙ get_or-set_same nonbasic s n 0 ls ∙ n_is
            ∙ sym (at_equal j s _ _ e)
        by (inr ne) = get_or-set_other nonbasic s j n 0 ne ∙ sym (at_other j s _ _ ne)

    pub variables_after : HasVariables d → HaveVariables (set basic r b) (set nonbasic s n)
    variables_after h =
        have_variables (pivot d r s) (set basic r b) (set nonbasic s n) (HasVariables_pivot d r s lr ls h)
        (length-set basic r b) (length-set nonbasic s n) (λ i l. basic_is i) (λ j l. nonbasic_is j)

    -- and so the tableau is that of the pivot
    pub pivoted : tableau read (rows_of ys) last (set basic r b) (set nonbasic s n) ≡ pivot d r s
    pivoted =
        same_from_Agree (tableau read (rows_of ys) last (set basic r b) (set nonbasic s n)) (pivot d r s)
        (tableau_outside read ys last (set basic r b) (set nonbasic s n) (long ∙ same ∙ sym (length-set basic r b))
        (subst (λ (m : ℕ). AreKept read m ys) (sym (length-set nonbasic s n)) kept_after)
        (subst (λ (m : ℕ). AreItems read m last) (sym (length-set nonbasic s n)) costs_kept_after))
        (IsZeroOutside_pivot d r s lr ls (tableau_outside read xs costs basic nonbasic same kept costs_kept))
        record {
          rows = length-set basic r b;
          cols = length-set nonbasic s n;
          basic = λ i l. basic_is i;
          nonbasic = λ j l. nonbasic_is j;
          value = λ i l. value_is i (subst (λ (m : ℕ). i < m) (length-set basic r b) l);
          entry = λ i j l k. entry_is i j (subst (λ (m : ℕ). i < m) (length-set basic r b) l)
              (subst (λ (m : ℕ). j < m) (length-set nonbasic s n) k);
          cost = λ j l. cost_is j (subst (λ (m : ℕ). j < m) (length-set nonbasic s n) l);
        }

-- where it is said right whether a row changes, it is exchanged
pub exchanged_where : {E : Type 0} (read : E → Fraction) (s : ℕ) (x y : Slot E) → IsMarked read s x → IsPut x y
    → IsExchanged read s x y
exchanged_where {E} read s x y marked put = record {
  row = λ turns. put ∙ ap (choice x) (marked.1 turns);
  same = λ e. put ∙ ap (choice x) (unmarked x.made refl e);
}
  where
    choice : Slot E → Bool → Row E
    choice x b = if b then x.spare else x.row

    unmarked : (b : Bool) → x.made ≡ b → entry_of read x.row s ≡ zero_q → x.made ≡ false
    unmarked true m e = absurd (marked.0 m e)
    unmarked false m e = m

-- a row that is marked to change, among the others
pub marked_with : {E : Type 0} (read : E → Fraction) (s : ℕ) (xs : List (Slot E)) (r : ℕ) (x w : Slot E) → r < length xs
    → x ≡ get_or xs r x → w.row ≡ x.row → w.made ≡ true → entry_of read x.row s ≢ zero_q
    → ((k : ℕ) (z : Slot E) → k < length xs → k ≢ r → IsMarked read s (get_or xs k z)) → (k : ℕ) (z : Slot E)
    → k < length xs → IsMarked read s (get_or (set xs r w) k z)
marked_with {E} read s xs r x w lr at row made turns others k z l = by (cases_eq k r)
  where
    here : IsMarked read s (get_or (set xs r w) r z)
    here =
        subst (λ (y : Slot E). IsMarked read s y) (sym (get_or-set_same xs r w z lr))
        (λ m e. turns (ap (λ (y : Row E). entry_of read y s) (sym row) ∙ e), λ n. made)

    by : (k ≡ r) ⊎ (k ≢ r) → IsMarked read s (get_or (set xs r w) k z)
    by (inl e) = subst (λ (i : ℕ). IsMarked read s (get_or (set xs r w) i z)) (sym e) here
    by (inr ne) = subst (λ (y : Slot E). IsMarked read s y) (sym (get_or-set_other xs r k w z ne)) (others k z l ne)
