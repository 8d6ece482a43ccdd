-- A tableau whose room has been put in place is that of the pivot.
use Rattle.std.proofs.Common.{◌≡◌, ◌≢◌, ℕ, ◌<◌, ◌⊎◌, inl, inr, List, length, get_or, set}
use Rattle.std.proofs.Common.{sym, ap, ◌∙◌, subst, refl, arith}
use Rattle.std.proofs.lemmas.Bool.{cases_eq}
use Rattle.std.proofs.lemmas.List.{get_or-set_same, get_or-set_other, length-set}
use Rattle.fractions.specs.Fraction.{Fraction, zero_q, neg_ℚ, ◌*ℚ◌, inverse}
use Rattle.fractions.proofs.Laws.{≤ℚ_total, ≤ℚ_antisymm}
use Rattle.fractions.proofs.Signs.{not_zero_below, not_zero_above}
use Rattle.algebra.proofs.Ring.{v, ◌⊗◌, ⊖, 𝟎, ring}
use Rattle.std.proofs.Common.{[], ◌∷◌}
use Rattle.fractions.proofs.Field.{field}
use Rattle.core_dict.specs.Dictionary.{Dictionary, HasVariables}
use Rattle.core_dict.specs.Pivot.{pivot, other_entry, other_value}
use Rattle.core_dict.specs.Variables.{HaveVariables}
use Rattle.core_dict.specs.Rows.{width, entry_of, AreWide, IsWide, IsExchanged}
use Rattle.core_dict.specs.Dense.{rows_of, entry_at, value_at, tableau, IsPrepared}
use Rattle.core_dict.specs.DenseLaw.{slot_entries, slot_value, room_entries, room_value, tableau_outside}
use Rattle.core_dict.specs.declared.row.Row.{Row}
use Rattle.core_dict.specs.declared.row.Slot.{Slot}
use Rattle.core_dict.proofs.Choice.{at_equal, at_other}
use Rattle.core_dict.proofs.Holding.{have_variables}
use Rattle.core_dict.proofs.Outside.{same_from_Agree, IsZeroOutside_pivot}
use Rattle.fractions.proofs.LessTimes.{zero_less}
use Rattle.core_dict.proofs.Variables.{HasVariables_pivot}

-- a fraction is 0 or not
zero_or_not : (a : Fraction) → (a ≡ zero_q) ⊎ (a ≢ zero_q)
zero_or_not a =
    elim (≤ℚ_total a zero_q) [
      | inl low ↦ elim (≤ℚ_total zero_q a) [
        | inl high ↦ inl (≤ℚ_antisymm a zero_q low high)
        | inr below ↦ inr (not_zero_below below)
      ]
      | inr above ↦ inr (not_zero_above above)
    ]

-- a row with 0 in the pivot's column is as it was
same_entry : (d : Dictionary) (r s : ℕ) (a : ℕ → Fraction) (j : ℕ) → a s ≡ zero_q → a j ≡ other_entry d r s (a s) a j
same_entry d r s a j e = by (cases_eq j s)
  where
    by : (j ≡ s) ⊎ (j ≢ s) → a j ≡ other_entry d r s (a s) a j
    by (inl f) =
        ap a f ∙ e ∙ ring field (inverse (d.entry r s) ∷ []) 𝟎 (⊖ (𝟎 ⊗ v 0)) refl
        ∙ ap (λ (z : Fraction). neg_ℚ (z *ℚ inverse (d.entry r s))) (sym e) ∙ sym (at_equal j s _ _ f)
    by (inr ne) = zero_less (a j) (a s) _ e ∙ sym (at_other j s _ _ ne)

module _ {E : Type 0} (read : E → Fraction) (r s : ℕ) (xs : List (Slot E)) (costs : List E)
    (basic nonbasic : List ℕ) (same : length xs ≡ length basic) (wide : AreWide (length nonbasic) xs)
    (costs_in : length costs ≡ length nonbasic) (lr : r < length basic) (ls : s < length nonbasic)
    (turns : entry_at read (rows_of xs) r s ≢ zero_q) (own : Row E) (spare : List E)
    (prepared : IsPrepared read r s xs costs basic nonbasic own spare) (own_in : width own ≡ length nonbasic)
    (spare_in : length spare ≡ length nonbasic) (x w : Slot E) (at : x ≡ get_or xs r x) (row_is : w.row ≡ x.row)
    (room_is : w.spare ≡ own) (ys : List (Slot E)) (long : length ys ≡ length xs)
    (exchanged : (k : ℕ) (z : Slot E) → k < length xs → IsExchanged read s (get_or (set xs r w) k z) (get_or ys k z))
  where
    abbrev d : Dictionary
    d = tableau read (rows_of xs) costs basic nonbasic

    inside : (k : ℕ) → k < length basic → k < length xs
    inside k l = subst (λ (n : ℕ). k < n) (sym same) l

    after : (k : ℕ) → k < length basic → k < length ys
    after k l = subst (λ (n : ℕ). k < n) (sym long) (inside k l)

    -- the pivot's own row
    pivot_row : entry_of read x.row ≡ d.entry r
    pivot_row = ap (λ (y : Slot E). entry_of read y.row) at ∙ sym (slot_entries read xs r x (inside r lr))

    own_turns : entry_of read w.row s ≢ zero_q
    own_turns e = turns (sym (ap (λ (a : ℕ → Fraction). a s) pivot_row)
        ∙ sym (ap (λ (y : Row E). entry_of read y s) row_is) ∙ e)

    own_exchanged : (z : Slot E) → IsExchanged read s w (get_or ys r z)
    own_exchanged z = subst (λ (y : Slot E). IsExchanged read s y (get_or ys r z))
        (get_or-set_same xs r w z (inside r lr)) (exchanged r z (inside r lr))

    own_row : (z : Slot E) → (get_or ys r z).row ≡ own
    own_row z = (own_exchanged z).row own_turns ∙ room_is

    -- another row
    other_exchanged : (k : ℕ) (z : Slot E) → k < length xs → k ≢ r → IsExchanged read s (get_or xs k z) (get_or ys k z)
    other_exchanged k z l ne = subst (λ (y : Slot E). IsExchanged read s y (get_or ys k z))
        (get_or-set_other xs r k w z ne) (exchanged k z l)

    -- each row and its room are as wide
    pub wide_after : AreWide (length nonbasic) ys
    wide_after k z l m = by (cases_eq k r)
      where
        in_xs : k < length xs
        in_xs = subst (λ (n : ℕ). k < n) long m

        was : IsWide (length nonbasic) (get_or xs k z)
        was = wide k z l in_xs

        at_row : (z : Slot E) → IsWide (length nonbasic) (get_or ys r z)
        at_row z = record {
          row = ap width (own_row z) ∙ own_in;
          spare = ap width ((own_exchanged z).spare own_turns ∙ row_is)
              ∙ ap (λ (y : Slot E). width y.row) at ∙ (wide r x (omega arith) (inside r lr)).row;
        }

        other : (entry_of read (get_or xs k z).row s ≡ zero_q) ⊎ (entry_of read (get_or xs k z).row s ≢ zero_q)
            → k ≢ r → IsWide (length nonbasic) (get_or ys k z)
        other (inl e) ne =
            subst (λ (y : Slot E). IsWide (length nonbasic) y) (sym ((other_exchanged k z in_xs ne).same e)) was
        other (inr e) ne = record {
          row = ap width ((other_exchanged k z in_xs ne).row e) ∙ was.spare;
          spare = ap width ((other_exchanged k z in_xs ne).spare e) ∙ was.row;
        }

        by : (k ≡ r) ⊎ (k ≢ r) → IsWide (length nonbasic) (get_or ys k z)
        by (inl e) = subst (λ (i : ℕ). IsWide (length nonbasic) (get_or ys i z)) (sym e) (at_row z)
        by (inr ne) = other (zero_or_not (entry_of read (get_or xs k z).row s)) ne

    -- what each number is
    entry_is : (i j : ℕ) → i < length basic → j < length nonbasic
        → entry_at read (rows_of ys) i j ≡ (pivot d r s).entry i j
    entry_is i j l m = by (cases_eq i r)
      where
        here : entry_at read (rows_of ys) r j ≡ (pivot d r s).entry r j
        here =
            ap (λ (a : ℕ → Fraction). a j) (slot_entries read ys r x (after r lr))
            ∙ ap (λ (y : Row E). entry_of read y j) (own_row x) ∙ prepared.own_entries j m
            ∙ sym (at_equal r r _ _ refl)

        start : entry_at read (rows_of ys) i j ≡ entry_of read (get_or ys i x).row j
        start = ap (λ (a : ℕ → Fraction). a j) (slot_entries read ys i x (after i l))

        before : (k : ℕ) → entry_of read (get_or xs i x).row k ≡ d.entry i k
        before k = sym (ap (λ (a : ℕ → Fraction). a k) (slot_entries read xs i x (inside i l)))

        other : (entry_of read (get_or xs i x).row s ≡ zero_q) ⊎ (entry_of read (get_or xs i x).row s ≢ zero_q)
            → i ≢ r → entry_at read (rows_of ys) i j ≡ other_entry d r s (d.entry i s) (d.entry i) j
        other (inl e) ne =
            start ∙ ap (λ (y : Slot E). entry_of read y.row j) ((other_exchanged i x (inside i l) ne).same e) ∙ before j
            ∙ same_entry d r s (d.entry i) j (sym (before s) ∙ e)
        other (inr e) ne =
            start ∙ ap (λ (y : Row E). entry_of read y j) ((other_exchanged i x (inside i l) ne).row e)
            ∙ sym (ap (λ (a : ℕ → Fraction). a j) (room_entries read xs i x (inside i l)))
            ∙ prepared.entries i j l ne (λ f. e (before s ∙ f)) m

        by : (i ≡ r) ⊎ (i ≢ r) → entry_at read (rows_of ys) i j ≡ (pivot d r s).entry i j
        by (inl e) = subst (λ (k : ℕ). entry_at read (rows_of ys) k j ≡ (pivot d r s).entry k j) (sym e) here
        by (inr ne) = other (zero_or_not (entry_of read (get_or xs i x).row s)) ne ∙ sym (at_other i r _ _ ne)

    value_is : (i : ℕ) → i < length basic → value_at read (rows_of ys) i ≡ (pivot d r s).value i
    value_is i l = by (cases_eq i r)
      where
        here : value_at read (rows_of ys) r ≡ (pivot d r s).value r
        here =
            slot_value read ys r x (after r lr) ∙ ap (λ (y : Row E). read y.value) (own_row x) ∙ prepared.own_value
            ∙ sym (at_equal r r _ _ refl)

        before : entry_of read (get_or xs i x).row s ≡ d.entry i s
        before = sym (ap (λ (a : ℕ → Fraction). a s) (slot_entries read xs i x (inside i l)))

        other : (entry_of read (get_or xs i x).row s ≡ zero_q) ⊎ (entry_of read (get_or xs i x).row s ≢ zero_q)
            → i ≢ r → value_at read (rows_of ys) i ≡ other_value d r s i
        other (inl e) ne =
            slot_value read ys i x (after i l)
            ∙ ap (λ (y : Slot E). read y.row.value) ((other_exchanged i x (inside i l) ne).same e)
            ∙ sym (slot_value read xs i x (inside i l)) ∙ zero_less (d.value i) (d.entry i s) _ (sym before ∙ e)
        other (inr e) ne =
            slot_value read ys i x (after i l)
            ∙ ap (λ (y : Row E). read y.value) ((other_exchanged i x (inside i l) ne).row e)
            ∙ sym (room_value read xs i x (inside i l)) ∙ prepared.values i l ne (λ f. e (before ∙ f))

        by : (i ≡ r) ⊎ (i ≢ r) → value_at read (rows_of ys) i ≡ (pivot d r s).value i
        by (inl e) = subst (λ (k : ℕ). value_at read (rows_of ys) k ≡ (pivot d r s).value k) (sym e) here
        by (inr ne) = other (zero_or_not (entry_of read (get_or xs i x).row s)) ne ∙ sym (at_other i r _ _ ne)

    -- the variables change places
    module _ (b n : ℕ) (b_is : b ≡ get_or nonbasic s 0) (n_is : n ≡ get_or basic r 0) where
      basic_is : (i : ℕ) → i < length basic → get_or (set basic r b) i 0 ≡ (pivot d r s).basic i
      basic_is i l = by (cases_eq i r)
        where
          by : (i ≡ r) ⊎ (i ≢ r) → get_or (set basic r b) i 0 ≡ (pivot d r s).basic i
          by (inl e) =
              ap (λ (k : ℕ). get_or (set basic r b) k 0) e ∙ get_or-set_same basic r b 0 lr ∙ b_is
              ∙ sym (at_equal i r _ _ e)
          by (inr ne) = get_or-set_other basic r i b 0 ne ∙ sym (at_other i r _ _ ne)

      nonbasic_is : (j : ℕ) → j < length nonbasic → get_or (set nonbasic s n) j 0 ≡ (pivot d r s).nonbasic j
      nonbasic_is j l = by (cases_eq j s)
        where
          by : (j ≡ s) ⊎ (j ≢ s) → get_or (set nonbasic s n) j 0 ≡ (pivot d r s).nonbasic j
          by (inl e) =
              ap (λ (k : ℕ). get_or (set nonbasic s n) k 0) e ∙ get_or-set_same nonbasic s n 0 ls ∙ n_is
              ∙ sym (at_equal j s _ _ e)
          by (inr ne) = get_or-set_other nonbasic s j n 0 ne ∙ sym (at_other j s _ _ ne)

      pub variables_after : HasVariables d → HaveVariables (set basic r b) (set nonbasic s n)
      variables_after h =
          have_variables (pivot d r s) (set basic r b) (set nonbasic s n) (HasVariables_pivot d r s lr ls h)
          (length-set basic r b) (length-set nonbasic s n) basic_is nonbasic_is

      -- and so the tableau is that of the pivot
      pub pivoted : tableau read (rows_of ys) spare (set basic r b) (set nonbasic s n) ≡ pivot d r s
      pivoted =
          same_from_Agree (tableau read (rows_of ys) spare (set basic r b) (set nonbasic s n)) (pivot d r s)
          (tableau_outside read ys spare (set basic r b) (set nonbasic s n) (long ∙ same ∙ sym (length-set basic r b))
          (subst (λ (m : ℕ). AreWide m ys) (sym (length-set nonbasic s n)) wide_after)
          (spare_in ∙ sym (length-set nonbasic s n)))
          (IsZeroOutside_pivot d r s lr ls
          (tableau_outside read xs costs basic nonbasic same wide costs_in))
          record {
            rows = length-set basic r b;
            cols = length-set nonbasic s n;
            basic = λ i l. basic_is i (subst (λ (m : ℕ). i < m) (length-set basic r b) l);
            nonbasic = λ j l. nonbasic_is j (subst (λ (m : ℕ). j < m) (length-set nonbasic s n) l);
            value = λ i l. value_is i (subst (λ (m : ℕ). i < m) (length-set basic r b) l);
            entry = λ i j l k. entry_is i j (subst (λ (m : ℕ). i < m) (length-set basic r b) l)
                (subst (λ (m : ℕ). j < m) (length-set nonbasic s n) k);
            cost = λ j l. prepared.spare_costs j (subst (λ (m : ℕ). j < m) (length-set nonbasic s n) l);
          }
