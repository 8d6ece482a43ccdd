-- The values that a shift makes, one row after the other, and that they are those of the shifted dictionary.
use Rattle.std.proofs.Common.{◌≡◌, ◌≢◌, ℕ, ◌+◌, ◌<◌, ◌≤◌, ℤ, cond, eqb, List, length, map, get_or, set}
use Rattle.std.proofs.Common.{sym, ap, ap₂, ◌∙◌, subst, refl, arith, below_more}
use Rattle.std.proofs.Math.Seq.{map-set_same}
use Rattle.std.proofs.lemmas.List.{get_or-set_same, get_or-set_other, get_or_default}
use Rattle.fractions.specs.Fraction.{Fraction, one_q, ◌+ℚ◌, ◌*ℚ◌, whole}
use Rattle.fractions.specs.Leaves.{TimesLeaves, PlusLeaves}
use Rattle.core_dict.specs.Dictionary.{Dictionary, coefficient}
use Rattle.core_dict.specs.DenseLaw.{some_of}
use Rattle.core_dict.specs.Shift.{shifted, ShiftLeaves}
use Rattle.core_dict.specs.Shift as shift
use Rattle.core_dict.proofs.Outside.{same_from_Agree, IsZeroOutside_shifted}
use Rattle.core_sparse.specs.Items.{number, AreItems}
use Rattle.core_sparse.specs.Steps.{AreKept}
use Rattle.core_sparse.specs.Moved.{StandsIn, coefficient_of, MoveLeaves, Product, Sum, ValueLeaves, IsMoved, IsPlaced}
use Rattle.core_sparse.specs.Sparse.{rows_of, tableau}
use Rattle.core_sparse.specs.SparseLaw.{slot_entries, slot_value, tableau_outside}
use Rattle.core_sparse.specs.declared.row.Item.{Item}
use Rattle.core_sparse.specs.declared.row.Row.{Row}
use Rattle.core_sparse.specs.declared.row.Slot.{Slot}
use Rattle.core_sparse.proofs.Making.{same_row}

-- a move of equal numbers
pub move_same : {most : ℕ} {a b c e k : Fraction} → a ≡ b → c ≡ e → MoveLeaves most a c k → MoveLeaves most b e k
move_same {most = most} {k = k} f g (Product h) = Product (subst (λ (q : Fraction). TimesLeaves most q k) g h)
move_same {most = most} {b = b} {c = c} {k = k} f g (Sum h) =
    Sum (subst (λ (q : Fraction). PlusLeaves most b (q *ℚ k)) g
    (subst (λ (q : Fraction). PlusLeaves most q (c *ℚ k)) f h))

module _ {E : Type 0} (most : ℕ) (read : E → Fraction) (v s : ℕ) (by : Fraction) (basic : List ℕ)
    (before : List (Slot E)) where
  -- the values of the first n are made
  pub record ValuesBelow (xs : List (Slot E)) (i : ℕ) : Type 0 where
    pub rows : map (λ x. x.row) xs ≡ map (λ x. x.row) before
    pub exact : (k : ℕ) (x : Slot E) → k < i → IsMoved read v s by (get_or basic k 0) (get_or xs k x)
    pub fits : (k : ℕ) (x : Slot E) → k < i
        → ValueLeaves most read v s by (get_or basic k 0) (get_or before k x).row → ⊥

  -- one more
  pub values_more : (xs : List (Slot E)) (i : ℕ) (x y : Slot E) → ValuesBelow xs i → i < length xs
      → x ≡ get_or xs i x → y.row ≡ x.row → IsMoved read v s by (get_or basic i 0) y
      → (ValueLeaves most read v s by (get_or basic i 0) x.row → ⊥) → ValuesBelow (set xs i y) (i + 1)
  values_more xs i x y h l e same made fits = record {
    rows = map-set_same (λ (z : Slot E). z.row) xs i y x (same ∙ ap (λ (z : Slot E). z.row) e) ∙ h.rows;
    exact = λ k x l. all k l x;
    fits = λ k x l. none k l x;
  }
    where
      other : (k : ℕ) → k < i → k ≢ i
      other k m n = omega arith

      all : (k : ℕ) → k < i + 1 → (x : Slot E) → IsMoved read v s by (get_or basic k 0) (get_or (set xs i y) k x)
      all = below_more (λ (k : ℕ). (x : Slot E) → IsMoved read v s by (get_or basic k 0) (get_or (set xs i y) k x)) i
          (λ k m z. subst (λ (t : Slot E). IsMoved read v s by (get_or basic k 0) t)
          (sym (get_or-set_other xs i k y z (other k m))) (h.exact k z m))
          (λ z. subst (λ (t : Slot E). IsMoved read v s by (get_or basic i 0) t) (sym (get_or-set_same xs i y z l)) made)

      at_row : (z : Slot E) → (get_or before i z).row ≡ x.row
      at_row z = sym (same_row xs before i z h.rows l)
          ∙ ap (λ (t : Slot E). t.row) (get_or_default xs i z x l ∙ sym e)

      none : (k : ℕ) → k < i + 1 → (x : Slot E)
          → ValueLeaves most read v s by (get_or basic k 0) (get_or before k x).row → ⊥
      none = below_more
          (λ (k : ℕ). (x : Slot E) → ValueLeaves most read v s by (get_or basic k 0) (get_or before k x).row → ⊥) i
          (λ k m z. h.fits k z m)
          (λ z t. fits (subst (λ (u : Row E). ValueLeaves most read v s by (get_or basic i 0) u) (at_row z) t))

module _ {E : Type 0} (before : List (Slot E)) where
  -- the first n values are in place, and the others as before
  pub record PlacedBelow (xs : List (Slot E)) (n : ℕ) : Type 0 where
    pub done : (k : ℕ) (x : Slot E) → k < n → IsPlaced (get_or before k x) (get_or xs k x)
    pub rest : (k : ℕ) (x : Slot E) → n ≤ k → get_or xs k x ≡ get_or before k x

  pub placed_more : (xs : List (Slot E)) (i : ℕ) (x y : Slot E) → PlacedBelow xs i → i < length xs
      → x ≡ get_or xs i x → IsPlaced x y → PlacedBelow (set xs i y) (i + 1)
  placed_more xs i x y h l e now = record {
    done = λ k z m. all k m z;
    rest = λ k z m. get_or-set_other xs i k y z (later k m) ∙ h.rest k z (omega arith);
  }
    where
      other : (k : ℕ) → k < i → k ≢ i
      other k m n = omega arith

      later : (k : ℕ) → i + 1 ≤ k → k ≢ i
      later k m n = omega arith

      all : (k : ℕ) → k < i + 1 → (z : Slot E) → IsPlaced (get_or before k z) (get_or (set xs i y) k z)
      all = below_more (λ (k : ℕ). (z : Slot E) → IsPlaced (get_or before k z) (get_or (set xs i y) k z)) i
          (λ k m z. subst (λ (t : Slot E). IsPlaced (get_or before k z) t)
          (sym (get_or-set_other xs i k y z (other k m))) (h.done k z m))
          (λ z. subst (λ (t : Slot E). IsPlaced (get_or before i z) t) (sym (get_or-set_same xs i y z l))
          (subst (λ (t : Slot E). IsPlaced t y) (e ∙ get_or_default xs i x z l ∙ h.rest i z (omega arith)) now))

module _ {E : Type 0} (most : ℕ) (read : E → Fraction) (v s : ℕ) (by : ℤ) (xs : List (Slot E)) (costs : List (Item E))
    (basic nonbasic : List ℕ) (same : length xs ≡ length basic) (kept : AreKept read (length nonbasic) xs)
    (costs_kept : AreItems read (length nonbasic) costs) (column : StandsIn nonbasic v s) where
  abbrev d : Dictionary
  d = tableau read (rows_of xs) costs basic nonbasic

  inside : (k : ℕ) → k < length basic → k < length xs
  inside k l = subst (λ (n : ℕ). k < n) (sym same) l

  -- the coefficient of a row is the dictionary's
  coefficient_is : (i : ℕ) (x : Slot E) → i < length xs
      → coefficient_of read v s (get_or basic i 0) (get_or xs i x).row ≡ coefficient d i v
  coefficient_is i x l =
      ap (λ (q : Fraction). cond (eqb (get_or basic i 0) v) one_q q)
      (ap (λ (a : ℕ → Fraction). a s) (sym (slot_entries read xs i x l))
      ∙ sym (column (d.entry i) (λ j m. (tableau_outside read xs costs basic nonbasic same kept costs_kept).col i j m)))

  pub value_left : (k : ℕ) (x : Slot E) → k < length xs
      → ValueLeaves most read v s (whole by) (get_or basic k 0) (get_or xs k x).row → ShiftLeaves most d v by
  value_left k x l h =
      elim (move_same (sym (slot_value read xs k x l)) (coefficient_is k x l) h) [
        | Product f ↦ shift.Product k (subst (λ (n : ℕ). k < n) same l) f
        | Sum f ↦ shift.Sum k (subst (λ (n : ℕ). k < n) same l) f
      ]

  pub values_fit : ((k : ℕ) (x : Slot E) → k < length xs
      → ValueLeaves most read v s (whole by) (get_or basic k 0) (get_or xs k x).row → ⊥) → ShiftLeaves most d v by → ⊥
  values_fit fits (shift.Product i l h) =
      let x : Slot E = some_of xs i (inside i l) in
      fits i x (inside i l) (Product
      (subst (λ (q : Fraction). TimesLeaves most q (whole by)) (sym (coefficient_is i x (inside i l))) h))
  values_fit fits (shift.Sum i l h) =
      let x : Slot E = some_of xs i (inside i l) in
      fits i x (inside i l) (move_same (slot_value read xs i x (inside i l)) (sym (coefficient_is i x (inside i l)))
      (Sum h))

  -- the tableau with the values in place is the shifted one
  pub moved : (ys : List (Slot E)) → length ys ≡ length xs
      → ((k : ℕ) (x : Slot E) → k < length xs → IsMoved read v s (whole by) (get_or basic k 0) (get_or xs k x))
      → ((k : ℕ) (x : Slot E) → k < length xs → IsPlaced (get_or xs k x) (get_or ys k x)) → 0 < v
      → AreKept read (length nonbasic) ys → tableau read (rows_of ys) costs basic nonbasic ≡ shifted d v by
  moved ys long exact placed positive still =
      same_from_Agree (tableau read (rows_of ys) costs basic nonbasic) (shifted d v by)
      (tableau_outside read ys costs basic nonbasic (long ∙ same) still costs_kept)
      (IsZeroOutside_shifted d v by positive (tableau_outside read xs costs basic nonbasic same kept costs_kept))
      record {
        rows = refl;
        cols = refl;
        basic = λ i l. refl;
        nonbasic = λ j l. refl;
        value = λ i l. value i (inside i l);
        entry = λ i j l m. entry i j (inside i l);
        cost = λ j l. refl;
      }
    where
      after : (i : ℕ) → i < length xs → i < length ys
      after i l = subst (λ (n : ℕ). i < n) (sym long) l

      value : (i : ℕ) → i < length xs
          → (tableau read (rows_of ys) costs basic nonbasic).value i ≡ d.value i +ℚ coefficient d i v *ℚ whole by
      value i l =
          let x : Slot E = some_of xs i l in
          slot_value read ys i x (after i l) ∙ ap read (placed i x l).value ∙ exact i x l
          ∙ ap₂ (λ (a c : Fraction). a +ℚ c *ℚ whole by) (sym (slot_value read xs i x l)) (coefficient_is i x l)

      entry : (i j : ℕ) → i < length xs
          → (tableau read (rows_of ys) costs basic nonbasic).entry i j ≡ d.entry i j
      entry i j l =
          let x : Slot E = some_of xs i l in
          ap (λ (a : ℕ → Fraction). a j) (slot_entries read ys i x (after i l))
          ∙ ap (λ zs. number read zs.items j) (placed i x l).items
          ∙ ap (λ (a : ℕ → Fraction). a j) (sym (slot_entries read xs i x l))

-- the items of each row are kept where only values moved
pub kept_placed : {E : Type 0} (read : E → Fraction) (n : ℕ) (xs ys : List (Slot E)) → length ys ≡ length xs
    → ((k : ℕ) (x : Slot E) → k < length xs → IsPlaced (get_or xs k x) (get_or ys k x)) → AreKept read n xs
    → AreKept read n ys
kept_placed read n xs ys long placed kept k x l =
    let m : k < length xs = subst (λ (i : ℕ). k < i) long l in
    subst (λ zs. AreItems read n zs.items) (sym (placed k x m).items) (kept k x m)
