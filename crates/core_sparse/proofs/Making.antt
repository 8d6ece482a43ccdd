-- The rows that a loop has gone through, with what it made of each in its room, or in its place.
use Rattle.std.proofs.Common.{◌≡◌, ◌≢◌, ℕ, ◌+◌, ◌<◌, ◌≤◌, List, length, map, get_or, set, sym, ap, ◌∙◌, subst, arith, below_more}
use Rattle.std.proofs.Math.Seq.{map-set_same}
use Rattle.std.proofs.lemmas.List.{get_or-set_same, get_or-set_other, get_or-map, get_or_default, length-map}
use Rattle.fractions.specs.Fraction.{Fraction}
use Rattle.core_sparse.specs.Items.{AreItems}
use Rattle.core_sparse.specs.Sparse.{rows_of}
use Rattle.core_sparse.specs.Steps.{AreKept, IsMade, RowLeaves, IsPut}
use Rattle.core_sparse.specs.declared.row.Row.{Row}
use Rattle.core_sparse.specs.declared.row.Slot.{Slot}

-- equal lists of rows have equal rows
pub same_row : {E : Type 0} (xs ys : List (Slot E)) (i : ℕ) (x : Slot E) → rows_of xs ≡ rows_of ys
    → i < length xs → (get_or xs i x).row ≡ (get_or ys i x).row
same_row {E} xs ys i x e l =
    let row : Slot E → Row E = λ x. x.row in
    let m : length xs ≡ length ys = sym (length-map xs row) ∙ ap length e ∙ length-map ys row in
    sym (get_or-map row xs i x x.row l) ∙ ap (λ (zs : List (Row E)). get_or zs i x.row) e
    ∙ get_or-map row ys i x x.row (subst (λ (n : ℕ). i < n) m l)

-- and the items of one are kept where those of the other are
pub kept_same : {E : Type 0} (read : E → Fraction) (n : ℕ) (xs ys : List (Slot E))
    → map (λ x. x.row) xs ≡ map (λ x. x.row) ys → AreKept read n ys → AreKept read n xs
kept_same {E} read n xs ys e h k x l =
    let row : Slot E → Row E = λ x. x.row in
    let m : length xs ≡ length ys = sym (length-map xs row) ∙ ap length e ∙ length-map ys row in
    subst (λ (y : Row E). AreItems read n y.items.items) (sym (same_row xs ys k x e l))
    (h k x (subst (λ (j : ℕ). k < j) m l))

module _ {E : Type 0} (most : ℕ) (read : E → Fraction) (n : ℕ) (p : Fraction) (s : ℕ) (own : Row E) (row : ℕ)
    (before : List (Slot E)) where
  -- the first n but the pivot's own are made
  pub record MadeBelow (xs : List (Slot E)) (i : ℕ) : Type 0 where
    pub rows : map (λ x. x.row) xs ≡ map (λ x. x.row) before
    pub exact : (k : ℕ) (x : Slot E) → k < i → k ≢ row → IsMade read n p s own (get_or xs k x)
    pub fits : (k : ℕ) (x : Slot E) → k < i → k ≢ row → RowLeaves most read n p s own (get_or before k x).row → ⊥

  -- one more that is the pivot's own
  pub made_own : (xs : List (Slot E)) (i : ℕ) → MadeBelow xs i → i ≡ row → MadeBelow xs (i + 1)
  made_own xs i h e = record {
    rows = h.rows;
    exact = λ k x l ne. h.exact k x (earlier k l ne) ne;
    fits = λ k x l ne. h.fits k x (earlier k l ne) ne;
  }
    where
      earlier : (k : ℕ) → k < i + 1 → k ≢ row → k < i
      earlier k l ne = omega (arith, λ (m : k ≡ i). ne (m ∙ e))

  -- one more that is made
  pub made_more : (xs : List (Slot E)) (i : ℕ) (x y : Slot E) → MadeBelow xs i → i < length xs → x ≡ get_or xs i x
      → y.row ≡ x.row → IsMade read n p s own y
      → (RowLeaves most read n p s own x.row → ⊥) → MadeBelow (set xs i y) (i + 1)
  made_more xs i x y h l e same made fits = record {
    rows = map-set_same (λ (z : Slot E). z.row) xs i y x (same ∙ ap (λ (z : Slot E). z.row) e) ∙ h.rows;
    exact = λ k x l. all k l x;
    fits = λ k x l. none k l x;
  }
    where
      other : (k : ℕ) → k < i → k ≢ i
      other k m n = omega arith

      all : (k : ℕ) → k < i + 1 → (x : Slot E) → k ≢ row → IsMade read n p s own (get_or (set xs i y) k x)
      all = below_more (λ (k : ℕ). (x : Slot E) → k ≢ row → IsMade read n p s own (get_or (set xs i y) k x)) i
          (λ k m z ne. subst (λ (t : Slot E). IsMade read n p s own t) (sym (get_or-set_other xs i k y z (other k m)))
          (h.exact k z m ne))
          (λ z ne. subst (λ (t : Slot E). IsMade read n p s own t) (sym (get_or-set_same xs i y z l)) made)

      at_row : (z : Slot E) → (get_or before i z).row ≡ x.row
      at_row z = sym (same_row xs before i z h.rows l)
          ∙ ap (λ (t : Slot E). t.row) (get_or_default xs i z x l ∙ sym e)

      none : (k : ℕ) → k < i + 1 → (x : Slot E) → k ≢ row → RowLeaves most read n p s own (get_or before k x).row → ⊥
      none = below_more
          (λ (k : ℕ). (x : Slot E) → k ≢ row → RowLeaves most read n p s own (get_or before k x).row → ⊥) i
          (λ k m z ne. h.fits k z m ne)
          (λ z ne t. fits (subst (λ (u : Row E). RowLeaves most read n p s own u) (at_row z) t))

module _ {E : Type 0} (before : List (Slot E)) where
  -- the first n are exchanged, and the others as before
  pub record ExchangedBelow (xs : List (Slot E)) (n : ℕ) : Type 0 where
    pub done : (k : ℕ) (x : Slot E) → k < n → IsPut (get_or before k x) (get_or xs k x)
    pub rest : (k : ℕ) (x : Slot E) → n ≤ k → get_or xs k x ≡ get_or before k x

  pub exchanged_more : (xs : List (Slot E)) (i : ℕ) (x y : Slot E) → ExchangedBelow xs i → i < length xs
      → x ≡ get_or xs i x → IsPut x y → ExchangedBelow (set xs i y) (i + 1)
  exchanged_more xs i x y h l e now = record {
    done = λ k z m. all k m z;
    rest = λ k z m. get_or-set_other xs i k y z (later k m) ∙ h.rest k z (omega arith);
  }
    where
      other : (k : ℕ) → k < i → k ≢ i
      other k m n = omega arith

      later : (k : ℕ) → i + 1 ≤ k → k ≢ i
      later k m n = omega arith

      all : (k : ℕ) → k < i + 1 → (z : Slot E) → IsPut (get_or before k z) (get_or (set xs i y) k z)
      all = below_more
          (λ (k : ℕ). (z : Slot E) → IsPut (get_or before k z) (get_or (set xs i y) k z)) i
          (λ k m z. subst (λ (t : Slot E). IsPut (get_or before k z) t)
          (sym (get_or-set_other xs i k y z (other k m))) (h.done k z m))
          (λ z. subst (λ (t : Slot E). IsPut (get_or before i z) t) (sym (get_or-set_same xs i y z l))
          (subst (λ (t : Slot E). IsPut t y) (e ∙ get_or_default xs i x z l ∙ h.rest i z (omega arith)) now))
