-- A widened tableau holds the same dictionary.
use Rattle.std.proofs.Common.{◌≡◌, ℕ, ◌<◌, List, [], ◌∷◌, length, map, get_or, cond, eqb, sym, ap, ap₂, ◌∙◌, subst, refl, arith}
use Rattle.std.proofs.Common.{◌+◌, ◌++◌, take}
use Rattle.std.proofs.lemmas.List.{length-map, map-append, take_more}
use Rattle.fractions.specs.Fraction.{Fraction, zero_q}
use Rattle.core_dict.proofs.Outside.{same_from_Agree}
use Rattle.core_dict.specs.DenseLaw.{some_of}
use Rattle.core_sparse.specs.Items.{columns, col_at, number, AreItems}
use Rattle.core_sparse.specs.Steps.{AreKept, AreSame, IsWidened}
use Rattle.core_sparse.specs.Sparse.{rows_of, tableau}
use Rattle.core_sparse.specs.SparseLaw.{slot_entries, slot_value, tableau_outside}
use Rattle.core_sparse.specs.declared.row.Item.{Item}
use Rattle.core_sparse.specs.declared.row.Slot.{Slot}

module _ {A B : Type 0} (from : A → Fraction) (to : B → Fraction) where
  -- one more item
  module _ (xs : List (Item A)) (ys : List (Item B)) (i : ℕ) (x : Item A) (y : Item B) (l : i < length xs)
      (at : x ≡ get_or xs i x) (same : AreSame from to (take i xs) ys) (col : y.col ≡ x.col)
      (value : to y.value ≡ from x.value) where
    abbrev col_from : Item A → ℕ
    col_from z = z.col

    abbrev col_to : Item B → ℕ
    col_to z = z.col

    abbrev read_from : Item A → Fraction
    read_from z = from z.value

    abbrev read_to : Item B → Fraction
    read_to z = to z.value

    pub same_more : AreSame from to (take (i + 1) xs) (ys ++ y ∷ [])
    same_more = record {
      cols =
          map-append col_to ys (y ∷ []) ∙ ap₂ ◌++◌ same.cols (ap (λ (c : ℕ). c ∷ []) (col ∙ ap col_from at))
          ∙ sym (map-append col_from (take i xs) (get_or xs i x ∷ [])) ∙ sym (ap (map col_from) (take_more xs i x l));
      values =
          map-append read_to ys (y ∷ [])
          ∙ ap₂ ◌++◌ same.values (ap (λ (q : Fraction). q ∷ []) (value ∙ ap read_from at))
          ∙ sym (map-append read_from (take i xs) (get_or xs i x ∷ [])) ∙ sym (ap (map read_from) (take_more xs i x l));
    }

  -- the same numbers
  same_number : (xs : List (Item A)) (ys : List (Item B)) → columns ys ≡ columns xs
      → map (λ y. to y.value) ys ≡ map (λ x. from x.value) xs → (j : ℕ) → number to ys j ≡ number from xs j
  same_number [] [] e f j = refl
  same_number [] (y ∷ ys) e f j = absurd (cc)
  same_number (x ∷ xs) [] e f j = absurd (cc)
  same_number (x ∷ xs) (y ∷ ys) e f j =
      let c : y.col ≡ x.col = cc in
      let cs : columns ys ≡ columns xs = cc in
      let q : to y.value ≡ from x.value = cc in
      let qs : map (λ y. to y.value) ys ≡ map (λ x. from x.value) xs = cc in
      ap₂ (λ (k : ℕ) (r : Fraction). cond (eqb k j) r (number to ys j)) c q
      ∙ ap (λ (r : Fraction). cond (eqb x.col j) (from x.value) r) (same_number xs ys cs qs j)

  -- which are kept as well
  same_kept : (n : ℕ) (xs : List (Item A)) (ys : List (Item B)) → AreSame from to xs ys → AreItems from n xs
      → AreItems to n ys
  same_kept n xs ys h kept = record {
    cols = λ k l. subst (λ (c : ℕ). c < n) (sym (col k)) (kept.cols k (in_xs k l));
    rising = λ i k l m. let r : col_at xs i < col_at xs k = kept.rising i k l (in_xs k m) in
        omega (arith, r, col i, col k);
    not_zero = λ k l e. kept.not_zero k (in_xs k l)
        (sym (ap (λ (qs : List Fraction). get_or qs k zero_q) h.values) ∙ e);
  }
    where
      long : length ys ≡ length xs
      long = sym (length-map ys (λ (y : Item B). y.col)) ∙ ap length h.cols ∙ length-map xs (λ (x : Item A). x.col)

      in_xs : (k : ℕ) → k < length ys → k < length xs
      in_xs k l = subst (λ (m : ℕ). k < m) long l

      col : (k : ℕ) → col_at ys k ≡ col_at xs k
      col k = ap (λ (cs : List ℕ). get_or cs k 0) h.cols

  module _ (xs : List (Slot A)) (ys : List (Slot B)) (costs : List (Item A)) (wide_costs : List (Item B))
      (basic nonbasic : List ℕ) (same : length xs ≡ length basic) (kept : AreKept from (length nonbasic) xs)
      (costs_kept : AreItems from (length nonbasic) costs) (rows : length ys ≡ length xs)
      (each : (k : ℕ) (y : Slot B) (x : Slot A) → k < length xs → IsWidened from to (get_or xs k x) (get_or ys k y))
      (last : AreSame from to costs wide_costs) where
    pub widened_kept : AreKept to (length nonbasic) ys
    widened_kept k y m =
        let in_xs : k < length xs = subst (λ (n : ℕ). k < n) rows m in
        let x : Slot A = some_of xs k in_xs in
        same_kept (length nonbasic) (get_or xs k x).row.items.items (get_or ys k y).row.items.items
        (each k y x in_xs).items (kept k x in_xs)

    pub widened_costs : AreItems to (length nonbasic) wide_costs
    widened_costs = same_kept (length nonbasic) costs wide_costs last costs_kept

    pub widened : tableau to (rows_of ys) wide_costs basic nonbasic ≡ tableau from (rows_of xs) costs basic nonbasic
    widened =
        same_from_Agree (tableau to (rows_of ys) wide_costs basic nonbasic)
        (tableau from (rows_of xs) costs basic nonbasic)
        (tableau_outside to ys wide_costs basic nonbasic (rows ∙ same) widened_kept widened_costs)
        (tableau_outside from xs costs basic nonbasic same kept costs_kept)
        record {
          rows = refl;
          cols = refl;
          basic = λ i l. refl;
          nonbasic = λ j l. refl;
          value = λ i l. value i (subst (λ (n : ℕ). i < n) (sym same) l);
          entry = λ i j l m. entry i j (subst (λ (n : ℕ). i < n) (sym same) l);
          cost = λ j l. same_number costs wide_costs last.cols last.values j;
        }
      where
        value : (i : ℕ) → i < length xs
            → (tableau to (rows_of ys) wide_costs basic nonbasic).value i
            ≡ (tableau from (rows_of xs) costs basic nonbasic).value i
        value i l =
            let m : i < length ys = subst (λ (n : ℕ). i < n) (sym rows) l in
            let x : Slot A = some_of xs i l in
            let y : Slot B = some_of ys i m in
            slot_value to ys i y m ∙ (each i y x l).value ∙ sym (slot_value from xs i x l)

        entry : (i j : ℕ) → i < length xs
            → (tableau to (rows_of ys) wide_costs basic nonbasic).entry i j
            ≡ (tableau from (rows_of xs) costs basic nonbasic).entry i j
        entry i j l =
            let m : i < length ys = subst (λ (n : ℕ). i < n) (sym rows) l in
            let x : Slot A = some_of xs i l in
            let y : Slot B = some_of ys i m in
            ap (λ (a : ℕ → Fraction). a j) (slot_entries to ys i y m)
            ∙ same_number (get_or xs i x).row.items.items (get_or ys i y).row.items.items (each i y x l).items.cols
            (each i y x l).items.values j
            ∙ sym (ap (λ (a : ℕ → Fraction). a j) (slot_entries from xs i x l))
