-- A widened tableau holds the same dictionary.
use Rattle.std.proofs.Common.{◌≡◌, ℕ, ◌<◌, List, length, map, get_or, sym, ap, ◌∙◌, subst, refl, arith}
use Rattle.std.proofs.lemmas.List.{length-map}
use Rattle.fractions.specs.Fraction.{Fraction, zero_q}
use Rattle.core_dict.specs.Rows.{width, fraction_at, AreWide, IsWidened}
use Rattle.core_dict.specs.Dense.{rows_of, tableau}
use Rattle.core_dict.specs.DenseLaw.{some_of, slot_entries, slot_value, tableau_outside}
use Rattle.core_dict.specs.declared.row.Slot.{Slot}
use Rattle.core_dict.proofs.Outside.{same_from_Agree}

module _ {A B : Type 0} (from : A → Fraction) (to : B → Fraction) where
  -- equal fractions make equal reads
  reads : (xs : List A) (ys : List B) → map to ys ≡ map from xs → (j : ℕ) → fraction_at to ys j ≡ fraction_at from xs j
  reads xs ys e j = ap (λ (qs : List Fraction). get_or qs j zero_q) e

  -- a widened row is as wide
  pub same_width : (x : Slot A) (y : Slot B) → IsWidened from to x y → width y.row ≡ width x.row
  same_width x y h =
      sym (length-map y.row.entries.items to) ∙ ap length h.entries ∙ length-map x.row.entries.items from

  module _ (xs : List (Slot A)) (ys : List (Slot B)) (costs : List A) (wide_costs : List B)
      (basic nonbasic : List ℕ) (same : length xs ≡ length basic) (wide : AreWide (length nonbasic) xs)
      (costs_in : length costs ≡ length nonbasic) (rows : length ys ≡ length xs)
      (each : (k : ℕ) (y : Slot B) (x : Slot A) → k < length xs → IsWidened from to (get_or xs k x) (get_or ys k y))
      (last : map to wide_costs ≡ map from costs) where
    pub widened_wide : AreWide (length nonbasic) ys
    widened_wide k y l m =
        let in_xs : k < length xs = subst (λ (n : ℕ). k < n) rows m in
        let x : Slot A = some_of xs k in_xs in
        let h = each k y x in_xs in
        let e : width (get_or xs k x).row ≡ length nonbasic = (wide k x (omega arith) in_xs).row in
        record { row = same_width (get_or xs k x) (get_or ys k y) h ∙ e; spare = h.room ∙ e }

    pub widened_costs : length wide_costs ≡ length nonbasic
    widened_costs = sym (length-map wide_costs to) ∙ ap length last ∙ length-map costs from ∙ costs_in

    pub widened : tableau to (rows_of ys) wide_costs basic nonbasic ≡ tableau from (rows_of xs) costs basic nonbasic
    widened =
        same_from_Agree (tableau to (rows_of ys) wide_costs basic nonbasic)
        (tableau from (rows_of xs) costs basic nonbasic)
        (tableau_outside to ys wide_costs basic nonbasic (rows ∙ same) widened_wide widened_costs)
        (tableau_outside from xs costs basic nonbasic same wide costs_in)
        record {
          rows = refl;
          cols = refl;
          basic = λ i l. refl;
          nonbasic = λ j l. refl;
          value = λ i l. value i (subst (λ (n : ℕ). i < n) (sym same) l);
          entry = λ i j l m. entry i j (subst (λ (n : ℕ). i < n) (sym same) l);
          cost = λ j l. reads costs wide_costs last j;
        }
      where
        value : (i : ℕ) → i < length xs
            → (tableau to (rows_of ys) wide_costs basic nonbasic).value i
            ≡ (tableau from (rows_of xs) costs basic nonbasic).value i
        value i l =
            let m : i < length ys = subst (λ (n : ℕ). i < n) (sym rows) l in
            let x : Slot A = some_of xs i l in
            let y : Slot B = some_of ys i m in
            slot_value to ys i y m ∙ (each i y x l).value ∙ sym (slot_value from xs i x l)

        entry : (i j : ℕ) → i < length xs
            → (tableau to (rows_of ys) wide_costs basic nonbasic).entry i j
            ≡ (tableau from (rows_of xs) costs basic nonbasic).entry i j
        entry i j l =
            let m : i < length ys = subst (λ (n : ℕ). i < n) (sym rows) l in
            let x : Slot A = some_of xs i l in
            let y : Slot B = some_of ys i m in
            ap (λ (a : ℕ → Fraction). a j) (slot_entries to ys i y m)
            ∙ reads (get_or xs i x).row.entries.items (get_or ys i y).row.entries.items (each i y x l).entries j
            ∙ sym (ap (λ (a : ℕ → Fraction). a j) (slot_entries from xs i x l))
