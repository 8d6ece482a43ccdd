-- A new tableau holds the start.
use Rattle.std.proofs.Common.{◌≡◌, ℕ, suc, ◌+◌, ◌<◌, cond, eqb, List, length, get_or, sym, ap, ◌∙◌, subst, arith}
use Rattle.fractions.specs.Fraction.{Fraction, one_q, zero_q}
use Rattle.core_dict.specs.Programme.{ProgrammeView, height, IsProgramme}
use Rattle.core_dict.specs.Dictionary.{start}
use Rattle.core_dict.proofs.Outside.{same_from_Agree, start_outside}
use Rattle.core_dict.proofs.Variables.{start-basic, start-nonbasic}
use Rattle.core_dict.specs.DenseLaw.{some_of}
use Rattle.core_sparse.specs.Items.{number, AreItems}
use Rattle.core_sparse.specs.Steps.{AreStartRows}
use Rattle.core_sparse.specs.Sparse.{rows_of, tableau}
use Rattle.core_sparse.specs.SparseLaw.{slot_entries, slot_value, tableau_outside}
use Rattle.core_sparse.specs.declared.row.Item.{Item}
use Rattle.core_sparse.specs.declared.row.Slot.{Slot}

-- variables in their order, counted from 0 and from 1
after_columns : (c i : ℕ) → c + 1 + i ≡ suc (c + i)
after_columns c i = omega arith

one_more : (j : ℕ) → 1 + j ≡ suc j
one_more j = omega arith

pub start_tableau : (p : ProgrammeView) (basic nonbasic : List ℕ) → length basic ≡ height p
    → length nonbasic ≡ p.cols → ((i : ℕ) → i < height p → get_or basic i 0 ≡ p.cols + 1 + i)
    → ((j : ℕ) → j < p.cols → get_or nonbasic j 0 ≡ 1 + j) → {E : Type 0} (read : E → Fraction)
    (xs : List (Slot E)) (costs : List (Item E)) → IsProgramme p → AreStartRows read p xs → AreItems read p.cols costs
    → ((j : ℕ) → number read costs j ≡ cond (eqb (suc j) p.cols) one_q zero_q)
    → tableau read (rows_of xs) costs basic nonbasic ≡ start p
start_tableau p basic nonbasic m n bs ns {E} read xs costs h rows kept cs =
    same_from_Agree (tableau read (rows_of xs) costs basic nonbasic) (start p)
    (tableau_outside read xs costs basic nonbasic (rows.rows ∙ sym m)
    (λ k x l. subst (λ (z : ℕ). AreItems read z (get_or xs k x).row.items.items) (sym n) (rows.each k x l).kept)
    (subst (λ (z : ℕ). AreItems read z costs) (sym n) kept))
    (start_outside p h) record {
      rows = m;
      cols = n;
      basic = λ i l. let u = subst (λ (z : ℕ). i < z) m l in
          bs i u ∙ after_columns p.cols i ∙ sym (start-basic p i u);
      nonbasic = λ j l. let u = subst (λ (z : ℕ). j < z) n l in
          ns j u ∙ one_more j ∙ sym (start-nonbasic p j u);
      value = λ i l. value i (subst (λ (z : ℕ). i < z) (m ∙ sym rows.rows) l);
      entry = λ i j l k. entry i j (subst (λ (z : ℕ). i < z) (m ∙ sym rows.rows) l) (subst (λ (z : ℕ). j < z) n k);
      cost = λ j l. cs j;
    }
  where
    value : (i : ℕ) → i < length xs → (tableau read (rows_of xs) costs basic nonbasic).value i ≡ (start p).value i
    value i l = let x : Slot E = some_of xs i l in slot_value read xs i x l ∙ (rows.each i x l).value

    entry : (i j : ℕ) → i < length xs → j < p.cols
        → (tableau read (rows_of xs) costs basic nonbasic).entry i j ≡ (start p).entry i j
    entry i j l k =
        let x : Slot E = some_of xs i l in
        ap (λ (a : ℕ → Fraction). a j) (slot_entries read xs i x l) ∙ (rows.each i x l).entries j k
