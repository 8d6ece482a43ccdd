-- Names that differ, inserted one after another into a set.
use Rattle.std.proofs.Common.{◌≡◌, sym, ◌∙◌, ap, ℕ, ◌+◌, ◌<◌, List, ◌++◌, length, map, get_or, arith}
use Rattle.std.proofs.lemmas.List.{get_or-append-add, get_or-map, length-map, length-append}
use Rattle.core_rows.specs.Names.{Record, field}
use Rattle.core_case.specs.Stated.{names_in}

-- the name of one of the rows, among the names before and those of the rows
pub name_at : {R : Type 0} (before : List (List ℕ)) (seen : R → Record) (rows : List R) (i : ℕ) (row : R) (name : List ℕ) (n : ℕ)
    → length before ≡ n → i < length rows → row ≡ get_or rows i row → name ≡ field (seen row) 1
    → (n + i < length (before ++ names_in (map seen rows))) × (name ≡ get_or (before ++ names_in (map seen rows)) (n + i) name)
name_at before seen rows i row name n long within e here =
    let inside : i < length (map seen rows) = omega (arith, within, length-map rows seen) in
    let at : get_or (names_in (map seen rows)) i name ≡ name =
    get_or-map (λ r. field r 1) (map seen rows) i (seen row) name inside
    ∙ ap (λ r. field r 1) (get_or-map seen rows i row (seen row) within ∙ ap seen (sym e)) ∙ sym here in (
      omega (arith, long, within, length-append before (names_in (map seen rows)), length-map (map seen rows) (λ r. field r 1), length-map rows seen),
      sym (ap (λ m. get_or (before ++ names_in (map seen rows)) (m + i) name) (sym long) ∙ get_or-append-add before (names_in (map seen rows)) i name ∙ at),
    )
