-- The places of names and of lines.
use Rattle.std.proofs.Common.{◌≡◌, ◌≢◌, ◌∷◌, ◌∙◌, [], ℕ, ◌<◌, List, length, get_or, true, false, refl, sym, ap, inl, inr, arith}
use Rattle.std.specs.List.{AllPairs, list_any}
use Rattle.std.specs.Str.{bytes_eq}
use Rattle.std.proofs.lemmas.Bool.{and_from, and_parts, false_from_ne_true}
use Rattle.std.proofs.lemmas.List.{map-id}
use Rattle.std.proofs.lemmas.List.Folds.{list_any_at}
use Rattle.std.proofs.lemmas.List.Sums.{position_or_len_is}
use Rattle.std.proofs.lemmas.Slice.Eq.{bytes_eq-Decides}
use Rattle.core_sums.specs.Places.{below, row_at}
use Rattle.core_sums.proofs.Lists.{get_or-below, length-below}
use Rattle.core_rows.specs.Names.{Record, place_of}
use Rattle.core_book.specs.View.{CaseView, instrument, instrument_of, line, no_line}
use Rattle.core_book.specs.WellFormed.{IsCase}
use Rattle.core_model.specs.Closing.{line_count}
use Rattle.core_cert.specs.Written.{side_word}
use Rattle.core_cert.specs.Faults.{is_line_of, line_named}
use Rattle.core_cert.proofs.NamesApart.{same-instrument, same-side}

-- a text is the same as itself
pub same-bytes : (text : List ℕ) → bytes_eq text text ≡ true
same-bytes text = (bytes_eq-Decides text text).1 refl

-- a name stands at its place, and is found
pub place-is : (names : List (List ℕ)) (i : ℕ) (name : List ℕ) → i < length names → AllPairs (λ x y. x ≢ y) names → row_at names i ≡ name → place_of name names ≡ i
place-is names i name under apart is = position_or_len_is (bytes_eq name) names i [] (omega (arith, under)) before here
  where
    before : (k : ℕ) → k < i → bytes_eq name (get_or names k []) ≡ false
    before k less = false_from_ne_true (bytes_eq name (get_or names k [])) (λ same. apart k i [] less under (sym ((bytes_eq-Decides name (get_or names k [])).0 same) ∙ sym is))

    here : i < length names → bytes_eq name (get_or names i []) ≡ true
    here below = (bytes_eq-Decides name (get_or names i [])).1 (sym is)

pub name-found : (names : List (List ℕ)) (i : ℕ) (name : List ℕ) → i < length names → row_at names i ≡ name → list_any (bytes_eq name) names ≡ true
name-found names i name under is = list_any_at (bytes_eq name) names i [] under ((bytes_eq-Decides name (get_or names i [])).1 (sym is))

-- a number below another stands at its place
below-at : (n k : ℕ) → k < n → get_or (below n) k 0 ≡ k
below-at n k under = ap (λ xs. get_or xs k 0) (sym (map-id (below n))) ∙ get_or-below n k (λ x. x) 0 under

-- a record names the line of its instrument and side
pub line-is : (c : CaseView) → IsCase c → (l : ℕ) (word : List ℕ) (rest : Record) → l < line_count c
    → line_named c (word ∷ (instrument c (instrument_of c l)).name ∷ side_word (line c l).side ∷ rest) ≡ l
line-is c kept l word rest under = position_or_len_is (is_line_of c r) (below (line_count c)) l 0 (rw length-below (omega (arith, under))) before here
  where
    r : Record
    r = word ∷ (instrument c (instrument_of c l)).name ∷ side_word (line c l).side ∷ rest

    name : List ℕ
    name = (instrument c (instrument_of c l)).name

    known : (k : ℕ) → k < line_count c → instrument_of c k < length c.instruments
    known k small = (kept.lines.0 k no_line small).known

    no_earlier : (k : ℕ) → k < l → is_line_of c r k ≡ true → ⊥
    no_earlier k less same =
        let parts = and_parts (bytes_eq name (instrument c (instrument_of c k)).name) (bytes_eq (side_word (line c l).side) (side_word (line c k).side)) same in
        let small : k < line_count c = omega (arith, less, under) in
        let names = (bytes_eq-Decides name (instrument c (instrument_of c k)).name).0 parts.0 in
        let sides = same-side (line c l).side (line c k).side ((bytes_eq-Decides (side_word (line c l).side) (side_word (line c k).side)).0 parts.1) in
        elim (kept.lines.1 k l no_line less under) [
          | inl other ↦ other (same-instrument c (instrument_of c k) (instrument_of c l) kept (known k small) (known l under) (sym names))
          | inr other ↦ other (sym sides)
        ]

    before : (k : ℕ) → k < l → is_line_of c r (get_or (below (line_count c)) k 0) ≡ false
    before k less = ap (is_line_of c r) (below-at (line_count c) k (omega (arith, less, under))) ∙ false_from_ne_true (is_line_of c r k) (no_earlier k less)

    itself : is_line_of c r l ≡ true
    itself = and_from (bytes_eq name name) (bytes_eq (side_word (line c l).side) (side_word (line c l).side)) (same-bytes name) (same-bytes (side_word (line c l).side))

    here : l < length (below (line_count c)) → is_line_of c r (get_or (below (line_count c)) l 0) ≡ true
    here small = ap (is_line_of c r) (below-at (line_count c) l under) ∙ itself
