-- Names and lines that differ, inserted one after another into a set.
use Rattle.std.proofs.Common.{◌≡◌, ◌≢◌, refl, sym, ◌∙◌, ap, ℕ, suc, ◌+◌, ◌<◌, true, false, List, [], ◌∷◌, ◌++◌, length, map, get_or, take, add-one, arith, inl, inr}
use Rattle.std.specs.List.{AllPairs, list_any}
use Rattle.std.specs.Str.{bytes_eq}
use Rattle.std.proofs.lemmas.List.{take_more, get_or-map, length-map, map_push}
use Rattle.std.proofs.lemmas.List.Folds.{list_any_none}
use Rattle.std.proofs.lemmas.Slice.Eq.{bytes_eq-Decides}
use Rattle.std.proofs.lemmas.Bool.{false_from_ne_true, and_parts, cases_lt}
use Rattle.indexmap.specs.IndexSet.{insert_key}
use Rattle.core_sums.specs.Places.{below}
use Rattle.core_sums.proofs.Lists.{length-below, get_or-below}
use Rattle.core_rows.proofs.NamesApart.{inserted}
use Rattle.core_book.specs.View.{CaseView, instrument, line, instrument_of, no_line, no_instrument}
use Rattle.core_book.specs.WellFormed.{IsCase}
use Rattle.core_book.specs.declared.parts.Side.{Side}
use Rattle.core_book.specs.declared.parts.Side.TheVariants.{Position, Collateral}
use Rattle.core_model.specs.Closing.{line_count}
use Rattle.core_cert.specs.Written.{side_word}
use Rattle.core_cert.specs.Numbered.{key_words, line_words}
use Rattle.core_cert.specs.Faults.{instrument_names}
use Rattle.core_cert.specs.declared.names.LineKey.{LineKey}
use Rattle.core_cert.proofs.NamePlaces.{same_words}
use Rattle.core_rows.proofs.NamePlaces.{list_any-map}

-- one more of a list that is read by index
pub one-more-read : {A B : Type 0} (f : A → B) (xs : List A) (z : A) (i : ℕ) (now next : List B) (x : B) → i < length xs → now ≡ take i (map f xs)
    → next ≡ now ++ (x ∷ []) → x ≡ f (get_or xs i z) → next ≡ take (i + 1) (map f xs)
one-more-read f xs z i now next x within so_far grown is =
    let inside : i < length (map f xs) = omega (arith, within, length-map xs f) in
    let at : x ≡ get_or (map f xs) i x = is ∙ sym (get_or-map f xs i z x within) in
    grown ∙ ap (λ ys. ys ++ (x ∷ [])) so_far ∙ ap (λ y. take i (map f xs) ++ (y ∷ [])) at ∙ sym (take_more (map f xs) i x inside)

-- names of things whose names differ
pub names-apart : {A : Type 0} (f : A → List ℕ) (xs : List A) (z : A) → AllPairs (λ x y. f x ≢ f y) xs → AllPairs (λ x y. x ≢ y) (map f xs)
names-apart f xs z apart i j d less within =
    let below : j < length xs = omega (arith, within, length-map xs f) in
    let first : get_or (map f xs) i d ≡ f (get_or xs i z) = get_or-map f xs i z d (omega (arith, less, below)) in
    let second : get_or (map f xs) j d ≡ f (get_or xs j z) = get_or-map f xs j z d below in
    λ same. apart i j z less below (sym first ∙ same ∙ second)

-- the words of the sides tell them apart
pub same-side : (s t : Side) → side_word s ≡ side_word t → s ≡ t
same-side Position Position e = refl
same-side Position Collateral e = cc
same-side Collateral Position e = cc
same-side Collateral Collateral e = refl

-- the names of the instruments tell them apart
pub same-instrument : (c : CaseView) (i j : ℕ) → IsCase c → i < length c.instruments → j < length c.instruments → (instrument c i).name ≡ (instrument c j).name → i ≡ j
same-instrument c i j kept under below e = elim (cases_lt i j) [
  | inl less ↦ absurd (kept.instruments.2 i j no_instrument less below e)
  | inr high ↦ elim (cases_lt j i) [
    | inl more ↦ absurd (kept.instruments.2 j i no_instrument more under (sym e))
    | inr low ↦ omega (arith, high, low)
  ]
]

-- no two lines have the same words
lines-apart : (c : CaseView) (k l : ℕ) → IsCase c → k < l → l < line_count c → (line_words c k).0 ≡ (line_words c l).0 → (line_words c k).1 ≡ (line_words c l).1 → ⊥
lines-apart c k l kept less within first second =
    let known : instrument_of c k < length c.instruments = (kept.lines.0 k no_line (omega (arith, less, within))).known in
    let other : instrument_of c l < length c.instruments = (kept.lines.0 l no_line within).known in
    elim (kept.lines.1 k l no_line less within) [
      | inl apart ↦ apart (same-instrument c (instrument_of c k) (instrument_of c l) kept known other first)
      | inr apart ↦ apart (same-side (line c k).side (line c l).side second)
    ]

-- the words of a line are none of those before it
words-new : (c : CaseView) (l : ℕ) (words : List ℕ × List ℕ) → IsCase c → l < line_count c → words ≡ line_words c l
    → list_any (same_words words) (map (line_words c) (below l)) ≡ false
words-new c l words kept within is = list_any_none (same_words words) (map (line_words c) (below l)) (λ k d h.
    let under : k < l = omega (arith, h, length-map (below l) (line_words c), length-below l) in
    let here : get_or (map (line_words c) (below l)) k d ≡ line_words c k = get_or-below l k (line_words c) d under in
    false_from_ne_true (same_words words (get_or (map (line_words c) (below l)) k d)) (λ e.
    let same : same_words (line_words c l) (line_words c k) ≡ true = sym (ap (λ w. same_words w (get_or (map (line_words c) (below l)) k d)) is ∙ ap (same_words (line_words c l)) here) ∙ e in
    let parts = and_parts (bytes_eq (line_words c l).0 (line_words c k).0) (bytes_eq (line_words c l).1 (line_words c k).1) same in
    lines-apart c k l kept under within (sym ((bytes_eq-Decides (line_words c l).0 (line_words c k).0).0 parts.0)) (sym ((bytes_eq-Decides (line_words c l).1 (line_words c k).1).0 parts.1))))

-- the keys before the first line
pub no_lines : (c : CaseView) (keys : List LineKey) → keys ≡ [] → map key_words keys ≡ map (line_words c) (below 0)
unfolding below
no_lines c keys e = ap (map key_words) e

-- the keys after one more line
pub one_more_line : (c : CaseView) (l : ℕ) (keys new : List LineKey) (key : LineKey) → IsCase c → l < line_count c → key_words key ≡ line_words c l
    → map key_words keys ≡ map (line_words c) (below l) → new ≡ insert_key (λ a b. same_words (key_words a) (key_words b)) keys key
    → map key_words new ≡ map (line_words c) (below (l + 1))
unfolding below
one_more_line c l keys new key kept within e before is =
    let absent : list_any (λ k. same_words (key_words key) (key_words k)) keys ≡ false =
    sym (list_any-map (same_words (key_words key)) key_words keys) ∙ ap (list_any (same_words (key_words key))) before ∙ words-new c l (key_words key) kept within e in
    let next : below (suc l) ≡ below (l + 1) = ap below (sym (add-one l)) in
    inserted key_words (λ a b. same_words (key_words a) (key_words b)) keys new key (map (line_words c) (below l)) absent is before
    ∙ ap (λ w. map (line_words c) (below l) ++ (w ∷ [])) e ∙ sym (map_push (line_words c) (below l) l) ∙ ap (map (line_words c)) next

-- the words by which a line is kept
pub line-key : (c : CaseView) (l i : ℕ) (names : List (List ℕ)) (name : List ℕ) (side : Side) (first second : List ℕ) → IsCase c → l < line_count c
    → i ≡ instrument_of c l → side ≡ (line c l).side → names ≡ instrument_names c → name ≡ get_or names i name → first ≡ name → second ≡ side_word side
    → (first, second) ≡ line_words c l
line-key c l i names name side first second kept within of is are at one other =
    let known : instrument_of c l < length c.instruments = (kept.lines.0 l no_line within).known in
    let here : name ≡ (instrument c (instrument_of c l)).name =
    at ∙ ap (λ xs. get_or xs i name) are ∙ ap (λ n. get_or (instrument_names c) n name) of ∙ get_or-map (λ x. x.name) c.instruments (instrument_of c l) no_instrument name known in
    ap (λ x. (x, second)) (one ∙ here) ∙ ap (λ x. ((instrument c (instrument_of c l)).name, x)) (other ∙ ap side_word is)
