-- The first fault of the fields of a record by their forms, field by field.
use Rattle.std.proofs.Common.{◌≡◌, sym, ◌∙◌, refl, ap, subst, ℕ, zero, suc, ◌+◌, ◌-◌, ◌<◌, ◌≤◌, List, [], ◌∷◌, length, get_or, drop, drop-cons, length-drop, arith, Option, Some, None}
use Rattle.std.proofs.lemmas.List.{drop_all, get_or-drop}
use Rattle.std.specs.Option.{option_or}
use Rattle.core_rows.specs.Names.{Record, field}
use Rattle.core_rows.specs.Steps.{first_of, by_form}
use Rattle.core_rows.proofs.FirstStep.{first_of-parts}

-- the first fault of the fields from a place on, where the first form is of the field at place 1
abbrev pub fault_from : {F X : Type 0} → (F → List ℕ → Option X) → List F → Record → ℕ → Option X
fault_from test fs row i = first_of (by_form test (drop (i - 1) fs) (drop i row))

-- the first fault of one field and others
head-first : {F X : Type 0} (test : F → List ℕ → Option X) (f : F) (fs : List F) (word : List ℕ) (row : Record)
    → first_of (by_form test (f ∷ fs) (word ∷ row)) ≡ option_or (test f word) (first_of (by_form test fs row))
unfolding first_of by_form
head-first test f fs word row = refl

-- without fields there is no fault
none-left : {F X : Type 0} (test : F → List ℕ → Option X) (fs : List F) → first_of (by_form test fs []) ≡ None
unfolding first_of by_form
none-left test [] = refl
none-left test (f ∷ fs) = refl

-- the fault from a place on is that of the field there, else that from the next place on
fault-at : {F X : Type 0} (test : F → List ℕ → Option X) (fs : List F) (row : Record) (i : ℕ) (form : F) (word : List ℕ)
    → 1 ≤ i → i < length row → length row ≡ suc (length fs) → form ≡ get_or fs (i - 1) form → word ≡ field row i
    → fault_from test fs row i ≡ option_or (test form word) (fault_from test fs row (i + 1))
fault-at test fs row i form word from within count at_form at_word =
    let forms : drop (i - 1) fs ≡ form ∷ drop (suc (i - 1)) fs = drop-cons fs (i - 1) form (omega arith) ∙ ap (λ f. f ∷ drop (suc (i - 1)) fs) (sym at_form) in
    let words : drop i row ≡ word ∷ drop (suc i) row = drop-cons row i [] within ∙ ap (λ w. w ∷ drop (suc i) row) (sym at_word) in
    let next : suc (i - 1) ≡ i + 1 - 1 = omega arith in
    let after : suc i ≡ i + 1 = omega arith in
    ap (λ xs. first_of (by_form test xs (drop i row))) forms
    ∙ ap (λ r. first_of (by_form test (form ∷ drop (suc (i - 1)) fs) r)) words
    ∙ head-first test form (drop (suc (i - 1)) fs) word (drop (suc i) row)
    ∙ ap (λ n. option_or (test form word) (first_of (by_form test (drop n fs) (drop (suc i) row)))) next
    ∙ ap (λ n. option_or (test form word) (first_of (by_form test (drop (i + 1 - 1) fs) (drop n row)))) after

-- a field that has a fault gives the fault of all
pub fault-here : {F X : Type 0} (test : F → List ℕ → Option X) (fs : List F) (row : Record) (i : ℕ) (form : F) (word : List ℕ) (fault : X) (first : Option X)
    → 1 ≤ i → i < length row → length row ≡ suc (length fs) → form ≡ get_or fs (i - 1) form → word ≡ field row i
    → first ≡ fault_from test fs row i → test form word ≡ Some fault → first ≡ Some fault
fault-here test fs row i form word fault first from within count at_form at_word so_far here =
    so_far ∙ fault-at test fs row i form word from within count at_form at_word ∙ ap (λ o. option_or o (fault_from test fs row (i + 1))) here

-- a sound field leaves the fault to those after it
pub fault-later : {F X : Type 0} (test : F → List ℕ → Option X) (fs : List F) (row : Record) (i : ℕ) (form : F) (word : List ℕ) (first : Option X)
    → 1 ≤ i → i < length row → length row ≡ suc (length fs) → form ≡ get_or fs (i - 1) form → word ≡ field row i
    → first ≡ fault_from test fs row i → test form word ≡ None → first ≡ fault_from test fs row (i + 1)
fault-later test fs row i form word first from within count at_form at_word so_far here =
    so_far ∙ fault-at test fs row i form word from within count at_form at_word ∙ ap (λ o. option_or o (fault_from test fs row (i + 1))) here

-- one of three or the next
or-three : {X : Type 0} (x y z : Option X) → option_or x (option_or y z) ≡ option_or (option_or x y) z
or-three None y z = refl
or-three (Some fault) y z = refl

-- a field's fault comes after those of the fields before it
pub fault-kept : {F X : Type 0} (test : F → List ℕ → Option X) (fs : List F) (row : Record) (i : ℕ) (form : F) (word : List ℕ) (before here first : Option X)
    → 1 ≤ i → i < length row → length row ≡ suc (length fs) → form ≡ get_or fs (i - 1) form → word ≡ field row i
    → first ≡ option_or before (fault_from test fs row i) → test form word ≡ here → first ≡ option_or (option_or before here) (fault_from test fs row (i + 1))
fault-kept test fs row i form word before here first from within count at_form at_word so_far is =
    so_far ∙ ap (option_or before) (fault-at test fs row i form word from within count at_form at_word ∙ ap (λ o. option_or o (fault_from test fs row (i + 1))) is)
    ∙ or-three before here (fault_from test fs row (i + 1))

-- past the last field there is no fault
pub fault-past : {F X : Type 0} (test : F → List ℕ → Option X) (fs : List F) (row : Record) (i : ℕ) (first : Option X)
    → length row ≤ i → first ≡ fault_from test fs row i → first ≡ None
fault-past test fs row i first past so_far =
    let gone : drop i row ≡ [] = drop_all i row past in
    so_far ∙ ap (λ r. first_of (by_form test (drop (i - 1) fs) r)) gone ∙ none-left test (drop (i - 1) fs)

-- a fault, else none, is the fault
or-none : {X : Type 0} (o : Option X) → option_or o None ≡ o
or-none None = refl
or-none (Some fault) = refl

-- so the fault is the one that was kept
pub kept-past : {F X : Type 0} (test : F → List ℕ → Option X) (fs : List F) (row : Record) (i : ℕ) (before first : Option X)
    → length row ≤ i → first ≡ option_or before (fault_from test fs row i) → first ≡ before
kept-past test fs row i before first past so_far =
    so_far ∙ ap (option_or before) (fault-past test fs row i (fault_from test fs row i) past refl) ∙ or-none before

-- where the fields have no fault, each has none
form-at : {F X : Type 0} (test : F → List ℕ → Option X) (fs : List F) (r : Record) (n : ℕ) (z : F) → length r ≡ length fs
    → first_of (by_form test fs r) ≡ None → n < length fs → test (get_or fs n z) (get_or r n []) ≡ None
unfolding by_form
form-at test [] r n z same e within = absurd (omega (arith, within))
form-at test (f ∷ fs) [] n z same e within = absurd (omega (arith, same))
form-at test (f ∷ fs) (word ∷ r) zero z same e within = (first_of-parts (test f word) (by_form test fs r) e).0
form-at test (f ∷ fs) (word ∷ r) (suc n) z same e within =
    form-at test fs r n z (omega (arith, same)) (first_of-parts (test f word) (by_form test fs r) e).1 (omega (arith, within))

-- the same of the fields after the first
pub field-at : {F X : Type 0} (test : F → List ℕ → Option X) (fs : List F) (r : Record) (z : F) → length r ≡ suc (length fs)
    → first_of (by_form test fs (drop 1 r)) ≡ None → (n : ℕ) → n < length fs → test (get_or fs n z) (field r (suc n)) ≡ None
field-at test fs r z count e n within =
    let same : length (drop 1 r) ≡ length fs = omega (arith, count, length-drop 1 r) in
    let place : 1 + n ≡ suc n = omega arith in
    let word : get_or (drop 1 r) n [] ≡ field r (suc n) = get_or-drop 1 r n [] ∙ ap (λ k. field r k) place in
    subst (λ (w : List ℕ). test (get_or fs n z) w ≡ None) word (form-at test fs (drop 1 r) n z same e within)
