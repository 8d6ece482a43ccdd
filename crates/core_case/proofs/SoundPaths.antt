-- The record of a path is sound where its count, its names and its prices are.
use Rattle.std.proofs.Common.{◌≡◌, refl, sym, ◌∙◌, ℕ, zero, suc, ◌+◌, ◌-◌, ◌^◌, ℤ, pos, negsuc, List, [], ◌∷◌, length, drop, replicate, true, ◌&&◌, Option, Some, None, is_some, is_none, Result, Ok, Err, IfOk, IfSome, ap, ◌<◌, ◌≤ℤ◌, int_le, map, ◌++◌, append_assoc, arith}
use Rattle.std.specs.List.{list_all}
use Rattle.std.specs.Option.{unwrap_or}
use Rattle.std.proofs.lemmas.Int.{ints}
use Rattle.std.proofs.lemmas.Bool.{and_from, and_parts}
use Rattle.std.proofs.lemmas.List.{drop_more, length-replicate}
use Rattle.core_rows.specs.Fields.{name_of, whole}
use Rattle.core_rows.specs.Names.{Record, field}
use Rattle.core_rows.specs.Steps.{by_form, first_of}
use Rattle.core_rows.proofs.FirstStep.{count-passes, first_of-last, first_of-passes}
use Rattle.core_case.specs.Kinds.{HeadingView, forms, price_form}
use Rattle.core_case.specs.Faults.{form_fault, is_between, is_price, range_fault, shape_fault}
use Rattle.core_case.specs.Stated.{numbers_from}
use Rattle.core_case.specs.declared.kinds.RecordKind.TheVariants.{Path}
use Rattle.core_case.specs.declared.forms.Form.{Form}
use Rattle.core_case.specs.declared.forms.Form.TheVariants.{Name}
use Rattle.core_case.specs.declared.faults.RecordFault.{RecordFault}
use Rattle.core_case.specs.declared.faults.RecordFault.TheVariants.{FieldCount}

-- nothing is there where none is
none-there : {X : Type 0} (o : Option X) → is_none o ≡ true → o ≡ None
none-there None h = refl
none-there (Some x) h = absurd (cc)

-- a price has its form, and lies in its range
price-formed : (word : List ℕ) → is_price word ≡ true → form_fault price_form word ≡ None
price-formed word h =
    none-there (form_fault price_form word) (and_parts (is_none (form_fault price_form word)) (is_none (range_fault price_form word)) h).0

price-ranged : (word : List ℕ) → is_price word ≡ true → range_fault price_form word ≡ None
price-ranged word h =
    none-there (range_fault price_form word) (and_parts (is_none (form_fault price_form word)) (is_none (range_fault price_form word)) h).1

-- prices pass each test that a price passes
prices-pass : (test : Form → List ℕ → Option RecordFault) → ((word : List ℕ) → is_price word ≡ true → test price_form word ≡ None)
    → (n : ℕ) (words : List (List ℕ)) → list_all is_price words ≡ true → first_of (by_form test (replicate n price_form) words) ≡ None
unfolding first_of by_form
prices-pass test passes zero words all = refl
prices-pass test passes (suc n) [] all = refl
prices-pass test passes (suc n) (word ∷ words) all =
    let parts = and_parts (is_price word) (list_all is_price words) all in
    let here = passes word parts.0 in
    rw here (prices-pass test passes n words parts.1)

name-formed : (word : List ℕ) → is_some (name_of word) ≡ true → form_fault Name word ≡ None
name-formed word h = rw h refl

-- two names and prices have the forms that they are to have
path-formed : (n : ℕ) (first second : List ℕ) (words : List (List ℕ)) → is_some (name_of first) ≡ true → is_some (name_of second) ≡ true → list_all is_price words ≡ true
    → first_of (by_form form_fault (Name ∷ Name ∷ replicate n price_form) (first ∷ second ∷ words)) ≡ None
unfolding first_of by_form
path-formed n first second words named named_second all =
    let one = name-formed first named in
    let two = name-formed second named_second in
    rw (one, two) (prices-pass form_fault price-formed n words all)

-- and lie in their ranges
path-ranged : (n : ℕ) (first second : List ℕ) (words : List (List ℕ)) → list_all is_price words ≡ true
    → first_of (by_form range_fault (Name ∷ Name ∷ replicate n price_form) (first ∷ second ∷ words)) ≡ None
unfolding first_of by_form
path-ranged n first second words all = prices-pass range_fault price-ranged n words all

pub path-sound : (h : HeadingView) (r : Record) → length r ≡ h.last + 4 → is_some (name_of (field r 1)) ≡ true → is_some (name_of (field r 2)) ≡ true
    → list_all is_price (drop 3 r) ≡ true → shape_fault h r Path ≡ None
path-sound h [] count first second all = absurd (omega (arith, count))
path-sound h (k ∷ []) count first second all = absurd (omega (arith, count))
path-sound h (k ∷ a ∷ []) count first second all = absurd (omega (arith, count))
path-sound h (k ∷ a ∷ b ∷ words) count first second all =
    let many : length (forms h (k ∷ a ∷ b ∷ words) Path) ≡ suc (suc (suc h.last)) = omega (arith, length-replicate (suc h.last) price_form) in
    let counted : length (k ∷ a ∷ b ∷ words) ≡ suc (length (forms h (k ∷ a ∷ b ∷ words) Path)) = omega (arith, count, many) in
    sym
    (first_of-passes None _ _ (count-passes FieldCount (forms h (k ∷ a ∷ b ∷ words) Path) (k ∷ a ∷ b ∷ words) counted)
    (first_of-passes None _ _ (sym (path-formed (suc h.last) a b words first second all))
    (first_of-last None _ (sym (path-ranged (suc h.last) a b words all)))))

-- an order of whole numbers, as a test
int_le-true : (a b : ℤ) → a ≤ℤ b → int_le a b ≡ true
int_le-true a b h = grind (arith, ints)

-- a number of the range is a price
pub price-is : (word : List ℕ) (z : ℤ) → whole word ≡ Some z → negsuc (10 ^ 12 - 1) ≤ℤ z → z ≤ℤ pos (10 ^ 12) → is_price word ≡ true
price-is word z e low high =
    let within : is_between (negsuc (10 ^ 12 - 1)) (pos (10 ^ 12)) (Some z) ≡ true =
    and_from (int_le (negsuc (10 ^ 12 - 1)) z) (int_le z (pos (10 ^ 12))) (int_le-true (negsuc (10 ^ 12 - 1)) z low) (int_le-true z (pos (10 ^ 12)) high) in
    rw (e, within) refl

-- past a price the words are prices where those with it are
pub prices-more : (r : Record) (i : ℕ) → i < length r → is_price (field r i) ≡ true → list_all is_price (drop i r) ≡ list_all is_price (drop (i + 1) r)
prices-more r i within here = ap (list_all is_price) (drop_more r i [] within) ∙ ap (λ b. b && list_all is_price (drop (i + 1) r)) here

-- the number at a place, and those past it
numbers-more : (r : Record) (i : ℕ) (z : ℤ) → i < length r → whole (field r i) ≡ Some z → numbers_from i r ≡ z ∷ numbers_from (i + 1) r
numbers-more r i z within e =
    ap (map (λ word. unwrap_or (whole word) (pos 0))) (drop_more r i [] within) ∙ ap (λ o. unwrap_or o (pos 0) ∷ numbers_from (i + 1) r) e

-- numbers that were read, with one more
pub numbers-read : (r : Record) (first i : ℕ) (z : ℤ) (before after : List ℤ) → i < length r → whole (field r i) ≡ Some z → after ≡ before ++ (z ∷ [])
    → before ++ numbers_from i r ≡ numbers_from first r → after ++ numbers_from (i + 1) r ≡ numbers_from first r
numbers-read r first i z before after within e grown so_far =
    ap (λ (xs : List ℤ). xs ++ numbers_from (i + 1) r) grown ∙ append_assoc before (z ∷ []) (numbers_from (i + 1) r)
    ∙ ap (λ (xs : List ℤ). before ++ xs) (sym (numbers-more r i z within e)) ∙ so_far

-- what is said where something was found
pub found-implies : {X E : Type 0} {A B : Type 0} (found : Result (Option X) E) → (A → B)
    → IfOk found (λ o. IfSome o (λ _. A)) → IfOk found (λ o. IfSome o (λ _. B))
found-implies (Ok (Some x)) f h = f h
found-implies (Ok None) f h = tt
found-implies (Err e) f h = tt

-- what is said where something was found, that was found
pub found-so : {X A : Type 0} (found : Option X) → IfSome found (λ _. A) → is_some found ≡ true → A
found-so (Some x) h e = h
found-so None h e = absurd (cc)
