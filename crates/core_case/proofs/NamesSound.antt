-- Sound records by their names and keys: that a name is one, that no two of a kind have the same key, and how many there are.
use Rattle.std.proofs.Common.{◌≡◌, ◌≢◌, refl, sym, ◌∙◌, ap, subst, ℕ, ◌<◌, ◌≤◌, List, [], length, take, arith, Bool, true, false, ◌&&◌, nat_lt, nat_le, if◌then◌else◌, Some, None, is_some}
use Rattle.std.proofs.lemmas.Bool.{leb-true, and_parts, and_from, or_parts}
use Rattle.std.proofs.lemmas.List.Elements.{filter_agree}
use Rattle.std.proofs.lemmas.Slice.Eq.{bytes_eq-Decides}
use Rattle.std.specs.List.{list_all}
use Rattle.std.specs.Str.{bytes_eq}
use Rattle.core_sums.specs.Places.{row_at}
use Rattle.core_rows.specs.Names.{Record, field}
use Rattle.core_rows.specs.Fields.{name_of, is_name_byte, IsName}
use Rattle.core_case.specs.declared.kinds.RecordKind.{RecordKind}
use Rattle.core_case.specs.declared.forms.Form.TheVariants.{Name}
use Rattle.core_case.specs.Kinds.{is_kind, key_length, most_records}
use Rattle.core_case.specs.Faults.{first_fault, form_fault, of_kind, key_of, key_of_length, is_filed, filed, is_keyed, is_market, house_name, group_of, is_in_group}
use Rattle.core_case.proofs.Filters.{none-before}
use Rattle.core_rows.proofs.FirstStep.{holds-from_none}
use Rattle.core_case.proofs.WholeRecords.{sound-of, count-kept}

-- equal bytes
pub same-bytes : (xs ys : List ℕ) → bytes_eq xs ys ≡ true → xs ≡ ys
same-bytes xs ys = (bytes_eq-Decides xs ys).0

pub bytes-same : (xs ys : List ℕ) → xs ≡ ys → bytes_eq xs ys ≡ true
bytes-same xs ys = (bytes_eq-Decides xs ys).1

-- a field that is a name
pub named : (word : List ℕ) → form_fault Name word ≡ None → IsName word
named word e = split (nat_le 1 (length word) && nat_le (length word) 12 && list_all is_name_byte word) refl
  where
    split : (b : Bool) → (nat_le 1 (length word) && nat_le (length word) 12 && list_all is_name_byte word) ≡ b → IsName word
    split true good =
        let parts = and_parts (nat_le 1 (length word) && nat_le (length word) 12) (list_all is_name_byte word) good in
        let sizes = and_parts (nat_le 1 (length word)) (nat_le (length word) 12) parts.0 in
        record { filled = leb-true 1 (length word) sizes.0; short = leb-true (length word) 12 sizes.1; letters = parts.1 }
    split false bad =
        let none : is_some (name_of word) ≡ false = ap (λ x. is_some (if x then Some word else None)) bad in
        let some : is_some (name_of word) ≡ true = holds-from_none (is_some (name_of word)) _ e in
        absurd (cc)

-- no two records of a kind with a key have the same
right-false : (a b : Bool) → a ≡ true → a && b ≡ false → b ≡ false
right-false true b one both = both
right-false false b one both = absurd (cc)

pub keys-differ : (rs : List Record) → first_fault rs ≡ None → (kind : RecordKind) → is_keyed kind ≡ true → (i j : ℕ) → i < j → j < length rs
    → is_kind kind (row_at rs i) ≡ true → is_kind kind (row_at rs j) ≡ true → key_of kind (row_at rs i) ≢ key_of kind (row_at rs j)
keys-differ rs e kind keyed i j less within one two same =
    let first : List ℕ = (key_of kind (row_at rs j)).0 in
    let second : List ℕ = (key_of kind (row_at rs j)).1 in
    let is_new : is_keyed kind && is_some (filed kind first second (take j rs)) ≡ false =
    (or_parts (is_market kind && bytes_eq (field (row_at rs j) 1) house_name) (is_keyed kind && is_some (filed kind first second (take j rs))) (sound-of rs e j within kind two).is_new).1 in
    let none : is_some (filed kind first second (take j rs)) ≡ false = right-false (is_keyed kind) (is_some (filed kind first second (take j rs))) keyed is_new in
    let other : is_filed kind first second (row_at rs i) ≡ false = none-before (is_filed kind first second) rs [] j (omega (arith, within)) none i less in
    let here : is_filed kind first second (row_at rs i) ≡ true =
    and_from _ _ (and_from _ _ one (bytes-same first (key_of kind (row_at rs i)).0 (ap (λ k. k.0) (sym same)))) (bytes-same second (key_of kind (row_at rs i)).1 (ap (λ k. k.1) (sym same))) in
    cc

-- where the name alone is the key, the names differ
pub names-differ : (rs : List Record) → first_fault rs ≡ None → (kind : RecordKind) → key_length kind ≡ 1 → (i j : ℕ) → i < j → j < length rs
    → is_kind kind (row_at rs i) ≡ true → is_kind kind (row_at rs j) ≡ true → field (row_at rs i) 1 ≢ field (row_at rs j) 1
names-differ rs e kind alone i j less within one two same =
    keys-differ rs e kind (ap (nat_lt 0) alone) i j less within one two
    (ap (λ n. key_of_length n (row_at rs i)) alone ∙ ap (λ (w : List ℕ). (w, [])) same ∙ sym (ap (λ n. key_of_length n (row_at rs j)) alone))

-- where all records of a kind are counted together, there are no more than the most
same-group : (kind : RecordKind) → ((r : Record) → group_of kind r ≡ []) → (r : Record) → is_in_group kind [] r ≡ is_kind kind r
same-group kind alone r = ap (λ (g : List ℕ). is_kind kind r && bytes_eq [] g) (alone r) ∙ right-true (is_kind kind r)
  where
    right-true : (b : Bool) → b && true ≡ b
    right-true true = refl
    right-true false = refl

pub at-most : (kind : RecordKind) (most : ℕ) → most_records kind ≡ Some most → ((r : Record) → group_of kind r ≡ []) → (rs : List Record) → first_fault rs ≡ None → length (of_kind kind rs) ≤ most
at-most kind most bound alone rs e =
    subst (λ (xs : List Record). length xs ≤ most) (filter_agree (is_in_group kind []) (is_kind kind) (same-group kind alone) rs) (count-kept kind most bound [] rs e)
