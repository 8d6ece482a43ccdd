-- Which fields are plain: those that write a number, a name or a word.
use Rattle.std.proofs.Common.{◌≡◌, ◌==◌, ◌&&◌, ◌<◌, ◌/◌, ◌%◌, ◌+◌, ◌++◌, ◌∷◌, [], ℕ, zero, suc, ℤ, pos, negsuc, List, length, Some, refl, true, false, arith, nat_le, lit<, inl, inr, unsigned_abs, length-append}
use Rattle.std.specs.List.{All, list_all}
use Rattle.std.specs.Fmt.{decimal, digit_glyph, digits, digits_onto}
use Rattle.std.proofs.lemmas.Bool.{and_from, and_parts, cases_Bool, le-leb, leb-true, lt-ltb, or_cases, or_left, or_right}
use Rattle.std.proofs.lemmas.List.Elements.{All-cons, All-nil, All-push, All-same}
use Rattle.jiff_core.specs.declared.civil.date.Date.{Date}
use Rattle.core_rows.specs.Fields.{IsName, is_digit, is_name_byte, name_of, number_text}
use Rattle.core_rows.specs.Names.{Record}
use Rattle.core_rows.specs.Written.{date_text, is_plain_byte, IsPlainField, IsPlainRow, last_digit}
use Rattle.core_rows.proofs.Dates.{last_digit-digit}

digit-plain : (b : ℕ) → is_digit b ≡ true → is_plain_byte b ≡ true
digit-plain b digit = or_left _ _ (or_left _ _ (or_left _ _ digit))

-- the digit that is written last of a number
glyph-plain : (n : ℕ) → is_plain_byte (digit_glyph false (n % 10)) ≡ true
glyph-plain n =
    let low : n % 10 < 10 = omega arith in
    rw (lt-ltb (n % 10) 10 low) (digit-plain (48 + n % 10) (and_from _ _ (le-leb 48 (48 + n % 10) (omega arith)) (le-leb (48 + n % 10) 57 (omega arith))))

-- digits before plain bytes
onto-plain : (k n : ℕ) (acc : List ℕ) → list_all is_plain_byte acc ≡ true → list_all is_plain_byte (digits_onto k 10 false n acc) ≡ true
onto-plain zero n acc plain = plain
onto-plain (suc k) n acc plain = elim (cases_Bool (n / 10 == 0)) [
  | inl last ↦ rw last (and_from _ _ (glyph-plain n) plain)
  | inr more ↦ rw more (onto-plain k (n / 10) (digit_glyph false (n % 10) ∷ acc) (and_from _ _ (glyph-plain n) plain))
]

onto-some : (k n : ℕ) (acc : List ℕ) → 0 < length acc → 0 < length (digits_onto k 10 false n acc)
onto-some zero n acc some = some
onto-some (suc k) n acc some = elim (cases_Bool (n / 10 == 0)) [
  | inl last ↦ rw last (omega arith)
  | inr more ↦ rw more (onto-some k (n / 10) (digit_glyph false (n % 10) ∷ acc) (omega arith))
]

onto-first : (k n : ℕ) → 0 < length (digits_onto (suc k) 10 false n [])
onto-first k n = elim (cases_Bool (n / 10 == 0)) [
  | inl last ↦ rw last (omega arith)
  | inr more ↦ rw more (onto-some k (n / 10) (digit_glyph false (n % 10) ∷ []) (omega arith))
]

-- the digits of a number
pub decimal-plain : (n : ℕ) → IsPlainField (decimal n)
unfolding digits
decimal-plain n = record { some = onto-first 63 n; plain = onto-plain 64 n [] refl }

-- a number with its sign
pub number_text-plain : (v : ℤ) → IsPlainField (number_text v)
number_text-plain (pos n) = decimal-plain n
number_text-plain (negsuc n) = record { some = omega arith; plain = (decimal-plain (suc n)).plain }

name-byte-plain : (b : ℕ) → is_name_byte b ≡ true → is_plain_byte b ≡ true
name-byte-plain b good = elim (or_cases (nat_le 65 b && nat_le b 90) (is_digit b) good) [
  | inl letter ↦ or_left _ _ (or_left _ _ (or_right _ _ letter))
  | inr digit ↦ digit-plain b digit
]

name-bytes-plain : (name : List ℕ) → list_all is_name_byte name ≡ true → list_all is_plain_byte name ≡ true
name-bytes-plain [] good = refl
name-bytes-plain (b ∷ bs) good =
    let parts = and_parts (is_name_byte b) (list_all is_name_byte bs) good in
    and_from _ _ (name-byte-plain b parts.0) (name-bytes-plain bs parts.1)

-- the bytes of a name
pub name-plain : (name : List ℕ) → 0 < length name → list_all is_name_byte name ≡ true → IsPlainField name
name-plain name some good = record { some = some; plain = name-bytes-plain name good }

pub is_name-plain : (name : List ℕ) → IsName name → IsPlainField name
is_name-plain name h = name-plain name h.filled h.letters

-- a field that is read as a name
pub name_of-plain : (field name : List ℕ) → name_of field ≡ Some name → IsPlainField field
name_of-plain field name read = elim (cases_Bool (nat_le 1 (length field) && nat_le (length field) 12 && list_all is_name_byte field)) [
  | inl good ↦
      let parts = and_parts (nat_le 1 (length field) && nat_le (length field) 12) (list_all is_name_byte field) good in
      let size = and_parts (nat_le 1 (length field)) (nat_le (length field) 12) parts.0 in
      name-plain field (leb-true 1 (length field) size.0) parts.1
  | inr bad ↦ cc (rw bad at read)
]

-- a word whose bytes compute
pub word-plain : (word : List ℕ) → nat_le 1 (length word) && list_all is_plain_byte word ≡ true → IsPlainField word
word-plain word good =
    let parts = and_parts (nat_le 1 (length word)) (list_all is_plain_byte word) good in
    record { some = leb-true 1 (length word) parts.0; plain = parts.1 }

-- rows of plain fields, field by field
pub row-plain-one : (field : List ℕ) → IsPlainField field → IsPlainRow (field ∷ [])
row-plain-one field plain = record { some = lit< tt; plain = All-cons IsPlainField field [] plain (All-nil IsPlainField) }

pub row-plain-more : (field : List ℕ) (rest : Record) → IsPlainField field → IsPlainRow rest → IsPlainRow (field ∷ rest)
row-plain-more field rest plain more = record { some = omega arith; plain = All-cons IsPlainField field rest plain more.plain }

-- the ten bytes of a date
pub date_text-plain : (date : Date) → IsPlainField (date_text date)
date_text-plain date =
    let y = unsigned_abs date.year in
    let byte : (n : ℕ) → is_plain_byte (last_digit n) ≡ true = λ n. digit-plain (last_digit n) (last_digit-digit n) in
    let day = and_from _ _ (byte (date.day / 10)) (and_from _ _ (byte date.day) refl) in
    let month = and_from _ _ (byte (date.month / 10)) (and_from _ _ (byte date.month) day) in
    let year = and_from _ _ (byte (y / 1000)) (and_from _ _ (byte (y / 100)) (and_from _ _ (byte (y / 10)) (and_from _ _ (byte y) month))) in
    record { some = omega arith; plain = year }

-- a row that is made field by field: none at first, and then one more
pub fields-plain-none : (row : Record) → row ≡ [] → All IsPlainField row
fields-plain-none row none = All-same IsPlainField row [] none (All-nil IsPlainField)

pub row-plain-push : (row new : Record) (field : List ℕ) → new ≡ row ++ (field ∷ []) → All IsPlainField row → IsPlainField field → IsPlainRow new
row-plain-push row new field pushed plain one =
    let size = length-append row (field ∷ []) in
    rw pushed (record { some = omega (arith, size); plain = All-push IsPlainField row field plain one })
