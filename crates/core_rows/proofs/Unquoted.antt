-- The text of a plain row is what the writer of the default settings writes.
use Rattle.std.proofs.Common.{◌≡◌, ◌==◌, ◌++◌, ◌∷◌, [], ℕ, List, refl, ap, true, false, append-nil, arith}
use Rattle.std.specs.List.{All, list_all, list_any, join_with_byte}
use Rattle.std.proofs.lemmas.Bool.{and_parts, eqb-true, false_from_ne_true, or_from}
use Rattle.std.proofs.lemmas.List.Elements.{All-head, All-tail}
use Rattle.csv.specs.Writing as Csv
use Rattle.csv.specs.Writing.{default_writer, needs_byte, field_text, fields_text, is_blank}
use Rattle.core_rows.specs.Fields.{row_text}
use Rattle.core_rows.specs.Names.{Record}
use Rattle.core_rows.specs.Written.{is_plain_byte, IsPlainField, IsPlainRow}

-- a plain byte is no byte that is not plain
pub plain-other : (b k : ℕ) → is_plain_byte b ≡ true → is_plain_byte k ≡ false → (b == k) ≡ false
plain-other b k plain other =
    false_from_ne_true (b == k) (λ same. let e = eqb-true b k same in cc)

-- a plain byte calls for no quotes
byte-unquoted : (b : ℕ) → is_plain_byte b ≡ true → needs_byte default_writer b ≡ false
byte-unquoted b plain =
    let comma = plain-other b 44 plain refl in
    let quote = plain-other b 34 plain refl in
    let return = plain-other b 13 plain refl in
    let feed = plain-other b 10 plain refl in
    rw (comma, quote, return, feed) refl

bytes-unquoted : (field : List ℕ) → list_all is_plain_byte field ≡ true → list_any (needs_byte default_writer) field ≡ false
bytes-unquoted [] plain = refl
bytes-unquoted (b ∷ rest) plain =
    let parts = and_parts (is_plain_byte b) (list_all is_plain_byte rest) plain in
    or_from _ _ (byte-unquoted b parts.0) (bytes-unquoted rest parts.1)

-- a plain field is written as it is
pub field-unquoted : (field : List ℕ) → IsPlainField field → field_text default_writer field ≡ field
field-unquoted field plain = rw (bytes-unquoted field plain.plain) refl

-- fields after the first, each behind its comma, are the fields joined by commas
joined : (field : List ℕ) (rest : Record) → All IsPlainField (field ∷ rest)
    → field ++ fields_text default_writer rest ≡ join_with_byte 44 (field ∷ rest)
unfolding fields_text
joined field [] plain = append-nil field
joined field (next ∷ rest) plain =
    let later = All-tail IsPlainField field (next ∷ rest) plain in
    rw (field-unquoted next (All-head IsPlainField next rest later)) (ap (λ (t : List ℕ). field ++ (44 ∷ t)) (joined next rest later))

-- a row with a plain field first shows a byte
not-blank : (field : List ℕ) (rest : Record) → IsPlainField field → is_blank default_writer (field ∷ rest) ≡ false
unfolding is_blank
not-blank field [] plain = rw (field-unquoted field plain) (grind (arith, plain.some))
not-blank field (next ∷ rest) plain = refl

-- what the writer writes of a plain row
pub row-written : (row : Record) → IsPlainRow row → Csv.row_text default_writer row ≡ row_text row
row-written [] plain = absurd (omega (arith, plain.some))
row-written (field ∷ rest) plain =
    let first = All-head IsPlainField field rest plain.plain in
    rw (not-blank field rest first, field-unquoted field first) (ap (λ (t : List ℕ). t ++ (10 ∷ [])) (joined field rest plain.plain))
