-- The records of the text of plain rows are these rows.
use Rattle.std.proofs.Common.{◌≡◌, ◌≤◌, ◌+◌, ◌++◌, ◌∷◌, [], ℕ, zero, suc, List, Some, length, refl, ap, true, arith, length-append}
use Rattle.std.specs.List.{All, join_with_byte, list_all}
use Rattle.std.proofs.lemmas.Bool.{and_parts}
use Rattle.std.proofs.lemmas.List.Elements.{All-head, All-tail}
use Rattle.csv.specs.Machine.{next_record}
use Rattle.csv.specs.Reading.{default_config, records_from, strip_bom}
use Rattle.csv.specs.declared.parser.State.TheVariants as st
use Rattle.csv.proofs.RoundTrip.{read-write}
use Rattle.core_sums.specs.Places.{each}
use Rattle.core_rows.specs.Fields.{records, row_text}
use Rattle.core_rows.specs.Names.{Record}
use Rattle.core_rows.specs.Written.{is_plain_byte, IsPlainField, IsPlainRow, rows_text}
use Rattle.core_rows.proofs.Unquoted.{plain-other, row-written}

-- the next record of a text that starts with a plain row
row-read : (row : Record) (tail : List ℕ) → IsPlainRow row
    → next_record default_config st.StartRecord [] [] (row_text row ++ tail) ≡ Some (row, st.StartRecord, tail)
row-read [] tail plain = absurd (omega (arith, plain.some))
row-read (field ∷ rest) tail plain = rw (← row-written (field ∷ rest) plain) (read-write (field ∷ rest) tail)

-- as many records as there are rows, or more
rows-from : (n : ℕ) (rows : List Record) → length rows ≤ n → All IsPlainRow rows → records_from default_config n st.StartRecord (rows_text rows) ≡ rows
unfolding each next_record records_from
rows-from zero [] h plain = refl
rows-from (suc n) [] h plain = refl
rows-from zero (row ∷ rows) h plain = absurd (omega (arith, h))
rows-from (suc n) (row ∷ rows) h plain =
    rw (row-read row (rows_text rows) (All-head IsPlainRow row rows plain))
    (ap (λ (t : List Record). row ∷ t) (rows-from n rows (omega arith) (All-tail IsPlainRow row rows plain)))

-- a row takes a byte at least
rows-short : (rows : List Record) → length rows ≤ length (rows_text rows)
unfolding each
rows-short [] = omega arith
rows-short (row ∷ rows) =
    let more = rows-short rows in
    omega (arith, more, length-append (row_text row) (rows_text rows), length-append (join_with_byte 44 row) (10 ∷ []))

-- a text that starts with a plain byte starts with no byte order mark
no-mark : (b : ℕ) (rest : List ℕ) → is_plain_byte b ≡ true → strip_bom (b ∷ rest) ≡ b ∷ rest
unfolding strip_bom
no-mark b [] plain = refl
no-mark b (c ∷ []) plain = refl
no-mark b (c ∷ d ∷ rest) plain = rw (plain-other b 0xEF plain refl) refl

-- the text of a plain row starts with a plain byte
text-starts : (field : List ℕ) (rest : Record) → IsPlainField field → (b : ℕ) × (more : List ℕ) × (row_text (field ∷ rest) ≡ b ∷ more) × (is_plain_byte b ≡ true)
text-starts [] rest plain = absurd (omega (arith, plain.some))
text-starts (b ∷ bs) [] plain = (b, bs ++ (10 ∷ []), refl, (and_parts (is_plain_byte b) (list_all is_plain_byte bs) plain.plain).0)
text-starts (b ∷ bs) (next ∷ rest) plain = (b, (bs ++ (44 ∷ join_with_byte 44 (next ∷ rest))) ++ (10 ∷ []), refl, (and_parts (is_plain_byte b) (list_all is_plain_byte bs) plain.plain).0)

first-byte : (row : Record) → IsPlainRow row → (b : ℕ) × (rest : List ℕ) × (row_text row ≡ b ∷ rest) × (is_plain_byte b ≡ true)
first-byte [] plain = absurd (omega (arith, plain.some))
first-byte (field ∷ rest) plain = text-starts field rest (All-head IsPlainField field rest plain.plain)

-- the text of plain rows is read from its first byte
whole-text : (rows : List Record) → All IsPlainRow rows → strip_bom (rows_text rows) ≡ rows_text rows
unfolding each strip_bom
whole-text [] plain = refl
whole-text (row ∷ rows) plain =
    let text = first-byte row (All-head IsPlainRow row rows plain) in
    rw text.2 (no-mark text.0 (text.1 ++ each rows row_text) text.3)

pub rows-read : (rows : List Record) → All IsPlainRow rows → records (rows_text rows) ≡ rows
rows-read rows plain =
    rw (whole-text rows plain) (rows-from (length (rows_text rows) + 1) rows (let short = rows-short rows in omega (arith, short)) plain)
