-- The text of each demo case up to 32 states it.
use Rattle.std.proofs.Common.{◌≡◌, ◌∙◌, ap, refl, Bool, true, ◌&&◌, nat_le, List, [], ◌∷◌, length, map, Ok}
use Rattle.std.specs.List.{All, list_all}
use Rattle.std.specs.Fmt.{digits}
use Rattle.std.proofs.lemmas.Bool.{and_parts, leb-true}
use Rattle.std.proofs.lemmas.List.Elements.{All-cons, All-nil}
use Rattle.jiff_core.specs.Calendar.{day_count, days_from_civil, days_of_months, days_of_years}
use Rattle.core_sums.specs.Places.{below, days_to, each}
use Rattle.core_rows.specs.Names.{Record}
use Rattle.core_rows.specs.Steps.{by_form, first_of}
use Rattle.core_rows.specs.Written.{IsPlainField, IsPlainRow, is_plain_byte}
use Rattle.core_rows.proofs.Plain.{word-plain}
use Rattle.core_rows.proofs.ReadBack.{rows-read}
use Rattle.core_rows.specs.FirstFault.{first_fault_after}
use Rattle.core_case.specs.Stated.{case_of_bytes, case_of_records}
use Rattle.core_gen.specs.Demo.{demo_records}
use Rattle.core_gen.specs.Closed.{demo_view}
use Rattle.core_gen.specs.States.{DemoTextsState}
use Rattle.core_gen.proofs.Computed.{up-to-32}

-- whether the fields of a row are plain, and whether the row is
abbrev are_plain : Record → Bool
are_plain = list_all (λ word. nat_le 1 (length word) && list_all is_plain_byte word)

abbrev is_plain_row : Record → Bool
is_plain_row row = nat_le 1 (length row) && are_plain row

fields-plain : (row : Record) → are_plain row ≡ true → All IsPlainField row
fields-plain [] good = All-nil IsPlainField
fields-plain (word ∷ row) good =
    let test = nat_le 1 (length word) && list_all is_plain_byte word in
    let parts = and_parts test (are_plain row) good in
    All-cons IsPlainField word row (word-plain word parts.0) (fields-plain row parts.1)

row-plain : (row : Record) → is_plain_row row ≡ true → IsPlainRow row
row-plain row good =
    let parts = and_parts (nat_le 1 (length row)) (are_plain row) good in
    record { some = leb-true 1 (length row) parts.0; plain = fields-plain row parts.1 }

rows-plain : (rows : List Record) → list_all is_plain_row rows ≡ true → All IsPlainRow rows
rows-plain [] good = All-nil IsPlainRow
rows-plain (row ∷ rows) good =
    let parts = and_parts (is_plain_row row) (list_all is_plain_row rows) good in
    All-cons IsPlainRow row rows (row-plain row parts.0) (rows-plain rows parts.1)

all-plain : map (λ n. list_all is_plain_row (demo_records n)) (below 33)
    ≡ map (λ n. true) (below 33)
unfolding below days_to each digits
all-plain = refl

-- the records, judged and read one by one
all-stated : map (λ n. case_of_records (demo_records n)) (below 33)
    ≡ map (λ n. Ok (demo_view n)) (below 33)
unfolding below days_to each digits first_of by_form first_fault_after
    days_from_civil day_count days_of_years days_of_months
all-stated = refl

pub demo-texts-state : DemoTextsState
unfolding case_of_bytes
demo-texts-state n high =
    let tests = up-to-32 (λ m. list_all is_plain_row (demo_records m)) (λ m. true) all-plain n high in
    ap case_of_records (rows-read (demo_records n) (rows-plain (demo_records n) tests))
    ∙ up-to-32 (λ m. case_of_records (demo_records m)) (λ m. Ok (demo_view m)) all-stated n high
