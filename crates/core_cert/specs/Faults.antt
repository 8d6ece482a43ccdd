-- The first faulty record of a certificate, and its fault. A record is judged by the case, by the record before it and
-- by the second record, in the order of the steps below, and the first step that fails gives the fault.
use Rattle.std.specs.Prelude.{ℕ, zero, suc, ◌-◌, min, List, [], ◌∷◌, ◌++◌, length, map, codes, ℤ, pos, int_le, unsigned_abs, Bool, false, not, ◌&&◌, ◌||◌, nat_lt, if◌then◌else◌, Option, Some, None, is_some}
use Rattle.std.specs.Ordering.{int_eq}
use Rattle.std.specs.Option.{unwrap_or}
use Rattle.std.specs.List.{list_any, position_or_len}
use Rattle.std.specs.Str.{bytes_eq}
use Rattle.core_sums.specs.Places.{below, row_at}
use Rattle.core_rows.specs.Names.{Record, field, place_of}
use Rattle.core_rows.specs.FirstFault.{Faulty, Judge}
use Rattle.core_rows.specs.FirstFault as FirstFault
use Rattle.core_rows.specs.Steps.{fault_unless, first_of}
use Rattle.core_rows.specs.Steps as Steps
use Rattle.core_rows.specs.Fields.{wide, name_of}
use Rattle.core_book.specs.View.{CaseView, instrument, line, is_tiered, instrument_of}
use Rattle.core_model.specs.Closing.{line_count}
use Rattle.core_model.specs.Layout.{closing_place, pool_place, scenario_place}
use Rattle.core_cert.specs.declared.kinds.RecordKind.{RecordKind}
use Rattle.core_cert.specs.declared.kinds.RecordKind.TheVariants.{Cert, Cannot, Amount, Margin, Scenario, Limit, Pool, Full, End}
use Rattle.core_cert.specs.declared.forms.Form.{Form}
use Rattle.core_cert.specs.declared.forms.Form.TheVariants.{Version, Name, SideWord, Number, Numerator, NotZero}
use Rattle.core_cert.specs.declared.faults.RecordFault.{RecordFault}
use Rattle.core_cert.specs.declared.faults.RecordFault.TheVariants.{FirstNotCert, OtherVersion, UnknownKind, OutOfOrder, FieldCount, NotAName, NotANumber, NotASide, OutOfRange, NotInCase, NoSuchLine, NotRising, NotTheMargin, AfterEnd, EndMissing}
use Rattle.core_cert.specs.Written.{version_word, side_word, floored}
use Rattle.core_cert.specs.Kinds.{kind_of, is_kind, followers, forms}

-- the last of some records, empty where there is none
abbrev pub last_record : List Record → Record
last_record rs = row_at rs (length rs - 1)

-- whether the last of some records is `end`
abbrev pub has_ended : List Record → Bool
has_ended rs = is_kind End (last_record rs)

-- step 1: no record stands after `end`
abbrev pub end_before : List Record → Option RecordFault
end_before earlier = fault_unless (not (has_ended earlier)) AfterEnd

-- step 2: the kind
abbrev pub kind_step : ℕ → Record → Option RecordFault
kind_step zero r = fault_unless (is_kind Cert r) FirstNotCert
kind_step (suc n) r = fault_unless (is_some (kind_of r)) UnknownKind

-- step 3: the kind may stand after the record before it, in a certificate of the form that the second record says
abbrev pub is_refusing : List Record → Bool
is_refusing rs = is_kind Cannot (row_at rs 1)

abbrev pub is_follower : Bool → Option RecordKind → Record → Bool
is_follower refusing None r = false
is_follower refusing (Some kind) r = list_any (λ x. is_kind x r) (followers refusing kind)

abbrev pub order_step : List Record → Record → Option RecordFault
order_step [] r = None
order_step (x ∷ xs) r =
    fault_unless (is_follower (is_refusing (x ∷ xs)) (kind_of (last_record (x ∷ xs))) r) OutOfOrder

-- step 4: the number of fields, then step 5: the form of each field, from left to right
abbrev pub is_side_word : List ℕ → Bool
is_side_word word = bytes_eq word (codes "position") || bytes_eq word (codes "collateral")

abbrev pub form_fault : Form → List ℕ → Option RecordFault
form_fault (Version tiered) word = fault_unless (bytes_eq word (version_word tiered)) OtherVersion
form_fault Name word = fault_unless (is_some (name_of word)) NotAName
form_fault SideWord word = fault_unless (is_side_word word) NotASide
form_fault (Number first last) word = fault_unless (is_some (wide word)) NotANumber
form_fault Numerator word = fault_unless (is_some (wide word)) NotANumber
form_fault NotZero word = fault_unless (is_some (wide word)) NotANumber

-- step 6: the range of each field, from left to right
abbrev pub number_in : List ℕ → ℤ
number_in word = unwrap_or (wide word) (pos 0)

abbrev pub range_fault : Form → List ℕ → Option RecordFault
range_fault (Version tiered) word = None
range_fault Name word = None
range_fault SideWord word = None
range_fault (Number first last) word =
    fault_unless (int_le (pos first) (number_in word) && int_le (number_in word) (pos last)) OutOfRange
range_fault Numerator word = None
range_fault NotZero word = fault_unless (not (int_eq (number_in word) (pos 0))) OutOfRange

-- step 7: the case has the name
abbrev pub instrument_names : CaseView → List (List ℕ)
instrument_names c = map (λ x. x.name) c.instruments

abbrev pub pool_names : CaseView → List (List ℕ)
pool_names c = map (λ x. x.name) c.pools

abbrev pub name_fault : List (List ℕ) → Record → Option RecordFault
name_fault names r = fault_unless (list_any (bytes_eq (field r 1)) names) NotInCase

abbrev pub name_step : CaseView → RecordKind → Record → Option RecordFault
name_step c Amount r = name_fault (instrument_names c) r
name_step c Scenario r = name_fault c.scenarios r
name_step c Limit r = name_fault (instrument_names c) r
name_step c Pool r = name_fault (pool_names c) r
name_step c Full r = name_fault (instrument_names c) r
name_step c _ r = None

-- step 8: the instrument has a line of the side
abbrev pub is_line_of : CaseView → Record → ℕ → Bool
is_line_of c r l =
    bytes_eq (field r 1) (instrument c (instrument_of c l)).name
    && bytes_eq (field r 2) (side_word (line c l).side)

-- the line of a record, their number where there is none
abbrev pub line_named : CaseView → Record → ℕ
line_named c r = position_or_len (is_line_of c r) (below (line_count c))

abbrev pub line_fault : CaseView → Record → Option RecordFault
line_fault c r = fault_unless (nat_lt (line_named c r) (line_count c)) NoSuchLine

abbrev pub line_step : CaseView → RecordKind → Record → Option RecordFault
line_step c Amount r = line_fault c r
line_step c Full r = line_fault c r
line_step c _ r = None

-- Step 9: the key is above that of the record before, where that is of the same kind. A key, as one number, is the
-- place in the list of the kind's numbers. Days and tiers are below 255; a number that is not counts as 255.
abbrev pub small_in : Record → ℕ → ℕ
small_in r n = min (unsigned_abs (number_in (field r n))) 255

-- the tier in a field, which is tier 1 in version 1
abbrev pub tier_in : CaseView → Record → ℕ → ℕ
tier_in c r n = if is_tiered c then small_in r n else 1

abbrev pub place_in : CaseView → RecordKind → Record → ℕ
place_in c Amount r = closing_place c (line_named c r) (small_in r 3) (tier_in c r 4)
place_in c Scenario r = scenario_place c (place_of (field r 1) c.scenarios) (small_in r 2)
place_in c Limit r =
    closing_place c (place_of (field r 1) (instrument_names c)) (small_in r 2) (tier_in c r 3)
place_in c Pool r = pool_place c (place_of (field r 1) (pool_names c)) (small_in r 2)
place_in c Full r = line_named c r
place_in c _ r = 0

abbrev pub key_step : CaseView → List Record → RecordKind → Record → Option RecordFault
key_step c earlier kind r =
    let before : Record = last_record earlier in
    fault_unless (not (is_kind kind before) || nat_lt (place_in c kind before) (place_in c kind r)) NotRising

-- step 10: the margin is the loss before it, floored at nought
abbrev pub margin_step : List Record → RecordKind → Record → Option RecordFault
margin_step earlier Margin r =
    let loss : ℤ = number_in (field (last_record earlier) 1) in
    fault_unless (int_eq (number_in (field r 1)) (floored loss)) NotTheMargin
margin_step earlier _ r = None

-- the steps on the fields of a record alone
abbrev pub fields_fault : List Form → Record → Option RecordFault
fields_fault fs r = Steps.fields_fault FieldCount form_fault range_fault fs r

-- the steps on a record for a case, after the records before it
abbrev pub case_fault : CaseView → List Record → RecordKind → Record → Option RecordFault
case_fault c earlier kind r =
    first_of
    (name_step c kind r
    ∷ line_step c kind r
    ∷ key_step c earlier kind r
    ∷ margin_step earlier kind r
    ∷ [])

-- the steps of a record of a known kind
abbrev pub later_fault : CaseView → List Record → Record → Option RecordKind → Option RecordFault
later_fault c earlier r None = None
later_fault c earlier r (Some kind) =
    first_of (order_step earlier r ∷ fields_fault (forms c kind) r ∷ case_fault c earlier kind r ∷ [])

-- the fault of a record, none of a sound one
abbrev pub fault_of : CaseView → List Record → Record → Option RecordFault
fault_of c earlier r =
    first_of (end_before earlier ∷ kind_step (length earlier) r ∷ later_fault c earlier r (kind_of r) ∷ [])

-- how a certificate of a case is judged, record by record
abbrev pub judge : CaseView → Judge RecordFault
judge c = record { fault_of = fault_of c; has_ended = has_ended; not_begun = FirstNotCert; not_ended = EndMissing }

abbrev pub first_fault : CaseView → List Record → Option (Faulty RecordFault)
first_fault c rs = FirstFault.first_fault (judge c) rs
