-- The first faulty record of a case, and its fault. A record is judged by the sound records before it, in the order
-- of the steps below, and the first step that fails gives the fault.
use Rattle.std.specs.Prelude.{ℕ, zero, suc, List, [], ◌∷◌, ◌++◌, length, map, filter, codes, ℤ, pos, negsuc, int_le, Bool, true, false, not, ◌&&◌, ◌||◌, nat_lt, if◌then◌else◌, Option, Some, None, is_some, is_none}
use Rattle.std.specs.Ordering.{int_eq}
use Rattle.std.specs.Option.{option_or, unwrap_or}
use Rattle.std.specs.List.{list_all, find}
use Rattle.std.specs.Str.{bytes_eq}
use Rattle.core_sums.specs.Places.{row_at}
use Rattle.core_rows.specs.Names.{Record, field}
use Rattle.core_rows.specs.FirstFault.{Faulty, Judge}
use Rattle.core_rows.specs.FirstFault as FirstFault
use Rattle.core_rows.specs.Steps.{fault_unless, fields_fault, first_of}
use Rattle.core_rows.specs.Fields.{whole, name_of, day_of}
use Rattle.core_case.specs.declared.kinds.RecordKind.{RecordKind}
use Rattle.core_case.specs.declared.kinds.RecordKind.TheVariants.{Core, House, Market, Holiday, Instrument, Limit, Tier, Scenario, Path, Position, Collateral, End}
use Rattle.core_case.specs.declared.forms.Form.{Form}
use Rattle.core_case.specs.declared.forms.Form.TheVariants.{Version, Name, InstrumentKind, Number, StartDate, HolidayDate}
use Rattle.core_case.specs.declared.faults.RecordFault.{RecordFault}
use Rattle.core_case.specs.declared.faults.RecordFault.TheVariants.{FirstNotCore, UnknownVersion, UnknownKind, OutOfOrder, FieldCount, NotAName, NotANumber, NotADate, NotAnInstrumentKind, OutOfRange, Undeclared, Repeated, TooMany, CollateralOfFuture, ExpiryOfSecurity, Incomplete, AfterEnd, EndMissing}
use Rattle.core_case.specs.Kinds.{kind_of, is_kind, HeadingView, forms, price_form, references, key_length, most_records, number_in, natural_in}

-- the records of a kind
abbrev pub of_kind : RecordKind → List Record → List Record
of_kind kind rs = filter (is_kind kind) rs

-- what the first record, which is `core`, and the second, which is `house`, state
abbrev pub heading_of : List Record → HeadingView
heading_of rs = record {
  version = natural_in (row_at rs 0) 1;
  horizon = natural_in (row_at rs 1) 2;
  last = natural_in (row_at rs 1) 3;
}

-- The key of a record: two words, the second or both of them empty where the kind's key is shorter.
abbrev pub key_of_length : ℕ → Record → List ℕ × List ℕ
key_of_length zero r = ([], [])
key_of_length (suc zero) r = (field r 1, [])
key_of_length (suc (suc n)) r = (field r 1, field r 2)

abbrev pub key_of : RecordKind → Record → List ℕ × List ℕ
key_of kind r = key_of_length (key_length kind) r

-- the first record of a kind with this key
abbrev pub is_filed : RecordKind → List ℕ → List ℕ → Record → Bool
is_filed kind first second r = is_kind kind r && bytes_eq first (key_of kind r).0 && bytes_eq second (key_of kind r).1

abbrev pub filed : RecordKind → List ℕ → List ℕ → List Record → Option Record
filed kind first second rs = find (is_filed kind first second) rs

-- whether `end` is among the records
abbrev pub has_ended : List Record → Bool
has_ended rs = is_some (filed End [] [] rs)

-- step 1: no record stands after `end`
abbrev pub end_before : List Record → Option RecordFault
end_before earlier = fault_unless (not (has_ended earlier)) AfterEnd

-- step 2: the kind, which is one of the version
abbrev pub kind_step : ℕ → ℕ → Record → Option RecordFault
kind_step zero version r = fault_unless (is_kind Core r) FirstNotCore
kind_step (suc n) version r = fault_unless (is_some (kind_of version r)) UnknownKind

-- step 3: the first record is `core`, the second and no other `house`
abbrev pub is_core_or_house : RecordKind → Bool
is_core_or_house Core = true
is_core_or_house House = true
is_core_or_house _ = false

abbrev pub is_house : RecordKind → Bool
is_house House = true
is_house _ = false

abbrev pub order_step : ℕ → RecordKind → Option RecordFault
order_step zero kind = None
order_step (suc zero) kind = fault_unless (is_house kind) OutOfOrder
order_step (suc (suc n)) kind = fault_unless (not (is_core_or_house kind)) OutOfOrder

-- step 4: the number of fields, then step 5: the form of each field, from left to right
abbrev pub is_version : List ℕ → Bool
is_version word = bytes_eq word (codes "1") || bytes_eq word (codes "2") || bytes_eq word (codes "3")

abbrev pub is_instrument_kind : List ℕ → Bool
is_instrument_kind word = bytes_eq word (codes "future") || bytes_eq word (codes "security")

abbrev pub form_fault : Form → List ℕ → Option RecordFault
form_fault Version word = fault_unless (is_version word) UnknownVersion
form_fault Name word = fault_unless (is_some (name_of word)) NotAName
form_fault InstrumentKind word = fault_unless (is_instrument_kind word) NotAnInstrumentKind
form_fault (Number low high) word = fault_unless (is_some (whole word)) NotANumber
form_fault StartDate word = fault_unless (is_some (day_of word)) NotADate
form_fault HolidayDate word = fault_unless (is_some (day_of word)) NotADate

-- step 6: the range of each field, from left to right
abbrev pub is_between : ℤ → ℤ → Option ℤ → Bool
is_between low high None = true
is_between low high (Some z) = int_le low z && int_le z high

-- the day numbers of 1900-01-01, 2200-12-31 and 2210-12-31
abbrev pub first_date : ℤ
first_date = negsuc 25566

abbrev pub last_start : ℤ
last_start = pos 84370

abbrev pub last_holiday : ℤ
last_holiday = pos 88022

abbrev pub range_fault : Form → List ℕ → Option RecordFault
range_fault Version word = None
range_fault Name word = None
range_fault InstrumentKind word = None
range_fault (Number low high) word = fault_unless (is_between low high (whole word)) OutOfRange
range_fault StartDate word = fault_unless (is_between first_date last_start (day_of word)) OutOfRange
range_fault HolidayDate word = fault_unless (is_between first_date last_holiday (day_of word)) OutOfRange

-- whether a word writes a price, which has neither of these faults
abbrev pub is_price : List ℕ → Bool
is_price word = is_none (form_fault price_form word) && is_none (range_fault price_form word)

-- the fault of the fields of a record of a kind
abbrev pub shape_fault : HeadingView → Record → RecordKind → Option RecordFault
shape_fault h r kind = fields_fault FieldCount form_fault range_fault (forms h r kind) r

-- and no position is 0
abbrev pub zero_step : Record → RecordKind → Option RecordFault
zero_step r Position = fault_unless (not (int_eq (number_in r 2) (pos 0))) OutOfRange
zero_step r _ = None

-- the steps on the record alone, where so many records came before
abbrev pub own_fault : ℕ → List Form → Record → RecordKind → Option RecordFault
own_fault place fs r kind =
    first_of
    (order_step place kind
    ∷ fields_fault FieldCount form_fault range_fault fs r
    ∷ zero_step r kind
    ∷ [])

-- step 7: each name is declared by a record before; HOUSE is declared from the start
abbrev pub house_name : List ℕ
house_name = codes "HOUSE"

abbrev pub is_market : RecordKind → Bool
is_market Market = true
is_market _ = false

abbrev pub is_declared : List Record → RecordKind → List ℕ → Bool
is_declared earlier kind name = (is_market kind && bytes_eq name house_name) || is_some (filed kind name [] earlier)

abbrev pub name_step : List Record → Record → ℕ × RecordKind → Option RecordFault
name_step earlier r reference = fault_unless (is_declared earlier reference.1 (field r reference.0)) Undeclared

-- step 8: collateral is of a security, and an expiry is of a future; an instrument without the field has none
abbrev pub is_future : Record → Bool
is_future r = bytes_eq (field r 2) (codes "future")

-- whether an instrument's record has an expiry
abbrev pub has_expiry : Record → Bool
has_expiry r = nat_lt 0 (natural_in r 7)

abbrev pub names_future : List Record → List ℕ → Bool
names_future earlier name = is_future (unwrap_or (filed Instrument name [] earlier) [])

abbrev pub security_step : List Record → Record → RecordKind → Option RecordFault
security_step earlier r Collateral = fault_unless (not (names_future earlier (field r 1))) CollateralOfFuture
security_step earlier r Instrument = fault_unless (is_future r || not (has_expiry r)) ExpiryOfSecurity
security_step earlier r _ = None

-- step 9: no earlier record of the kind has the same key
abbrev pub is_keyed : RecordKind → Bool
is_keyed kind = nat_lt 0 (key_length kind)

abbrev pub repeats : List Record → Record → RecordKind → Bool
repeats earlier r kind =
    (is_market kind && bytes_eq (field r 1) house_name)
    || (is_keyed kind && is_some (filed kind (key_of kind r).0 (key_of kind r).1 earlier))

-- step 10: how many records of a kind a case takes; holidays are counted by market, and tiers by instrument
abbrev pub group_of : RecordKind → Record → List ℕ
group_of Holiday r = field r 1
group_of Tier r = field r 1
group_of _ r = []

abbrev pub is_in_group : RecordKind → List ℕ → Record → Bool
is_in_group kind group r = is_kind kind r && bytes_eq group (group_of kind r)

abbrev pub count_in : RecordKind → List ℕ → List Record → ℕ
count_in kind group rs = length (filter (is_in_group kind group) rs)

abbrev pub is_below : ℕ → Option ℕ → Bool
is_below n None = true
is_below n (Some most) = nat_lt n most

abbrev pub has_room : List Record → Record → RecordKind → Bool
has_room earlier r kind = is_below (count_in kind (group_of kind r) earlier) (most_records kind)

-- step 11: at the end there is a scenario, a limit of each instrument, and a path of each scenario and instrument
abbrev pub has_limit : List Record → Record → Bool
has_limit rs i = is_some (filed Limit (field i 1) [] rs)

abbrev pub has_path : List Record → Record → Record → Bool
has_path rs k i = is_some (filed Path (field k 1) (field i 1) rs)

abbrev pub is_complete : List Record → Bool
is_complete rs =
    nat_lt 0 (length (of_kind Scenario rs))
    && list_all (has_limit rs) (of_kind Instrument rs)
    && list_all (λ k. list_all (has_path rs k) (of_kind Instrument rs)) (of_kind Scenario rs)

abbrev pub end_step : List Record → RecordKind → Option RecordFault
end_step earlier End = fault_unless (is_complete earlier) Incomplete
end_step earlier _ = None

-- the steps on the record among those before it
abbrev pub book_fault : List Record → Record → RecordKind → Option RecordFault
book_fault earlier r kind =
    first_of
    (first_of (map (name_step earlier r) (references kind))
    ∷ security_step earlier r kind
    ∷ fault_unless (not (repeats earlier r kind)) Repeated
    ∷ fault_unless (has_room earlier r kind) TooMany
    ∷ end_step earlier kind
    ∷ [])

-- the steps of a record of a known kind
abbrev pub later_fault : List Record → Record → Option RecordKind → Option RecordFault
later_fault earlier r None = None
later_fault earlier r (Some kind) =
    option_or (own_fault (length earlier) (forms (heading_of earlier) r kind) r kind) (book_fault earlier r kind)

-- the fault of a record, none of a sound one
abbrev pub fault_of : List Record → Record → Option RecordFault
fault_of earlier r =
    first_of
    (end_before earlier
    ∷ kind_step (length earlier) (heading_of earlier).version r
    ∷ later_fault earlier r (kind_of (heading_of earlier).version r)
    ∷ [])

-- how a case is judged, record by record
abbrev pub judge : Judge RecordFault
judge = record { fault_of = fault_of; has_ended = has_ended; not_begun = FirstNotCore; not_ended = EndMissing }

abbrev pub first_fault : List Record → Option (Faulty RecordFault)
first_fault rs = FirstFault.first_fault judge rs
