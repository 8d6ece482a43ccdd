-- The fault of a record of a list of edits. It is judged by the case and by the sound records before it, in the order
-- of the steps below, and the first step that fails gives the fault.
use Rattle.std.specs.Prelude.{ℕ, zero, suc, ◌-◌, List, [], ◌∷◌, length, codes, ℤ, pos, int_le, int_lt, unsigned_abs, Bool, true, false, not, ◌&&◌, ◌||◌, nat_lt, nat_le, if◌then◌else◌, Option, Some, None, is_some}
use Rattle.std.specs.Str.{bytes_eq}
use Rattle.core_sums.specs.Places.{row_at}
use Rattle.core_rows.specs.Names.{Record}
use Rattle.core_rows.specs.FirstFault.{Faulty, Judge}
use Rattle.core_rows.specs.FirstFault as FirstFault
use Rattle.core_rows.specs.Steps.{fault_unless, fields_fault, first_of}
use Rattle.core_rows.specs.Fields.{whole, name_of}
use Rattle.core_case.specs.Kinds.{number_in, natural_in}
use Rattle.core_case.specs.Faults.{is_between}
use Rattle.core_book.specs.View.{CaseView, line, tiers_of}
use Rattle.core_book.specs.declared.parts.Side.{Side}
use Rattle.core_book.specs.declared.parts.Side.TheVariants as side
use Rattle.core_edits.specs.declared.kinds.RecordKind.{RecordKind}
use Rattle.core_edits.specs.declared.kinds.RecordKind.TheVariants.{Edits, Limit, Cap, Position, Collateral, Cash, End}
use Rattle.core_edits.specs.declared.forms.Form.{Form}
use Rattle.core_edits.specs.declared.forms.Form.TheVariants.{Version, Name, Number, NotZero}
use Rattle.core_edits.specs.declared.faults.RecordFault.{RecordFault}
use Rattle.core_edits.specs.declared.faults.RecordFault.TheVariants.{FirstNotEdits, OtherVersion, UnknownKind, OutOfOrder, FieldCount, NotAName, NotANumber, OutOfRange, NotInCase, TooMany, NoSuchPart, AfterEnd, EndMissing, OtherSign}
use Rattle.core_edits.specs.Kinds.{is_kind, kind_of, forms}
use Rattle.core_edits.specs.Stated.{instrument_named, pool_named, line_named, edits_of}

-- whether the last of some records is `end`
abbrev pub has_ended : List Record → Bool
has_ended rs = is_kind (row_at rs (length rs - 1)) End

-- step 2: the first record is `edits`, and each has a kind
abbrev pub kind_step : ℕ → Record → Option RecordFault
kind_step zero r = fault_unless (is_kind r Edits) FirstNotEdits
kind_step (suc n) r = fault_unless (is_some (kind_of r)) UnknownKind

-- step 3: no later record is `edits`
abbrev pub order_step : ℕ → RecordKind → Option RecordFault
order_step (suc n) Edits = Some OutOfOrder
order_step _ _ = None

-- Step 4: the number of fields, then step 5: their forms, from left to right. A name is always the first field after
-- the kind, and only `edits` has a version.
abbrev pub form_fault : Form → List ℕ → Option RecordFault
form_fault Version word = fault_unless (bytes_eq word (codes "1")) OtherVersion
form_fault Name word = fault_unless (is_some (name_of word)) NotAName
form_fault (Number low high) word = fault_unless (is_some (whole word)) NotANumber
form_fault (NotZero most) word = fault_unless (is_some (whole word)) NotANumber

-- step 6: the ranges of the numbers, from left to right
abbrev pub is_size : ℤ → Option ℤ → Bool
is_size most None = true
is_size most (Some z) = int_lt (pos 0) (pos (unsigned_abs z)) && int_le (pos (unsigned_abs z)) most

abbrev pub range_fault : Form → List ℕ → Option RecordFault
range_fault Version word = None
range_fault Name word = None
range_fault (Number low high) word = fault_unless (is_between low high (whole word)) OutOfRange
range_fault (NotZero most) word = fault_unless (is_size most (whole word)) OutOfRange

abbrev pub shape_fault : CaseView → RecordKind → Record → Option RecordFault
shape_fault c kind r = fields_fault FieldCount form_fault range_fault (forms c kind) r

-- step 7: the case has the name
abbrev pub has_instrument : CaseView → Record → Bool
has_instrument c r = nat_lt (instrument_named c r) (length c.instruments)

abbrev pub name_step : CaseView → RecordKind → Record → Option RecordFault
name_step c Limit r = fault_unless (has_instrument c r) NotInCase
name_step c Cap r = fault_unless (nat_lt (pool_named c r) (length c.pools)) NotInCase
name_step c Position r = fault_unless (has_instrument c r) NotInCase
name_step c Collateral r = fault_unless (has_instrument c r) NotInCase
name_step c Edits r = None
name_step c Cash r = None
name_step c End r = None

-- step 8: the instrument has the tier, or a line of the side
abbrev pub has_line : CaseView → Side → Record → Bool
has_line c s r = nat_lt (line_named c s r) (length c.lines)

abbrev pub part_step : CaseView → RecordKind → Record → Option RecordFault
part_step c Limit r = fault_unless (nat_le (natural_in r 3) (tiers_of c (instrument_named c r))) NoSuchPart
part_step c Position r = fault_unless (has_line c side.Position r) NoSuchPart
part_step c Collateral r = fault_unless (has_line c side.Collateral r) NoSuchPart
part_step c Edits r = None
part_step c Cap r = None
part_step c Cash r = None
part_step c End r = None

-- step 9: a position keeps its sign
abbrev pub same_sign : ℤ → ℤ → Bool
same_sign x y = if int_lt (pos 0) x then int_lt (pos 0) y else not (int_lt (pos 0) y)

abbrev pub sign_step : CaseView → RecordKind → Record → Option RecordFault
sign_step c Position r =
    fault_unless (same_sign (number_in r 2) (line c (line_named c side.Position r)).sign) OtherSign
sign_step c _ r = None

-- step 10: fewer than the most edits stand before an edit
abbrev pub most_edits : ℕ
most_edits = 1000

abbrev pub is_edit : RecordKind → Bool
is_edit Edits = false
is_edit End = false
is_edit _ = true

abbrev pub room_step : ℕ → RecordKind → Option RecordFault
room_step count kind = fault_unless (not (is_edit kind) || nat_lt count most_edits) TooMany

-- the steps on the record by the case, where so many edits came before
abbrev pub case_fault : CaseView → ℕ → RecordKind → Record → Option RecordFault
case_fault c count kind r =
    first_of (name_step c kind r ∷ part_step c kind r ∷ sign_step c kind r ∷ room_step count kind ∷ [])

-- the steps of a record of a known kind, where so many records came before
abbrev pub later_fault : CaseView → ℕ → ℕ → Record → Option RecordKind → Option RecordFault
later_fault c place count r None = None
later_fault c place count r (Some kind) =
    first_of (order_step place kind ∷ shape_fault c kind r ∷ case_fault c count kind r ∷ [])

-- The fault of a record, none of a sound one. Before all other steps, which is step 1, no record stands after `end`.
abbrev pub fault_of : CaseView → List Record → Record → Option RecordFault
fault_of c earlier r =
    first_of
    (fault_unless (not (has_ended earlier)) AfterEnd
    ∷ kind_step (length earlier) r
    ∷ later_fault c (length earlier) (length (edits_of c earlier)) r (kind_of r)
    ∷ [])

-- how a list of edits of a case is judged, record by record
abbrev pub judge : CaseView → Judge RecordFault
judge c = record { fault_of = fault_of c; has_ended = has_ended; not_begun = FirstNotEdits; not_ended = EndMissing }

abbrev pub first_fault : CaseView → List Record → Option (Faulty RecordFault)
first_fault c rs = FirstFault.first_fault (judge c) rs
