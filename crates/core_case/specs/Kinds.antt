-- The kinds of records of a case, one row a kind: its word, the fields that it has after it, the names that it refers
-- to, its key, and how many records of it a case takes.
use Rattle.std.specs.Prelude.{ℕ, suc, ◌-◌, ◌^◌, List, [], ◌∷◌, codes, replicate, ℤ, pos, negsuc, Bool, true, nat_le, ◌&&◌, if◌then◌else◌, Option, Some, None, unsigned_abs}
use Rattle.std.specs.List.{find}
use Rattle.std.specs.Option.{unwrap_or}
use Rattle.core_rows.specs.Names.{Record, begins_with, field}
use Rattle.core_rows.specs.Fields.{whole}
use Rattle.core_case.specs.declared.kinds.RecordKind.{RecordKind}
use Rattle.core_case.specs.declared.kinds.RecordKind.TheVariants.{Core, House, Market, Holiday, Instrument, Limit, Tier, Pool, Member, Scenario, Path, Position, Collateral, Cash, End}
use Rattle.core_case.specs.declared.heading.Heading.{Heading}
use Rattle.core_case.specs.declared.forms.Form.{Form}
use Rattle.core_case.specs.declared.forms.Form.TheVariants.{Version, Name, InstrumentKind, Number, StartDate, HolidayDate}

-- the word of a kind
abbrev pub word_of : RecordKind → List ℕ
word_of Core = codes "core"
word_of House = codes "house"
word_of Market = codes "market"
word_of Holiday = codes "holiday"
word_of Instrument = codes "instr"
word_of Limit = codes "limit"
word_of Tier = codes "tier"
word_of Pool = codes "pool"
word_of Member = codes "member"
word_of Scenario = codes "scenario"
word_of Path = codes "path"
word_of Position = codes "position"
word_of Collateral = codes "collateral"
word_of Cash = codes "cash"
word_of End = codes "end"

abbrev pub kinds : List RecordKind
kinds =
    Core ∷ House ∷ Market ∷ Holiday ∷ Instrument ∷ Limit ∷ Tier ∷ Pool ∷ Member ∷ Scenario ∷ Path
    ∷ Position ∷ Collateral ∷ Cash ∷ End ∷ []

-- whether a record is of a kind
abbrev pub is_kind : RecordKind → Record → Bool
is_kind kind r = begins_with (word_of kind) r

-- whether a version of the format has a kind: tiers come with version 3
abbrev pub has_kind : ℕ → RecordKind → Bool
has_kind version Tier = nat_le 3 version
has_kind version _ = true

-- the kind of a record in a version
abbrev pub kind_of : ℕ → Record → Option RecordKind
kind_of version r = find (λ kind. has_kind version kind && is_kind kind r) kinds

-- the number in a field, 0 where it writes none
abbrev pub number_in : Record → ℕ → ℤ
number_in r n = unwrap_or (whole (field r n)) (pos 0)

abbrev pub natural_in : Record → ℕ → ℕ
natural_in r n = unsigned_abs (number_in r n)

-- the ranges
abbrev pub amount_form : Form
amount_form = Number (pos 0) (pos (10 ^ 9))

abbrev pub cost_form : Form
cost_form = Number (pos 0) (pos (10 ^ 12))

abbrev pub price_form : Form
price_form = Number (negsuc (10 ^ 12 - 1)) (pos (10 ^ 12))

-- What the first two records of a case state: the version, the last closing day and the last house day.
pub record HeadingView : Type 0 where
  pub version : ℕ
  pub horizon : ℕ
  pub last : ℕ

abbrev pub heading_view : Heading → HeadingView
heading_view h = record { version = h.version; horizon = h.horizon; last = h.last }

-- from version 2 on an instrument has an expiry, where 0 says that there is none
abbrev pub expiry_forms : HeadingView → List Form
expiry_forms h = if nat_le 2 h.version then Number (pos 0) (pos h.horizon) ∷ [] else []

-- the fields after the kind, of the record r in a case with this heading
abbrev pub forms : HeadingView → Record → RecordKind → List Form
forms h r Core = Version ∷ []
forms h r House = StartDate ∷ Number (pos 1) (pos 20) ∷ Number (number_in r 2) (pos 40) ∷ []
forms h r Market = Name ∷ []
forms h r Holiday = Name ∷ HolidayDate ∷ []
forms h r Instrument =
    Name ∷ InstrumentKind ∷ Name
    ∷ Number (pos 1) (pos (10 ^ 6)) ∷ Number (pos 1) (pos 20) ∷ Number (pos 0) (pos 10) ∷ expiry_forms h
forms h r Limit = Name ∷ replicate h.horizon amount_form
forms h r Tier = Name ∷ cost_form ∷ replicate h.horizon amount_form
forms h r Pool = Name ∷ amount_form ∷ []
forms h r Member = Name ∷ Name ∷ Number (pos 1) (pos (10 ^ 6)) ∷ []
forms h r Scenario = Name ∷ []
forms h r Path = Name ∷ Name ∷ replicate (suc h.last) price_form
forms h r Position = Name ∷ Number (negsuc (10 ^ 9 - 1)) (pos (10 ^ 9)) ∷ []
forms h r Collateral = Name ∷ Number (pos 1) (pos (10 ^ 9)) ∷ []
forms h r Cash = Number (pos 0) (pos h.last) ∷ Number (negsuc (10 ^ 15 - 1)) (pos (10 ^ 15)) ∷ []
forms h r End = []

-- A name that a record refers to: the place of its field, and the kind of the records that declare it. Markets,
-- instruments, pools and scenarios have names of their own.
abbrev pub references : RecordKind → List (ℕ × RecordKind)
references Holiday = (1, Market) ∷ []
references Instrument = (3, Market) ∷ []
references Limit = (1, Instrument) ∷ []
references Tier = (1, Instrument) ∷ []
references Member = (1, Pool) ∷ (2, Instrument) ∷ []
references Path = (1, Scenario) ∷ (2, Instrument) ∷ []
references Position = (1, Instrument) ∷ []
references Collateral = (1, Instrument) ∷ []
references Core = []
references House = []
references Market = []
references Pool = []
references Scenario = []
references Cash = []
references End = []

-- how many fields after the kind no second record of the kind may repeat
abbrev pub key_length : RecordKind → ℕ
key_length Market = 1
key_length Holiday = 2
key_length Instrument = 1
key_length Limit = 1
key_length Pool = 1
key_length Member = 2
key_length Scenario = 1
key_length Path = 2
key_length Position = 1
key_length Collateral = 1
key_length Cash = 1
key_length Tier = 0
key_length Core = 0
key_length House = 0
key_length End = 0

-- how many records of a kind a case takes: of holidays for each market, of tiers for each instrument
abbrev pub most_records : RecordKind → Option ℕ
most_records Market = Some 8
most_records Holiday = Some 400
most_records Instrument = Some 32
most_records Tier = Some 3
most_records Pool = Some 16
most_records Scenario = Some 64
most_records Core = None
most_records House = None
most_records Limit = None
most_records Member = None
most_records Path = None
most_records Position = None
most_records Collateral = None
most_records Cash = None
most_records End = None
