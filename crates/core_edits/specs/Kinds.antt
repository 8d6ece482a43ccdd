-- The kinds of records of a list of edits: the word of each, and the fields after it.
use Rattle.std.specs.Prelude.{ℕ, List, [], ◌∷◌, codes, pos, Bool, Option}
use Rattle.std.specs.List.{find}
use Rattle.std.specs.Str.{bytes_eq}
use Rattle.core_rows.specs.Names.{Record, field}
use Rattle.core_book.specs.Limits.{most_tiers, most_amount, least_cash, most_cash}
use Rattle.core_book.specs.View.{CaseView}
use Rattle.core_edits.specs.declared.kinds.RecordKind.{RecordKind}
use Rattle.core_edits.specs.declared.kinds.RecordKind.TheVariants.{Edits, Limit, Cap, Position, Collateral, Cash, End}
use Rattle.core_edits.specs.declared.forms.Form.{Form}
use Rattle.core_edits.specs.declared.forms.Form.TheVariants.{Version, Name, Number, NotZero}

-- the word of a kind
abbrev pub word_of : RecordKind → List ℕ
word_of Edits = codes "edits"
word_of Limit = codes "limit"
word_of Cap = codes "cap"
word_of Position = codes "position"
word_of Collateral = codes "collateral"
word_of Cash = codes "cash"
word_of End = codes "end"

abbrev pub kinds : List RecordKind
kinds = Edits ∷ Limit ∷ Cap ∷ Position ∷ Collateral ∷ Cash ∷ End ∷ []

-- whether a record is of a kind
abbrev pub is_kind : Record → RecordKind → Bool
is_kind r kind = bytes_eq (word_of kind) (field r 0)

-- the kind of a record
abbrev pub kind_of : Record → Option RecordKind
kind_of r = find (is_kind r) kinds

-- the fields after the kind, for a case
abbrev pub forms : CaseView → RecordKind → List Form
forms c Edits = Version ∷ []
forms c Limit = Name ∷ Number (pos 1) (pos c.horizon) ∷ Number (pos 1) (pos most_tiers) ∷ Number (pos 0) most_amount ∷ []
forms c Cap = Name ∷ Number (pos 0) most_amount ∷ []
forms c Position = Name ∷ NotZero most_amount ∷ []
forms c Collateral = Name ∷ Number (pos 1) most_amount ∷ []
forms c Cash = Number (pos 0) (pos c.last) ∷ Number least_cash most_cash ∷ []
forms c End = []
