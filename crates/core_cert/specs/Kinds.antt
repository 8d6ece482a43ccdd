-- The kinds of records of a certificate, one row a kind: its word, the fields that it has after it, and the kinds that
-- may stand after it.
use Rattle.std.specs.Prelude.{ℕ, List, [], ◌∷◌, ◌++◌, codes, Bool, true, false, if◌then◌else◌, Option}
use Rattle.std.specs.List.{find}
use Rattle.core_rows.specs.Names.{Record, begins_with}
use Rattle.core_book.specs.View.{CaseView, tiers, is_tiered}
use Rattle.core_cert.specs.declared.kinds.RecordKind.{RecordKind}
use Rattle.core_cert.specs.declared.kinds.RecordKind.TheVariants.{Cert, Closes, Cannot, Amount, Loss, Margin, Weights, Scenario, Limit, Pool, Full, End}
use Rattle.core_cert.specs.declared.forms.Form.{Form}
use Rattle.core_cert.specs.declared.forms.Form.TheVariants.{Version, Name, SideWord, Number, Numerator, NotZero}

abbrev pub word_of : RecordKind → List ℕ
word_of Cert = codes "cert"
word_of Closes = codes "closes"
word_of Cannot = codes "cannot"
word_of Amount = codes "amount"
word_of Loss = codes "loss"
word_of Margin = codes "margin"
word_of Weights = codes "weights"
word_of Scenario = codes "scenario"
word_of Limit = codes "limit"
word_of Pool = codes "pool"
word_of Full = codes "full"
word_of End = codes "end"

abbrev pub kinds : List RecordKind
kinds = Cert ∷ Closes ∷ Cannot ∷ Amount ∷ Loss ∷ Margin ∷ Weights ∷ Scenario ∷ Limit ∷ Pool ∷ Full ∷ End ∷ []

-- whether a record is of a kind, and its kind
abbrev pub is_kind : RecordKind → Record → Bool
is_kind kind = begins_with (word_of kind)

abbrev pub kind_of : Record → Option RecordKind
kind_of r = find (λ kind. is_kind kind r) kinds

-- The kinds that may stand after a kind, in a calendar's certificate and in one that refuses. After the weights a
-- calendar's may have scenarios, and one that refuses may not.
abbrev pub after_weights : Bool → List RecordKind
after_weights true = Limit ∷ Pool ∷ Full ∷ End ∷ []
after_weights false = Scenario ∷ Limit ∷ Pool ∷ Full ∷ End ∷ []

abbrev pub followers : Bool → RecordKind → List RecordKind
followers refusing Cert = Closes ∷ Cannot ∷ []
followers refusing Closes = Amount ∷ Loss ∷ []
followers refusing Cannot = Weights ∷ []
followers refusing Amount = Amount ∷ Loss ∷ []
followers refusing Loss = Margin ∷ []
followers refusing Margin = Weights ∷ []
followers refusing Weights = after_weights refusing
followers refusing Scenario = Scenario ∷ Limit ∷ Pool ∷ Full ∷ End ∷ []
followers refusing Limit = Limit ∷ Pool ∷ Full ∷ End ∷ []
followers refusing Pool = Pool ∷ Full ∷ End ∷ []
followers refusing Full = Full ∷ End ∷ []
followers refusing End = []

-- the field of a tier, which version 1 has not
abbrev pub tier_forms : CaseView → List Form
tier_forms c = if is_tiered c then Number 1 (tiers c) ∷ [] else []

-- the fields after the kind, in a certificate of a case
abbrev pub forms : CaseView → RecordKind → List Form
forms c Cert = Version (is_tiered c) ∷ []
forms c Closes = Numerator ∷ []
forms c Cannot = []
forms c Amount = Name ∷ SideWord ∷ Number 1 c.horizon ∷ (tier_forms c ++ (NotZero ∷ []))
forms c Loss = Numerator ∷ []
forms c Margin = Numerator ∷ []
forms c Weights = Numerator ∷ []
forms c Scenario = Name ∷ Number 0 c.last ∷ NotZero ∷ []
forms c Limit = Name ∷ Number 1 c.horizon ∷ (tier_forms c ++ (NotZero ∷ []))
forms c Pool = Name ∷ Number 1 c.horizon ∷ NotZero ∷ []
forms c Full = Name ∷ SideWord ∷ NotZero ∷ []
forms c End = []
