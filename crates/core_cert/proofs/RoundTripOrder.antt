-- Which kinds of records may stand before the records of a kind.
use Rattle.std.proofs.Common.{◌≡◌, ◌∷◌, ◌∙◌, [], ℕ, List, Bool, true, false, Option, Some, refl, ap}
use Rattle.std.specs.Prelude.{not, ◌&&◌}
use Rattle.std.specs.List.{find, list_any}
use Rattle.std.specs.Str.{bytes_eq}
use Rattle.core_rows.specs.Names.{Record, field}
use Rattle.core_cert.specs.declared.kinds.RecordKind.{RecordKind}
use Rattle.core_cert.specs.declared.kinds.RecordKind.TheVariants.{Cert, Closes, Cannot, Amount, Loss, Margin, Weights, Scenario, Limit, Pool, Full, End}
use Rattle.core_cert.specs.Kinds.{kind_of, is_kind, followers, word_of}

-- a record that begins with the word of a kind is of this kind
abbrev pub HasKind : RecordKind → Record → Type 0
HasKind kind r = field r 0 ≡ word_of kind

-- whether two kinds are one
abbrev pub same_kind : RecordKind → RecordKind → Bool
same_kind kind other = bytes_eq (word_of other) (word_of kind)

pub kind-is : (kind other : RecordKind) (r : Record) → HasKind other r → is_kind kind r ≡ same_kind kind other
kind-is kind other r is = ap (λ w. bytes_eq w (word_of kind)) is

-- its kind is found
abbrev kind_by : List ℕ → Option RecordKind
kind_by word = find (λ kind. bytes_eq word (word_of kind)) (Cert ∷ Closes ∷ Cannot ∷ Amount ∷ Loss ∷ Margin ∷ Weights ∷ Scenario ∷ Limit ∷ Pool ∷ Full ∷ End ∷ [])

kind_by-word : (kind : RecordKind) → kind_by (word_of kind) ≡ Some kind
kind_by-word Cert = refl
kind_by-word Closes = refl
kind_by-word Cannot = refl
kind_by-word Amount = refl
kind_by-word Loss = refl
kind_by-word Margin = refl
kind_by-word Weights = refl
kind_by-word Scenario = refl
kind_by-word Limit = refl
kind_by-word Pool = refl
kind_by-word Full = refl
kind_by-word End = refl

pub kind_of-word : (kind : RecordKind) (r : Record) → HasKind kind r → kind_of r ≡ Some kind
kind_of-word kind r is = ap kind_by is ∙ kind_by-word kind

-- whether a kind may stand after another in a certificate of a form
abbrev pub can_follow : Bool → RecordKind → RecordKind → Bool
can_follow refusing kind next = list_any (λ x. same_kind x next) (followers refusing kind)

-- what may stand before the records of one kind may stand before the next, and is not of the next
abbrev pub Passes : Bool → RecordKind → RecordKind → Type 0
Passes refusing kind next = (before : RecordKind) → can_follow refusing before kind ≡ true → (can_follow refusing before next && not (same_kind next before)) ≡ true

pub amount_loss : Passes false Amount Loss
amount_loss Closes h = refl
amount_loss Amount h = refl
amount_loss _ h = h

pub scenario_limit : Passes false Scenario Limit
scenario_limit Weights h = refl
scenario_limit Scenario h = refl
scenario_limit _ h = h

pub limit_pool : (refusing : Bool) → Passes refusing Limit Pool
limit_pool true Weights h = refl
limit_pool false Weights h = refl
limit_pool _ Scenario h = refl
limit_pool _ Limit h = refl
limit_pool _ _ h = h

pub pool_full : (refusing : Bool) → Passes refusing Pool Full
pool_full true Weights h = refl
pool_full false Weights h = refl
pool_full _ Scenario h = refl
pool_full _ Limit h = refl
pool_full _ Pool h = refl
pool_full _ _ h = h

pub full_end : (refusing : Bool) → Passes refusing Full End
full_end true Weights h = refl
full_end false Weights h = refl
full_end _ Scenario h = refl
full_end _ Limit h = refl
full_end _ Pool h = refl
full_end _ Full h = refl
full_end _ _ h = h
