-- What the top call guarantees.
use Rattle.std.specs.Prelude.{◌≡◌, ◌↔◌, ◌⊎◌, ℕ, List, [], ◌∷◌, codes, Option, Some, None}
use Rattle.core_io.specs.States.{ShelfState, KeepsBytes, KeepsCounts, KeepsCount, Writes}
use Rattle.core_top.specs.Around.{Around, told, ShelfRose, SinkRose, Between, Answered}
use Rattle.core_top.specs.Margin.{MarginWords, MarginGuarantees, MarginServes}
use Rattle.core_top.specs.Judged.{CertWords}
use Rattle.core_top.specs.Check.{CheckGuarantees}
use Rattle.core_top.specs.Report.{ReportGuarantees}
use Rattle.core_top.specs.Demo.{DemoWords, DemoGuarantees}
use Rattle.core_top.specs.Commands.{Command, Margin, Check, Report, Demo, command_of, names_read, IsDue, AllTold, NoneRose, OneRose, no_fault}

-- The answer is one that is due, and so exact at each file whose bytes are told, whatever is told of another.
abbrev pub IsExact : Around → Option Command → ℕ → Type 0
IsExact a command status = Answered a (IsDue command (told a) (ShelfRose a)) status

pub record IsAnswered (a : Around) (command : Option Command) (status : ℕ) : Type 0 where
  pub text : List ℕ
  pub due : IsDue command (told a) no_fault status text
  pub writes : Writes a.sink_before a.sink_after text

-- Where no count of a name that is read rose, nor the sink's, the answer is the one that is due by the words and the
-- bytes alone, or memory ran out.
abbrev pub IsComplete : Around → Option Command → ℕ → Type 0
IsComplete a command status = NoneRose (ShelfRose a) (names_read command) → (SinkRose a → ⊥)
    → (status ≡ 8) ⊎ IsAnswered a command status

-- What a status says by itself, whatever the shelf tells.
pub record HasCauses (a : Around) (command : Option Command) (status : ℕ) : Type 0 where
  pub usage : status ≡ 2 → command ≡ None
  pub read_fault : status ≡ 6 → OneRose (ShelfRose a) (names_read command)
  pub sink_fault : status ≡ 7 → SinkRose a
  pub memory : status ≡ 8 → a.sink_after ≡ a.sink_before

-- The contract of the top call, a sentence a field.
pub record Guarantees (a : Around) (words : List (List ℕ)) (status : ℕ) : Type 0 where
  pub margin : (asked : MarginWords) → command_of words ≡ Some (Margin asked)
      → MarginGuarantees a asked status
  pub serves : (asked : MarginWords) → command_of words ≡ Some (Margin asked)
      → MarginServes a asked status
  pub check : (asked : CertWords) → command_of words ≡ Some (Check asked)
      → CheckGuarantees a asked status
  pub report : (asked : CertWords) → command_of words ≡ Some (Report asked)
      → ReportGuarantees a asked status
  pub demo : (asked : DemoWords) → command_of words ≡ Some (Demo asked)
      → DemoGuarantees a asked status
  pub exact : IsExact a (command_of words) status
  pub complete : IsComplete a (command_of words) status
  pub causes : HasCauses a (command_of words) status
  pub untouched : names_read (command_of words) ≡ [] → a.shelf_after ≡ a.shelf_before
  pub kept : KeepsBytes a.shelf_before a.shelf_after
  pub shelf_counts : KeepsCounts a.shelf_before a.shelf_after
  pub sink_count : KeepsCount a.sink_before a.sink_after

-- Where the bytes of each name that is read are told and no count rose, one status and one text alone are due.
abbrev pub OneAnswerIsDue : Type 0
OneAnswerIsDue =
    (words : List (List ℕ)) (told : List ℕ → Option (List ℕ)) (status status' : ℕ)
    (text text' : List ℕ) → AllTold told (names_read (command_of words))
    → IsDue (command_of words) told no_fault status text
    → IsDue (command_of words) told no_fault status' text'
    → (status ≡ status') × (text ≡ text')

-- the words of a call with a budget and a rule
abbrev pub call_with : List ℕ → List ℕ → List ℕ → List (List ℕ)
call_with case budget rule = codes "margin" ∷ case ∷ budget ∷ rule ∷ []

-- To `margin CASE BUDGET CFBLPS` exactly that is due which is due to `margin CASE BUDGET 0`.
abbrev pub HouseOrderIsDue : Type 0
HouseOrderIsDue =
    (case budget : List ℕ) (before after : ShelfState) (status : ℕ) (text : List ℕ)
    → (Between before after (IsDue (command_of (call_with case budget (codes "CFBLPS"))))
    status text
    ↔ Between before after (IsDue (command_of (call_with case budget (codes "0")))) status text)
