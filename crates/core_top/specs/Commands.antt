-- The commands, a line each.
use Rattle.std.specs.Prelude.{◌≡◌, ◌⊎◌, ℕ, List, [], ◌∷◌, ⊤, Option, Some, None, IsSome}
use Rattle.std.specs.Option.{option_map, option_or}
use Rattle.core_top.specs.declared.answers.Reply.TheVariants.{Usage}
use Rattle.core_top.specs.Answers.{reply_text}
use Rattle.core_top.specs.Margin.{MarginWords, margin_words, MarginDue}
use Rattle.core_top.specs.Judged.{CertWords}
use Rattle.core_top.specs.Check.{check_words, CheckDue}
use Rattle.core_top.specs.Report.{report_words, ReportDue}
use Rattle.core_top.specs.Demo.{DemoWords, demo_words, DemoDue}

pub data Command : Type 0 where
  Margin : MarginWords → Command
  Check : CertWords → Command
  Report : CertWords → Command
  Demo : DemoWords → Command

-- the command that the words are
abbrev pub command_of : List (List ℕ) → Option Command
command_of words =
    option_or (option_map Margin (margin_words words))
    (option_or (option_map Check (check_words words))
    (option_or (option_map Report (report_words words))
    (option_map Demo (demo_words words))))

-- the names of the files that a command reads
abbrev pub names_read : Option Command → List (List ℕ)
names_read None = []
names_read (Some (Margin words)) = words.case ∷ []
names_read (Some (Check words)) = words.case ∷ words.cert ∷ []
names_read (Some (Report words)) = words.case ∷ words.cert ∷ []
names_read (Some (Demo words)) = []

-- The answer that is due to the words: a status and a text. `rose name` says that the shelf's count of faults of that
-- name rose in the call. Where bytes are told they decide, and where none are it says what may be answered.
abbrev pub IsDue : Option Command → (List ℕ → Option (List ℕ)) → (List ℕ → Type 0)
    → ℕ → List ℕ → Type 0
IsDue None told rose status text = (status ≡ 2) × (text ≡ reply_text Usage)
IsDue (Some (Margin words)) told rose status text = MarginDue words told rose status text
IsDue (Some (Check words)) told rose status text = CheckDue words told rose status text
IsDue (Some (Report words)) told rose status text = ReportDue words told rose status text
IsDue (Some (Demo words)) told rose status text = DemoDue words status text

-- all names of a list are told, the count of none of them rose, or that of one did
abbrev pub AllTold : (List ℕ → Option (List ℕ)) → List (List ℕ) → Type 0
AllTold told [] = ⊤
AllTold told (name ∷ names) = IsSome (told name) × AllTold told names

abbrev pub NoneRose : (List ℕ → Type 0) → List (List ℕ) → Type 0
NoneRose rose [] = ⊤
NoneRose rose (name ∷ names) = (rose name → ⊥) × NoneRose rose names

abbrev pub OneRose : (List ℕ → Type 0) → List (List ℕ) → Type 0
OneRose rose [] = ⊥
OneRose rose (name ∷ names) = rose name ⊎ OneRose rose names

-- no name has a fault
abbrev pub no_fault : List ℕ → Type 0
no_fault name = ⊥
