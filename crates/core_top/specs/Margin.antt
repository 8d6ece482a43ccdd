-- `margin CASE`, `margin CASE BUDGET`, `margin CASE BUDGET RULE`: the words, what is due, and what the answers show.
use Rattle.std.specs.Prelude.{◌≡◌, ◌≢◌, ◌⊎◌, ℕ, ◌^◌, ◌≤◌, List, [], ◌∷◌, length, codes, ℤ, pos, ◌&&◌, if◌then◌else◌, Option, Some, None, Ok}
use Rattle.std.specs.Option.{option_map, option_zip}
use Rattle.std.specs.Str.{bytes_eq}
use Rattle.core_rows.specs.Fields.{whole}
use Rattle.core_book.specs.View.{CaseView}
use Rattle.core_model.specs.declared.cert.Calendar.{Calendar}
use Rattle.core_model.specs.declared.cert.Weights.{Weights}
use Rattle.core_model.specs.declared.cert.Cert.{Cert}
use Rattle.core_model.specs.declared.cert.Cert.TheVariants.{Closes, Cannot}
use Rattle.core_model.specs.Fits.{Fits, IsPlainlyRefusing}
use Rattle.core_model.specs.Shows.{ShowsLeast, ShowsNone}
use Rattle.core_model.specs.Check.{IsValid, verdict, Failed}
use Rattle.core_lp.specs.Ranks.{variable_count, as_numbered}
use Rattle.core_margin.specs.declared.orders.Order.{Order}
use Rattle.core_margin.specs.declared.orders.Order.TheVariants.{LeastVariable, Kinds}
use Rattle.core_margin.specs.Orders.{preference}
use Rattle.core_margin.specs.Outcomes.{MarginOutcome, Certificate, Common, Pivot, Spent, MarginComesTo}
use Rattle.core_cert.specs.Written.{cert_text}
use Rattle.core_cert.specs.Stated.{cert_of_bytes}
use Rattle.core_top.specs.declared.answers.File.TheVariants as files
use Rattle.core_top.specs.declared.answers.Reply.TheVariants as replies
use Rattle.core_top.specs.declared.margin.Words.{Words}
use Rattle.core_top.specs.Words.{is_name}
use Rattle.core_top.specs.Orders.{rule_of}
use Rattle.core_top.specs.Answers.{reply_text, cert_status}
use Rattle.core_top.specs.Files.{file_limit, HasCase, AtCase}
use Rattle.core_top.specs.Around.{Around, told, ShelfRose, Answered}

-- the name of the case, the greatest count of pivots, and the rule
pub record MarginWords : Type 0 where
  pub case : List ℕ
  pub budget : ℕ
  pub rule : Order

-- a budget is a whole number that is not negative
abbrev pub budget_from : Option ℤ → Option ℕ
budget_from (Some (pos n)) = Some n
budget_from _ = None

abbrev pub budget_of : List ℕ → Option ℕ
budget_of word = budget_from (whole word)

-- the budget where none is said
abbrev pub default_budget : ℕ
default_budget = 100000

-- the budget and the rule of the words after the name: that budget and the least variable where they are not said
abbrev pub limits_of : List (List ℕ) → Option (ℕ × Order)
limits_of [] = Some (default_budget, LeastVariable)
limits_of (budget ∷ []) = option_map (λ b. (b, LeastVariable)) (budget_of budget)
limits_of (budget ∷ rule ∷ []) = option_zip (budget_of budget) (rule_of rule)
limits_of _ = None

abbrev pub words_with : List ℕ → ℕ × Order → MarginWords
words_with case limits = record { case = case; budget = limits.0; rule = limits.1 }

abbrev pub margin_words : List (List ℕ) → Option MarginWords
margin_words (verb ∷ case ∷ rest) =
    if bytes_eq verb (codes "margin") && is_name case
    then option_map (words_with case) (limits_of rest) else None
margin_words _ = None

-- the words that the program makes of them
abbrev pub margin_words_view : Words → MarginWords
margin_words_view words = record {
  case = words.case.now;
  budget = words.budget;
  rule = words.order;
}

-- a case comes to this under the rule and with the budget of the words
abbrev pub Comes : MarginWords → CaseView → MarginOutcome → Type 0
Comes words c outcome = MarginComesTo c (preference c words.rule) words.budget outcome

-- What is due to a case: the certificate that it comes to, whose numbers 128 bits keep; or the pivot, or the common
-- denominators of the certificate, that they do not; or that the budget is spent.
pub data MarginOf (words : MarginWords) (c : CaseView) : ℕ → List ℕ → Type 0 where
  certified : (x : Cert) → Comes words c (Certificate x) → Fits c x → IsPlainlyRefusing x
      → MarginOf words c (cert_status x) (cert_text c x)
  wide_pivot : (k : ℕ) → Comes words c (Pivot k)
      → MarginOf words c 4 (reply_text (replies.WidePivot k))
  wide_common : Comes words c Common → MarginOf words c 4 (reply_text replies.WideCommon)
  spent : Comes words c Spent → MarginOf words c 5 (reply_text (replies.Spent words.budget))

abbrev pub MarginDue : MarginWords → (List ℕ → Option (List ℕ)) → (List ℕ → Type 0)
    → ℕ → List ℕ → Type 0
MarginDue words told rose = AtCase told rose words.case (MarginOf words)

-- The text of a certificate is no longer than a file may be and is read as this certificate, and every condition of the
-- check holds. So `check` of the case and this text answers neither 9 nor 10.
pub record IsReadBack (c : CaseView) (x : Cert) : Type 0 where
  pub fits : length (cert_text c x) ≤ file_limit
  pub reads : cert_of_bytes c (cert_text c x) ≡ Ok x
  pub valid : IsValid c x
  pub never_refused : (condition place : ℕ) → verdict c x ≡ Failed condition place → ⊥

-- What an answer shows of a case that is read: the text is a certificate of an admissible calendar whose worst loss no
-- admissible calendar undercuts, with its loss and weights that show it; or of weights showing that no calendar is
-- admissible; or 128 bits do not keep a pivot or the certificate; or the run has not ended after the budget's pivots;
-- or the count of the case's name rose.
pub data MarginShows (rose : List ℕ → Type 0) (words : MarginWords) (c : CaseView)
    : ℕ → List ℕ → Type 0 where
  least : (calendar : Calendar) (loss : ℤ) (weights : Weights) → ShowsLeast c calendar loss weights
      → IsReadBack c (Closes calendar loss weights)
      → MarginShows rose words c 0 (cert_text c (Closes calendar loss weights))
  none : (weights : Weights) → ShowsNone c weights → IsReadBack c (Cannot weights)
      → MarginShows rose words c 1 (cert_text c (Cannot weights))
  pivot_leaves : (k : ℕ) → Comes words c (Pivot k)
      → MarginShows rose words c 4 (reply_text (replies.WidePivot k))
  cert_leaves : Comes words c Common → MarginShows rose words c 4 (reply_text replies.WideCommon)
  not_ended : Comes words c Spent
      → MarginShows rose words c 5 (reply_text (replies.Spent words.budget))
  case_unread : rose words.case → MarginShows rose words c 6 (reply_text (replies.Unread files.Case))

-- The main sentence.
abbrev pub MarginGuarantees : Around → MarginWords → ℕ → Type 0
MarginGuarantees a words status = (c : CaseView) → HasCase (told a) words.case c
    → Answered a (MarginShows (ShelfRose a) words c) status

-- the rule of the least variable, also as the order of the kinds in which the variables are numbered
abbrev pub GoesByNumber : Order → Type 0
GoesByNumber rule = (rule ≡ LeastVariable) ⊎ (rule ≡ Kinds as_numbered)

-- Under it a budget of as many pivots as there are sets of the programme's variables is never spent.
abbrev pub IsNeverSpent : Type 0
IsNeverSpent =
    (c : CaseView) (words : MarginWords) → GoesByNumber words.rule
    → 2 ^ variable_count c ≤ words.budget → ¬ (Comes words c Spent)

-- So with such a budget the answer is never 5.
abbrev pub MarginServes : Around → MarginWords → ℕ → Type 0
MarginServes a words status = (c : CaseView) → HasCase (told a) words.case c
    → GoesByNumber words.rule → 2 ^ variable_count c ≤ words.budget → status ≢ 5
