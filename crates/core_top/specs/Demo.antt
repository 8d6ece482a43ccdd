-- `demo N`: its words, what is due, and what the answers show of the demo case of N futures.
use Rattle.std.specs.Prelude.{◌≡◌, ◌≢◌, ℕ, ◌≤◌, List, [], ◌∷◌, codes, decimal, ℤ, pos, ◌*ℤ◌, unsigned_abs, nat_le, ◌&&◌, if◌then◌else◌, Option, Some, None}
use Rattle.std.specs.Option.{option_map}
use Rattle.std.specs.Str.{bytes_eq}
use Rattle.fractions.specs.Fraction.{Fraction, reduce}
use Rattle.core_rows.specs.Names.{Record}
use Rattle.core_rows.specs.Fields.{number_text, row_text, whole}
use Rattle.core_model.specs.declared.cert.Calendar.{Calendar}
use Rattle.core_model.specs.declared.cert.Weights.{Weights}
use Rattle.core_model.specs.declared.cert.Cert.TheVariants.{Closes}
use Rattle.core_model.specs.Shows.{ShowsLeast}
use Rattle.core_gen.specs.Closed.{demo_view}
use Rattle.core_margin.specs.declared.orders.Order.TheVariants.{LeastVariable}
use Rattle.core_margin.specs.Orders.{preference}
use Rattle.core_margin.specs.Outcomes.{MarginOutcome, Certificate, Common, Pivot, Spent, MarginComesTo}
use Rattle.core_cert.specs.Written.{floored}
use Rattle.core_top.specs.declared.answers.Reply.TheVariants as replies
use Rattle.core_top.specs.declared.demo.Words.{Words}
use Rattle.core_top.specs.Answers.{reply_text}
use Rattle.core_top.specs.Margin.{default_budget}
use Rattle.core_top.specs.Around.{Around, Answered}

-- how many futures the case has
pub record DemoWords : Type 0 where
  pub count : ℕ

-- a count is a whole number from 1 to 32
abbrev pub count_from : Option ℤ → Option ℕ
count_from (Some (pos n)) = if nat_le 1 n && nat_le n 32 then Some n else None
count_from _ = None

abbrev pub count_of : List ℕ → Option ℕ
count_of word = count_from (whole word)

abbrev pub words_with : ℕ → DemoWords
words_with n = record { count = n }

abbrev pub demo_words : List (List ℕ) → Option DemoWords
demo_words (verb ∷ count ∷ []) =
    if bytes_eq verb (codes "demo") then option_map words_with (count_of count) else None
demo_words _ = None

-- the words that the program makes of them
abbrev pub demo_words_view : Words → DemoWords
demo_words_view words = record { count = words.count }

-- the case comes to this under the rule of the least variable and with the budget where none is said
abbrev pub DemoComes : ℕ → MarginOutcome → Type 0
DemoComes n = MarginComesTo (demo_view n) (preference (demo_view n) LeastVariable) default_budget

-- the line of a margin, and its text
abbrev pub demo_fields : ℕ → Fraction → Record
demo_fields n q = codes "demo" ∷ decimal n ∷ number_text q.num ∷ decimal q.den ∷ []

abbrev pub demo_answer : ℕ → Fraction → List ℕ
demo_answer n q = row_text (demo_fields n q)

-- the loss floored at nought over its denominator, in lowest terms
abbrev pub margin_ratio : ℤ → ℤ → Fraction
margin_ratio loss den = reduce (floored loss) (unsigned_abs den)

-- What is due: the margin of the certificate that the case comes to, which shows that none is less; or the pivot, or
-- the common denominators of the certificate, that 128 bits do not keep; or that the budget is spent.
pub data DemoDue (words : DemoWords) : ℕ → List ℕ → Type 0 where
  closes : (calendar : Calendar) (loss : ℤ) (weights : Weights)
      → DemoComes words.count (Certificate (Closes calendar loss weights))
      → ShowsLeast (demo_view words.count) calendar loss weights
      → DemoDue words 0 (demo_answer words.count (margin_ratio loss calendar.den))
  wide_pivot : (k : ℕ) → DemoComes words.count (Pivot k)
      → DemoDue words 4 (reply_text (replies.WidePivot k))
  wide_common : DemoComes words.count Common → DemoDue words 4 (reply_text replies.WideCommon)
  spent : DemoComes words.count Spent → DemoDue words 5 (reply_text (replies.Spent default_budget))

-- a fraction, which is in lowest terms, is this numerator over this denominator
abbrev pub IsRatio : Fraction → ℤ → ℤ → Type 0
IsRatio q z d = q.num *ℤ d ≡ z *ℤ pos q.den

-- What an answer shows: a calendar of the demo case is admissible, no admissible calendar undercuts its worst loss, and
-- what is printed is this loss, floored at nought, in lowest terms; or 128 bits do not keep a pivot or the certificate;
-- or the run has not ended after the budget's pivots.
pub data DemoShows (words : DemoWords) : ℕ → List ℕ → Type 0 where
  least : (calendar : Calendar) (loss : ℤ) (weights : Weights) (margin : Fraction)
      → ShowsLeast (demo_view words.count) calendar loss weights
      → IsRatio margin (floored loss) calendar.den
      → DemoShows words 0 (demo_answer words.count margin)
  pivot_leaves : (k : ℕ) → DemoComes words.count (Pivot k)
      → DemoShows words 4 (reply_text (replies.WidePivot k))
  cert_leaves : DemoComes words.count Common → DemoShows words 4 (reply_text replies.WideCommon)
  not_ended : DemoComes words.count Spent
      → DemoShows words 5 (reply_text (replies.Spent default_budget))

-- What `demo` guarantees. Its case can be closed and is well-formed, so the status is never 1 or 3.
pub record DemoGuarantees (a : Around) (words : DemoWords) (status : ℕ) : Type 0 where
  pub shows : Answered a (DemoShows words) status
  pub closes : status ≢ 1
  pub stated : status ≢ 3
