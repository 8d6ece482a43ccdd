-- The order of the kinds in which the variables are numbered, and the rule of the least variable.
use Rattle.std.proofs.Common.{◌≡◌, refl, subst, ℕ, ◌+◌, ◌^◌, ◌≤◌, inl, inr, List, arith, Bool, true, false, if◌then◌else◌, Option, Some, None}
use Rattle.std.specs.Option.{option_or, option_map, option_zip}
use Rattle.std.proofs.lemmas.List.{length-map}
use Rattle.core_sums.specs.Widths.{most}
use Rattle.core_io.specs.States.{ReadFailed}
use Rattle.core_book.specs.View.{CaseView}
use Rattle.core_case.specs.Stated.{case_of_bytes}
use Rattle.core_rules.specs.Candidates.{lower_variable}
use Rattle.core_run.specs.Laws.{BudgetIsEnough}
use Rattle.core_lp.specs.CaseProgramme.{row_names, row_of}
use Rattle.core_lp.specs.Ranks.{variable_count, as_numbered}
use Rattle.core_margin.specs.declared.orders.Order.{Order}
use Rattle.core_margin.specs.declared.orders.Order.TheVariants.{LeastVariable, Kinds}
use Rattle.core_margin.specs.Last.{start_of, IsStanding}
use Rattle.core_margin.specs.Orders.{preference}
use Rattle.core_margin.specs.Outcomes.{MarginOutcome, Certificate, Common, Pivot, Spent, MarginComesTo}
use Rattle.core_margin.specs.Laws.{StartStands, HouseOrderIsLeast}
use Rattle.core_top.specs.declared.answers.File.TheVariants as files
use Rattle.core_top.specs.Words.{is_name}
use Rattle.core_top.specs.Margin.{MarginWords, words_with, budget_of, MarginOf, certified, wide_pivot, wide_common, spent, MarginDue, GoesByNumber, IsNeverSpent}
use Rattle.core_top.specs.Commands.{Command, Margin, IsDue}
use Rattle.core_top.specs.Headline.{HouseOrderIsDue}
use Rattle.core_top.proofs.AtFile.{at-file}

-- ---- a budget of as many pivots as there are sets of variables
module _ (budgets : BudgetIsEnough) (starts : StartStands) (house : HouseOrderIsLeast) where
  least-not-spent : (c : CaseView) (budget : ℕ) → 2 ^ variable_count c ≤ budget → ¬ (MarginComesTo c lower_variable budget Spent)
  least-not-spent c budget enough =
      let first : IsStanding c (start_of c) = starts c in
      budgets (start_of c) most budget first.dictionary.variables first.costs (subst (λ (n : ℕ). 2 ^ n ≤ budget) same enough)
    where
      same : variable_count c ≡ (start_of c).rows + (start_of c).cols
      same = omega (arith, length-map (row_names c) (row_of c))

  pub never-spent : IsNeverSpent
  never-spent c words goes enough comes = by_rule goes
    where
      by_rule : GoesByNumber words.rule → ⊥
      by_rule (inl e) = least-not-spent c words.budget enough (subst (λ (r : Order). MarginComesTo c (preference c r) words.budget Spent) e comes)
      by_rule (inr e) =
          least-not-spent c words.budget enough ((house c words.budget Spent).0 (subst (λ (r : Order). MarginComesTo c (preference c r) words.budget Spent) e comes))

-- ---- what is due under both
-- the words of a call under a rule
abbrev under : List ℕ → ℕ → Order → MarginWords
under case budget rule = record { case = case; budget = budget; rule = rule }

-- what is due under a rule to a case that comes to the same under another
of-same : (case : List ℕ) (budget : ℕ) (rule other : Order) (c : CaseView)
    → ((o : MarginOutcome) → MarginComesTo c (preference c rule) budget o → MarginComesTo c (preference c other) budget o)
    → (s : ℕ) (t : List ℕ) → MarginOf (under case budget rule) c s t → MarginOf (under case budget other) c s t
of-same case budget rule other c f s t (certified x comes fits plainly) = certified x (f (Certificate x) comes) fits plainly
of-same case budget rule other c f s t (wide_pivot k comes) = wide_pivot k (f (Pivot k) comes)
of-same case budget rule other c f s t (wide_common comes) = wide_common (f Common comes)
of-same case budget rule other c f s t (spent comes) = spent (f Spent comes)

due-same : (case : List ℕ) (budget : ℕ) (rule other : Order)
    → ((c : CaseView) (o : MarginOutcome) → MarginComesTo c (preference c rule) budget o → MarginComesTo c (preference c other) budget o)
    → (told : List ℕ → Option (List ℕ)) (rose : List ℕ → Type 0) (s : ℕ) (t : List ℕ) → MarginDue (under case budget rule) told rose s t → MarginDue (under case budget other) told rose s t
due-same case budget rule other f told rose =
    at-file files.Case case_of_bytes (told case) (told case) (rose case) (rose case) (MarginOf (under case budget rule)) (MarginOf (under case budget other)) refl (λ risen. risen)
    (λ c. of-same case budget rule other c (f c))

-- the command of four words, by whether the second is a name and by what the others say
abbrev said : List ℕ → Bool → Option ℕ → Order → Option Command
said case name budget rule =
    option_or (option_map Margin (if name then option_map (words_with case) (option_zip budget (Some rule)) else None)) None

said-same : (case : List ℕ) (name : Bool) (budget : Option ℕ) (rule other : Order)
    → ((b : ℕ) (c : CaseView) (o : MarginOutcome) → MarginComesTo c (preference c rule) b o → MarginComesTo c (preference c other) b o)
    → (told : List ℕ → Option (List ℕ)) (rose : List ℕ → Type 0) (s : ℕ) (t : List ℕ) → IsDue (said case name budget rule) told rose s t → IsDue (said case name budget other) told rose s t
said-same case true (Some b) rule other f told rose s t due = due-same case b rule other (f b) told rose s t due
said-same case true None rule other f told rose s t due = due
said-same case false budget rule other f told rose s t due = due

pub house-order-is-due : HouseOrderIsLeast → HouseOrderIsDue
house-order-is-due law case budget before after status text = (
  said-same case (is_name case) (budget_of budget) (Kinds as_numbered) LeastVariable (λ b c o. (law c b o).0) before.told (ReadFailed before after) status text,
  said-same case (is_name case) (budget_of budget) LeastVariable (Kinds as_numbered) (λ b c o. (law c b o).1) before.told (ReadFailed before after) status text,
)
