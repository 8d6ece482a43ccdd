-- Which of the rows that may leave does, in a turn of the run of a case.
use Rattle.core_book.specs.View.{CaseView}
use Rattle.core_rules.specs.Candidates.{RuleView, Preference, before}
use Rattle.core_rules.specs.Rules.{plain_rule}
use Rattle.core_lp.specs.Ranks.{ranked}
use Rattle.core_margin.specs.declared.orders.Order.{Order}
use Rattle.core_margin.specs.declared.orders.Order.TheVariants.{LeastVariable, LeastValue, LastRow, Kinds}

-- the rule of an order
abbrev pub rule_in : CaseView → Order → RuleView
rule_in c LeastVariable = plain_rule 0
rule_in c LeastValue = plain_rule 1
rule_in c LastRow = plain_rule 2
rule_in c (Kinds letters) = ranked c letters

-- which candidate it prefers
abbrev pub preference : CaseView → Order → Preference
preference c order = before (rule_in c order)
