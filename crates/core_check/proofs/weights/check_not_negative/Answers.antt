use Rattle.std.proofs.Common.{rules, ◌∙◌, ap, ℕ, ◌+◌, pos, int_le, map}
use Rattle.core_sums.specs.Places.{at, below}
use Rattle.core_model.specs.Check.{plain, places_of}
use Rattle.core_check.specs.Answers.{answer}
use Rattle.core_check.proofs.Judging.{plain-judged}
use Rattle.core_check.proofs.weights.check_not_negative.Goals as goal
use Rattle.core_model.specs.declared.condition.Condition.TheVariants.{WeightSigns}

pub returns : goal.returns
returns c =
    let test = λ (p : ℕ). plain (int_le (pos 0) (at c.args.weights.now p)) in
    c.check_each.ensures test (λ p r under judge. search (rules, plain-judged))
    ∙ ap (λ (n : ℕ). answer (places_of WeightSigns (1 + c.args.before) (map test (below n)))) c.len.ensures
