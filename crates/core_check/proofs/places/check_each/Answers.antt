use Rattle.std.proofs.Common.{◌≡◌, sym, ◌∙◌, ap, ℕ, ◌+◌, ◌-◌, arith, Ok, Err}
use Rattle.std.proofs.lemmas.Result.{err_from_is_err_and}
use Rattle.core_model.specs.Check.{verdict_of}
use Rattle.core_check.specs.Answers.{answer}
use Rattle.core_check.proofs.Order.{passed-of, tested, places-none, places-more, places-end}
use Rattle.core_check.proofs.places.check_each.Goals as goal

pub loop-i-init : goal.loop-i-init
loop-i-init g c tests judges = places-none c.args.condition c.args.first tests

pub loop-i-preserved : goal.loop-i-preserved
loop-i-preserved g c tests judges =
    let judged = judges c.loop-i.i c.holds.result c.loop-i-test.true c.holds.ensures in
    passed-of (verdict_of (tested c.args.condition c.args.first tests (c.loop-i.i + 1)))
    (places-more c.args.condition c.args.first tests c.loop-i.i c.holds.result (Ok tt) (c.loop-i.invariant tests judges) judged c.in_ok-judge_place.ensures)

pub returns-in_err-judge_place : goal.returns-in_err-judge_place
returns-in_err-judge_place g c tests judges =
    let fault = c.in_err-judge_place.field-0.0 in
    let judged = judges c.loop-i.i c.holds.result c.loop-i-test.true c.holds.ensures in
    let here = places-more c.args.condition c.args.first tests c.loop-i.i c.holds.result (Err fault) (c.loop-i.invariant tests judges) judged c.in_err-judge_place.ensures in
    let whole : (c.loop-i.i + 1) + (c.args.count - (c.loop-i.i + 1)) ≡ c.args.count = omega arith in
    let passed_on = err_from_is_err_and c.from_residual.result c.from_residual.ensures.1 in
    passed_on.1
    ∙ ap Err passed_on.2
    ∙ sym (places-end c.args.condition c.args.first tests (c.loop-i.i + 1) (c.args.count - (c.loop-i.i + 1)) fault here)
    ∙ ap (λ (n : ℕ). answer (tested c.args.condition c.args.first tests n)) whole
