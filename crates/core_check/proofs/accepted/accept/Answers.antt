use Rattle.std.proofs.Common.{◌≡◌, ◌∙◌, sym, ap, Ok}
use Rattle.core_model.specs.Check.{places}
use Rattle.core_check.specs.Accepted.{IsAccepted}
use Rattle.core_check.specs.Answers.{answer}
use Rattle.core_check.proofs.Keeping.{accepted-of}
use Rattle.core_check.proofs.accepted.accept.Goals as goal

pub invariant_of-result : goal.invariant_of-result
invariant_of-result c =
    rw c.in_ok-flows.ensures (accepted-of c.args.case.now c.args.cert.now c.well_formed-2.ensures c.requires (sym (rw c.in_ok-flows.ensures at c.in_ok-check_cert.ensures)))

pub returns-clause-shows : goal.returns-clause-shows
returns-clause-shows c =
    (accepted-of c.args.case.now c.args.cert.now c.well_formed-2.ensures c.requires (sym (rw c.in_ok-flows.ensures at c.in_ok-check_cert.ensures))).shows
