use Rattle.std.proofs.Common.{◌≡◌, arith, sym, ◌∙◌, ap, ◌≤◌}
use Rattle.core_book.specs.View.{instrument, instrument_of}
use Rattle.core_book.specs.declared.parts.Kind.TheVariants.{Security}
use Rattle.core_model.specs.Closing.{kind_of}
use Rattle.core_model.specs.OfCase.{planned}
use Rattle.core_model.proofs.Sizes.{line-kept}
use Rattle.core_replay.proofs.LineFlows.{base-within}
use Rattle.core_replay.proofs.flows.base_of.Goals as goal

pub instrument-requires : goal.instrument-requires
instrument-requires c =
    let known = line-kept c.args.calendar.now.case c.args.l c.case-case.ensures.kept c.requires.line in
    let same : c.line.result.instrument ≡ instrument_of c.args.calendar.now.case c.args.l = ap (λ x. x.instrument) (rw c.case-case.ensures.value at c.line.ensures) in
    rw c.case-case.ensures.value (omega (arith, same, known.known))

pub returns-in-Security : goal.returns-in-Security
returns-in-Security c =
    let case = c.args.calendar.now.case in
    let kind : kind_of case c.args.l ≡ Security =
    ap (λ x. (instrument case x.instrument).kind) (sym (rw c.case-case.ensures.value at c.line.ensures)) ∙ ap (λ x. x.kind) (sym (rw c.case-case.ensures.value at c.instrument.ensures)) ∙ c.in-Security.is in
    let within : c.args.t ≤ case.horizon = omega (arith, c.if-t-horizon.true, (rw c.case-case.ensures.value at c.horizon.ensures.value)) in
    base-within case (planned c.args.calendar.now) c.args.l c.args.t c.closed_on.result kind c.requires.open within (sym c.closed_on.ensures)
