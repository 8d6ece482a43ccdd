use Rattle.std.proofs.Common.{rules, ◌≡◌, sym, ◌∙◌, ap, pos, ◌*ℤ◌, if◌then◌else◌, FitsSigned}
use Rattle.std.proofs.lemmas.Int.{to_z-of_z}
use mir.Syntax.{w128}
use Rattle.core_book.specs.View.{instrument_of, price}
use Rattle.core_book.specs.declared.parts.Kind.TheVariants.{Future, Security}
use Rattle.core_model.specs.Closing.{size, kind_of}
use Rattle.core_flows.proofs.LookUps.{marked-known, kind-is, future-unit, security-unit}
use Rattle.core_flows.proofs.units.before_cost.Goals as goal

pub marks-requires-clause-last : goal.marks-requires-clause-last
marks-requires-clause-last c =
    marked-known c.args.case.now (instrument_of c.args.case.now c.args.line) c.args.closed c.args.day c.marked_to.result c.args.pay_table.now c.requires.pay_table
    c.requires.closed c.requires.day c.marked_to.ensures

pub returns-in-Future-clause-value : goal.returns-in-Future-clause-value
returns-in-Future-clause-value c =
    let fits : FitsSigned w128 c.marks.result = search rules in
    let is_future : kind_of c.args.case.now c.args.line ≡ Future =
    kind-is c.args.case.now c.args.line c.line.result c.instrument.result Future c.line.ensures c.instrument.ensures c.in-Future.is in
    rw to_z-of_z (future-unit c.args.case.now c.args.line c.args.scenario c.args.closed c.args.day c.marked_to.result c.args.pay_table.now c.marks.result
    c.requires.pay_table c.requires.closed c.requires.day is_future c.marked_to.ensures c.marks.ensures.value)

pub returns-then-is_paid_by-clause-value : goal.returns-then-is_paid_by-clause-value
returns-then-is_paid_by-clause-value c =
    let fits : FitsSigned w128 c.sale.result = search rules in
    let is_security : kind_of c.args.case.now c.args.line ≡ Security =
    kind-is c.args.case.now c.args.line c.line.result c.instrument.result Security c.line.ensures c.instrument.ensures c.in-Security.is in
    let sold : c.sale.result
    ≡ (if c.is_paid_by.result then size c.args.case.now c.args.line *ℤ price c.args.case.now c.args.scenario (instrument_of c.args.case.now c.args.line) c.args.closed else pos 0) =
    c.sale.ensures.value
    ∙ sym (ap (λ b. if b then size c.args.case.now c.args.line *ℤ price c.args.case.now c.args.scenario (instrument_of c.args.case.now c.args.line) c.args.closed else pos 0) c.if-is_paid_by.true) in
    rw to_z-of_z (security-unit c.args.case.now c.args.line c.args.scenario c.args.closed c.args.day c.args.pay_table.now c.sale.result c.is_paid_by.result
    c.requires.pay_table c.requires.closed is_security c.is_paid_by.ensures sold)

pub returns-else-is_paid_by-clause-value : goal.returns-else-is_paid_by-clause-value
returns-else-is_paid_by-clause-value c =
    let is_security : kind_of c.args.case.now c.args.line ≡ Security =
    kind-is c.args.case.now c.args.line c.line.result c.instrument.result Security c.line.ensures c.instrument.ensures c.in-Security.is in
    let none : pos 0
    ≡ (if c.is_paid_by.result then size c.args.case.now c.args.line *ℤ price c.args.case.now c.args.scenario (instrument_of c.args.case.now c.args.line) c.args.closed else pos 0) =
    sym (ap (λ b. if b then size c.args.case.now c.args.line *ℤ price c.args.case.now c.args.scenario (instrument_of c.args.case.now c.args.line) c.args.closed else pos 0) c.if-is_paid_by.false) in
    security-unit c.args.case.now c.args.line c.args.scenario c.args.closed c.args.day c.args.pay_table.now (pos 0) c.is_paid_by.result
    c.requires.pay_table c.requires.closed is_security c.is_paid_by.ensures none
