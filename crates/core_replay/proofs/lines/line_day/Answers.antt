use Rattle.std.proofs.Common.{rules, refl}
use Rattle.core_model.specs.OfCase.{planned}
use Rattle.core_replay.specs.Ledger.{flow_numbers, closing_numbers, line_numbers}
use Rattle.core_sums.proofs.Leaving.{none-append, left-leaves, right-leaves}
use Rattle.core_replay.proofs.Costs.{stops-more}
use Rattle.core_replay.proofs.lines.line_day.Goals as goal

pub returns-in_err-put_flows-clause-stops : goal.returns-in_err-put_flows-clause-stops
returns-in_err-put_flows-clause-stops c =
    let case = c.args.calendar.now.case in
    let a = planned c.args.calendar.now in
    let stops = stops-more c.args.scenario c.args.t (flow_numbers case a c.args.scenario c.args.t c.args.l) (line_numbers case a c.args.scenario c.args.t c.args.l)
    c.in_err-put_flows.field-0.0
    (λ out. left-leaves (flow_numbers case a c.args.scenario c.args.t c.args.l) (closing_numbers case a c.args.t c.args.l) out) c.in_err-put_flows.ensures.stops in
    let gives = c.from_residual.ensures in
    search (rules, stops)

pub returns-in_default-clause-stops : goal.returns-in_default-clause-stops
returns-in_default-clause-stops c =
    let case = c.args.calendar.now.case in
    let a = planned c.args.calendar.now in (
      refl,
      refl,
      right-leaves (flow_numbers case a c.args.scenario c.args.t c.args.l) (closing_numbers case a c.args.t c.args.l) c.in_default.ensures,
    )

pub returns-clause-stays : goal.returns-clause-stays
returns-clause-stays c =
    let case = c.args.calendar.now.case in
    let a = planned c.args.calendar.now in
    none-append (flow_numbers case a c.args.scenario c.args.t c.args.l) (closing_numbers case a c.args.t c.args.l) c.in_ok-put_flows.ensures.stays c.in-Some.ensures.1
