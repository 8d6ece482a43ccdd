use Rattle.std.proofs.Common.{◌≡◌, arith, sym, ◌+◌, length, subst}
use Rattle.core_model.specs.OfCase.{planned}
use Rattle.core_replay.specs.Worse.{IsWorstSoFar}
use Rattle.core_replay.proofs.FirstWorst.{total-kept, scenario-more, worst-all}
use Rattle.core_replay.proofs.losses.worst_of.Goals as goal

pub worst_day-requires-clause-kept : goal.worst_day-requires-clause-kept
worst_day-requires-clause-kept c t within =
    total-kept c.args.calendar.now.case (planned c.args.calendar.now) c.loop-scenario.scenario c.in_ok-ledger.ledger c.in_ok-ledger.ensures.replayed t
    (omega (arith, within, (rw c.case-case.ensures.value at c.last-last.ensures.value)))

pub loop-scenario-preserved : goal.loop-scenario-preserved
loop-scenario-preserved c =
    let a = planned c.args.calendar.now in
    let days : c.last-last.result + 1 ≡ c.args.calendar.now.case.last + 1 = omega (arith, (rw c.case-case.ensures.value at c.last-last.ensures.value)) in
    subst (IsWorstSoFar c.args.calendar.now.case a (c.loop-scenario.scenario + 1)) (sym c.worse-worst.ensures)
    (scenario-more c.args.calendar.now.case a c.loop-scenario.scenario (c.last-last.result + 1) c.in_ok-ledger.ledger c.loop-scenario.worst c.worst_day.result days
    c.in_ok-ledger.ensures.replayed c.worst_day.ensures c.loop-scenario.invariant)

pub returns-clause-worst : goal.returns-clause-worst
returns-clause-worst c =
    let done : c.loop-scenario.scenario ≡ length c.args.calendar.now.case.scenarios =
    omega (arith, c.loop-scenario-test.false, c.loop-scenario.auto.scenario-end, (rw c.case-case.ensures.value at c.scenarios-scenario-end.ensures), c.case-case.ensures.kept.scenarios.0) in
    worst-all c.args.calendar.now.case (planned c.args.calendar.now) c.loop-scenario.scenario c.loop-scenario.worst done c.loop-scenario.invariant
