use Rattle.core_model.specs.OfCase.{planned}
use Rattle.core_replay.proofs.Running.{standing-first, payable-first, no-lines}
use Rattle.core_replay.proofs.lines.day_lines.Goals as goal

pub returns-then-t-eq0-clause-standing : goal.returns-then-t-eq0-clause-standing
returns-then-t-eq0-clause-standing c =
    standing-first c.args.calendar.now.case (planned c.args.calendar.now) c.args.t c.args.lines.now.items c.if-t-eq0.true c.requires.standing

pub returns-then-t-eq0-clause-payable : goal.returns-then-t-eq0-clause-payable
returns-then-t-eq0-clause-payable c =
    payable-first c.args.calendar.now.case (planned c.args.calendar.now) c.args.scenario c.args.t c.args.payable.now c.if-t-eq0.true c.requires.payable

pub returns-then-t-eq0-clause-stays : goal.returns-then-t-eq0-clause-stays
returns-then-t-eq0-clause-stays c =
    no-lines c.args.calendar.now.case (planned c.args.calendar.now) c.args.scenario c.args.t c.if-t-eq0.true
