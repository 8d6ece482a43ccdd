use Rattle.std.proofs.Common.{◌≡◌, rules, arith, refl, ◌+◌, suc, FitsSigned}
use mir.Syntax.{w128}
use Rattle.std.proofs.lemmas.Int.{to_z-of_z}
use Rattle.core_model.specs.Closing.{cash_of}
use Rattle.core_model.specs.OfCase.{planned}
use Rattle.core_replay.specs.Ledger.{paid_on}
use Rattle.core_replay.proofs.ByPayDay.{payable-start}
use Rattle.core_replay.proofs.Running.{entered-none, total-none}
use Rattle.core_replay.proofs.ledger.Run.start.Goals as goal

pub returns-clause-started : goal.returns-clause-started
returns-clause-started c =
    let a = planned c.args.calendar.now in
    let k = c.args.scenario in
    let fits : FitsSigned w128 c.calendar.result.now.den = search rules in
    let days : c.from-days.result + 1 ≡ suc c.args.calendar.now.case.last = omega (arith, c.from-days.ensures, (rw c.case-case.ensures.value at c.last.ensures.value)) in
    record {
      lines = c.in_ok-lines.ensures.opened;
      payable = payable-start c.args.calendar.now.case a k (c.from-days.result + 1) c.in_ok-payable.payable days c.in_ok-payable.ensures;
      total = total-none (paid_on c.args.calendar.now.case a k) _ refl;
      den = rw c.calendar.ensures.value at (simp to_z-of_z at c.in_ok-ledger.ensures.0);
      paid_so_far = entered-none c.args.calendar.now.case (paid_on c.args.calendar.now.case a k) (c.from-days.result + 1) c.in_ok-ledger.ledger.paid days c.in_ok-ledger.ensures.1;
      total_so_far = entered-none c.args.calendar.now.case (cash_of c.args.calendar.now.case a k) (c.from-days.result + 1) c.in_ok-ledger.ledger.total days c.in_ok-ledger.ensures.2;
    }
