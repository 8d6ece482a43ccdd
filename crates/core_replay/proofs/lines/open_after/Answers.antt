use Rattle.std.proofs.Common.{◌≡◌, rules, arith, sym, ◌∙◌, ap, ◌≤◌, neg_ℤ, [], map, FitsSigned}
use mir.Syntax.{w128}
use Rattle.std.proofs.lemmas.Int.{to_z-of_z}
use Rattle.core_model.specs.OfCase.{planned}
use Rattle.core_wide.specs.Steps.{summed}
use Rattle.core_replay.specs.Ledger.{closings}
use Rattle.core_replay.proofs.LineFlows.{closing-answer}
use Rattle.core_replay.proofs.lines.open_after.Goals as goal

pub returns-then-t-horizon : goal.returns-then-t-horizon
returns-then-t-horizon c =
    let case = c.args.calendar.now.case in
    let a = planned c.args.calendar.now in
    let within : c.args.t ≤ case.horizon = omega (arith, c.if-t-horizon.true, (rw c.case-case.ensures.value at c.horizon.ensures.value)) in
    let first : FitsSigned w128 c.args.standing.still_open = search rules in
    let taken : c.less_closed.result ≡ summed c.args.standing.still_open [] (map neg_ℤ (closings case a c.args.l c.args.t)) = simp to_z-of_z at c.less_closed.ensures in
    closing-answer case a c.args.l c.args.t c.less_closed.result c.requires.from within
    (sym (taken ∙ ap (λ z. summed z [] (map neg_ℤ (closings case a c.args.l c.args.t))) c.requires.standing.open_is))
