use Rattle.std.proofs.Common.{◌≡◌, rules, sym, ◌∙◌, ap, subst, ℕ, ◌+◌, ◌-◌, arith, Some, None, FitsSigned, to_z}
use mir.Syntax.{w128}
use Rattle.std.proofs.lemmas.Int.{to_z-of_z}
use Rattle.core_wide.proofs.Stepping.{steps-none, steps-more, steps-end, summed_to}
use Rattle.core_wide.proofs.add_each.Goals as goal

pub loop-i-init : goal.loop-i-init
loop-i-init g c numbers terms steps = let fits : FitsSigned w128 c.args.start = c.ranges.start in simp to_z-of_z (steps-none c.args.start numbers terms)

pub loop-i-preserved : goal.loop-i-preserved
loop-i-preserved g c numbers terms steps =
    let start : FitsSigned w128 c.args.start = c.ranges.start in
    let next : FitsSigned w128 c.in_ok-total.total = search rules in
    let known : FitsSigned w128 c.loop-i.total = search rules in
    let before = simp to_z-of_z at (c.loop-i.invariant numbers terms steps) in
    let step = steps (to_z w128 c.loop-i.total-bits) c.loop-i.i (Some c.in_ok-total.total)
    (subst (FitsSigned w128) (sym c.loop-i.total-is) known) c.loop-i-test.true c.in_ok-total.ensures in
    simp to_z-of_z (steps-more c.args.start (to_z w128 c.loop-i.total-bits) numbers terms c.loop-i.i (Some c.in_ok-total.total) before step)

pub returns-in_err-total : goal.returns-in_err-total
returns-in_err-total g c numbers terms steps =
    let start : FitsSigned w128 c.args.start = c.ranges.start in
    let known : FitsSigned w128 c.loop-i.total = search rules in
    let before = simp to_z-of_z at (c.loop-i.invariant numbers terms steps) in
    let step = steps (to_z w128 c.loop-i.total-bits) c.loop-i.i None (subst (FitsSigned w128) (sym c.loop-i.total-is) known) c.loop-i-test.true c.in_err-total.ensures in
    let ended = steps-more c.args.start (to_z w128 c.loop-i.total-bits) numbers terms c.loop-i.i None before step in
    let whole : (c.loop-i.i + 1) + (c.args.count - (c.loop-i.i + 1)) ≡ c.args.count = omega arith in
    c.from_residual.ensures
    ∙ sym (steps-end c.args.start numbers terms (c.loop-i.i + 1) (c.args.count - (c.loop-i.i + 1)) ended)
    ∙ ap (λ (n : ℕ). summed_to c.args.start numbers terms n) whole
