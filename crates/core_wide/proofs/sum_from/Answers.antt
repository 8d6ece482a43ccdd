use Rattle.std.proofs.Common.{rules, sym, ◌∙◌, ap, ◌+◌, pos, [], None, Some, FitsSigned, get_or, to_z}
use mir.Syntax.{w128}
use Rattle.std.proofs.lemmas.Int.{to_z-of_z}
use Rattle.std.proofs.lemmas.List.{take_all}
use Rattle.core_wide.specs.Steps.{summed}
use Rattle.core_wide.proofs.Adding.{summed-none}
use Rattle.core_wide.proofs.Stepping.{numbers-more, numbers-end, numbers-summed}
use Rattle.core_wide.proofs.sum_from.Goals as goal

pub loop-number-init : goal.loop-number-init
loop-number-init c = summed-none _

pub loop-number-preserved : goal.loop-number-preserved
loop-number-preserved c =
    let fs : FitsSigned w128 c.args.start = search rules in
    let fx : FitsSigned w128 (get_or c.args.numbers.now c.loop-number.number-index (pos 0)) = search rules in
    let fn : FitsSigned w128 c.in_ok-total.total = search rules in
    let before = simp to_z-of_z at c.loop-number.invariant in
    let step = simp to_z-of_z at c.in_ok-total.ensures.step in
    simp to_z-of_z (numbers-more c.args.start _ c.args.numbers.now c.loop-number.number-index (Some c.in_ok-total.total) c.loop-number-test.true before step)

pub returns-in_err-total : goal.returns-in_err-total
returns-in_err-total c =
    let fs : FitsSigned w128 c.args.start = search rules in
    let fx : FitsSigned w128 (get_or c.args.numbers.now c.loop-number.number-index (pos 0)) = search rules in
    let before = simp to_z-of_z at c.loop-number.invariant in
    let step = simp to_z-of_z at c.in_err-total.ensures.step in
    let none = numbers-more c.args.start _ c.args.numbers.now c.loop-number.number-index None c.loop-number-test.true before step in
    rw c.from_residual.ensures (numbers-summed c.args.start c.args.numbers.now None (numbers-end c.args.start c.args.numbers.now (c.loop-number.number-index + 1) none))

pub returns : goal.returns
returns c =
    let fs : FitsSigned w128 c.args.start = search rules in
    let before = simp to_z-of_z at c.loop-number.invariant in
    let whole = sym (take_all c.loop-number.number-index c.args.numbers.now c.loop-number-test.false) in
    numbers-summed c.args.start c.args.numbers.now (Some (to_z w128 c.loop-number.total-bits)) (ap (summed c.args.start []) whole ∙ before)
