use Rattle.std.proofs.Common.{rules, ◌≡◌, sym, ◌∙◌, ap, true, Some, None, FitsSigned}
use mir.Syntax.{w128}
use Rattle.std.proofs.lemmas.Int.{to_z-of_z}
use Rattle.core_book.specs.View.{counts}
use Rattle.core_check.specs.Steps.{member_charge}
use Rattle.core_wide.proofs.Stepping.{sum_to}
use Rattle.core_check.proofs.ChargeTerms.{limit-nothing, limit-summed, limit-ends, limit-whole}
use Rattle.core_check.proofs.charges.limit_charge.Goals as goal

pub returns-then-not-counts : goal.returns-then-not-counts
returns-then-not-counts c =
    limit-nothing c.args.weights.now.case c.args.weights.now.weights c.args.i c.args.u c.args.j (sym (rw c.case-case.ensures.value at c.counts.ensures) ∙ c.if-not-counts.true)

pub returns-in_err-limit : goal.returns-in_err-limit
returns-in_err-limit c =
    let case = c.args.weights.now.case in
    let w = c.args.weights.now.weights in
    let counting : counts case c.args.i c.args.u ≡ true = sym (rw c.case-case.ensures.value at c.counts.ensures) ∙ c.if-not-counts.false in
    let fits : FitsSigned w128 c.limit_on.result = search rules in
    let first = limit-summed case w c.args.i c.args.u c.args.j c.limit_on.result None c.case-case.ensures.fits c.limit_on.ensures (simp to_z-of_z at c.in_err-limit.ensures.kept) in
    c.from_residual.ensures ∙ sym (limit-ends case w c.args.i c.args.u c.args.j counting first)

pub returns : goal.returns
returns c =
    let case = c.args.weights.now.case in
    let w = c.args.weights.now.weights in
    let counting : counts case c.args.i c.args.u ≡ true = sym (rw c.case-case.ensures.value at c.counts.ensures) ∙ c.if-not-counts.false in
    let fits : FitsSigned w128 c.limit_on.result = search rules in
    let x = c.in_ok-limit.limit in
    let x_fits : FitsSigned w128 x = search rules in
    let first = limit-summed case w c.args.i c.args.u c.args.j c.limit_on.result (Some x) c.case-case.ensures.fits c.limit_on.ensures (simp to_z-of_z at c.in_ok-limit.ensures.kept) in
    let member = member_charge case w c.args.i c.args.u in
    let second = simp to_z-of_z at (c.add_each.ensures member member (λ s m r fits under step. search rules)) in
    second ∙ ap (sum_to x member) (rw c.case-case.ensures.value at c.members.ensures) ∙ sym (limit-whole case w c.args.i c.args.u c.args.j x counting first)
