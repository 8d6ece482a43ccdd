use Rattle.std.proofs.Common.{rules, sym, ◌∙◌, ◌*ℤ◌, [], int_le, FitsSigned, w64}
use mir.Syntax.{w128}
use Rattle.std.proofs.lemmas.Int.{to_z-of_z}
use Rattle.core_book.specs.View.{limit, counts}
use Rattle.core_model.specs.Layout.{plan_of}
use Rattle.core_model.specs.Check.{against, tier_closings}
use Rattle.core_check.proofs.Judging.{both-stay, first-leaves, second-leaves, judged-where, judged-none}
use Rattle.core_check.proofs.closings.is_within_limit.Goals as goal

pub returns-then-not-counts : goal.returns-then-not-counts
returns-then-not-counts c =
    let case = c.args.calendar.now.case in
    let same = c.case-case.ensures.value in
    let i = c.args.cell.row in
    let u = c.args.cell.day in
    let j = c.args.cell.tier in
    let a = plan_of case c.args.calendar.now.calendar in
    judged-none (counts case i u) (against (limit case i u j *ℤ a.den) int_le (tier_closings case a i u j)) (sym (rw same at c.counts.ensures) ∙ c.if-not-counts.true)

pub returns-in_err-closed : goal.returns-in_err-closed
returns-in_err-closed c =
    let case = c.args.calendar.now.case in
    let same = c.case-case.ensures.value in
    let i = c.args.cell.row in
    let u = c.args.cell.day in
    let j = c.args.cell.tier in
    let a = plan_of case c.args.calendar.now.calendar in
    let most = limit case i u j *ℤ a.den in
    c.from_residual.ensures
    ∙ first-leaves int_le [] (tier_closings case a i u j) most (sym c.in_err-closed.ensures)
    ∙ judged-where (counts case i u) (against most int_le (tier_closings case a i u j)) (sym (rw same at c.counts.ensures) ∙ c.if-not-counts.false)

pub returns-in_err-most : goal.returns-in_err-most
returns-in_err-most c =
    let case = c.args.calendar.now.case in
    let same = c.case-case.ensures.value in
    let i = c.args.cell.row in
    let u = c.args.cell.day in
    let j = c.args.cell.tier in
    let a = plan_of case c.args.calendar.now.calendar in
    let narrow : FitsSigned w64 c.limit-limit.result = search rules in
    let most = rw same at c.limit-limit.ensures in
    c.from_residual-in_err-most.ensures
    ∙ second-leaves int_le [] (tier_closings case a i u j) (limit case i u j *ℤ a.den) (rw most at (simp to_z-of_z at c.in_err-most.ensures))
    ∙ judged-where (counts case i u) (against (limit case i u j *ℤ a.den) int_le (tier_closings case a i u j)) (sym (rw same at c.counts.ensures) ∙ c.if-not-counts.false)

pub returns : goal.returns
returns c =
    let case = c.args.calendar.now.case in
    let same = c.case-case.ensures.value in
    let i = c.args.cell.row in
    let u = c.args.cell.day in
    let j = c.args.cell.tier in
    let a = plan_of case c.args.calendar.now.calendar in
    let narrow : FitsSigned w64 c.limit-limit.result = search rules in
    let closed_fits : FitsSigned w128 c.in_ok-closed.closed = search rules in
    let most_fits : FitsSigned w128 c.in_ok-most.most = search rules in
    let product = rw (rw same at c.limit-limit.ensures) at (simp to_z-of_z at c.in_ok-most.ensures) in
    simp to_z-of_z
    (both-stay int_le [] (tier_closings case a i u j) (limit case i u j *ℤ a.den) c.in_ok-closed.closed c.in_ok-most.most
    (sym c.in_ok-closed.ensures) product.0 product.1
    ∙ judged-where (counts case i u) (against (limit case i u j *ℤ a.den) int_le (tier_closings case a i u j)) (sym (rw same at c.counts.ensures) ∙ c.if-not-counts.false))
