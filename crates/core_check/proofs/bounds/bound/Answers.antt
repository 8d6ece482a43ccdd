use Rattle.std.proofs.Common.{rules, sym, ◌∙◌, ap, pos, FitsSigned}
use mir.Syntax.{w128}
use Rattle.std.proofs.lemmas.Int.{to_z-of_z}
use Rattle.core_wide.proofs.Stepping.{sum_to}
use Rattle.core_check.proofs.BoundTerms.{fixed_term, full_term, limit_term, cap_term, bound-fixed, bound-full, bound-limits, bound-whole}
use Rattle.core_check.proofs.bounds.bound.Goals as goal

pub returns-in_err-fixed : goal.returns-in_err-fixed
returns-in_err-fixed c =
    let case = c.args.weights.now.of_case.case in
    let same = c.case-case.ensures.value in
    let held = c.weights-listed.ensures.value in
    let w = c.args.weights.now.of_case.weights in
    let fixed = fixed_term case w in
    let out = c.in_err-fixed.ensures fixed fixed (λ s p r fits under step. search rules) ∙ ap (sum_to (pos 0) fixed) (rw held at c.len.ensures) in
    c.from_residual.ensures ∙ sym (bound-fixed case w c.case-case.ensures.fits out)

pub returns-in_err-full : goal.returns-in_err-full
returns-in_err-full c =
    let case = c.args.weights.now.of_case.case in
    let same = c.case-case.ensures.value in
    let held = c.weights-listed.ensures.value in
    let w = c.args.weights.now.of_case.weights in
    let fixed = fixed_term case w in
    let x = c.in_ok-fixed.fixed in
    let x_fits : FitsSigned w128 x = search rules in
    let full = full_term case w in
    let first = c.in_ok-fixed.ensures fixed fixed (λ s p r fits under step. search rules) ∙ ap (sum_to (pos 0) fixed) (rw held at c.len.ensures) in
    let out = simp to_z-of_z at (c.in_err-full.ensures full full (λ s p r fits under step. search rules)) ∙ ap (sum_to x full) (rw same at c.lines.ensures) in
    c.from_residual-in_err-full.ensures ∙ sym (bound-full case w x c.case-case.ensures.fits first out)

pub returns-in_err-limits : goal.returns-in_err-limits
returns-in_err-limits c =
    let case = c.args.weights.now.of_case.case in
    let same = c.case-case.ensures.value in
    let held = c.weights-listed.ensures.value in
    let w = c.args.weights.now.of_case.weights in
    let fixed = fixed_term case w in
    let x = c.in_ok-fixed.fixed in
    let x_fits : FitsSigned w128 x = search rules in
    let full = full_term case w in
    let y = c.in_ok-full.full in
    let y_fits : FitsSigned w128 y = search rules in
    let limits = limit_term case w in
    let first = c.in_ok-fixed.ensures fixed fixed (λ s p r fits under step. search rules) ∙ ap (sum_to (pos 0) fixed) (rw held at c.len.ensures) in
    let second = simp to_z-of_z at (c.in_ok-full.ensures full full (λ s p r fits under step. search rules)) ∙ ap (sum_to x full) (rw same at c.lines.ensures) in
    let out = simp to_z-of_z at (c.in_err-limits.ensures limits limits (λ s p r fits under step. search rules)) ∙ ap (sum_to y limits) (rw held at c.len-2.ensures) in
    c.from_residual-in_err-limits.ensures ∙ sym (bound-limits case w x y c.case-case.ensures.fits first second out)

pub returns : goal.returns
returns c =
    let case = c.args.weights.now.of_case.case in
    let same = c.case-case.ensures.value in
    let held = c.weights-listed.ensures.value in
    let w = c.args.weights.now.of_case.weights in
    let fixed = fixed_term case w in
    let x = c.in_ok-fixed.fixed in
    let x_fits : FitsSigned w128 x = search rules in
    let full = full_term case w in
    let y = c.in_ok-full.full in
    let y_fits : FitsSigned w128 y = search rules in
    let limits = limit_term case w in
    let z = c.in_ok-limits.limits in
    let z_fits : FitsSigned w128 z = search rules in
    let caps = cap_term case w in
    let first = c.in_ok-fixed.ensures fixed fixed (λ s p r fits under step. search rules) ∙ ap (sum_to (pos 0) fixed) (rw held at c.len.ensures) in
    let second = simp to_z-of_z at (c.in_ok-full.ensures full full (λ s p r fits under step. search rules)) ∙ ap (sum_to x full) (rw same at c.lines.ensures) in
    let third = simp to_z-of_z at (c.in_ok-limits.ensures limits limits (λ s p r fits under step. search rules)) ∙ ap (sum_to y limits) (rw held at c.len-2.ensures) in
    let last = simp to_z-of_z at (c.add_each-4.ensures caps caps (λ s p r fits under step. search rules)) ∙ ap (sum_to z caps) (rw held at c.len-3.ensures) in
    last ∙ sym (bound-whole case w x y z c.case-case.ensures.fits first second third)
