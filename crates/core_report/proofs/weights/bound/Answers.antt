use Rattle.std.proofs.Common.{rules, sym, ◌∙◌, ap, ℕ, ℤ, List, [], ◌∷◌, ◌++◌, length, pos, FitsSigned}
use mir.Syntax.{w128}
use Rattle.std.proofs.lemmas.Int.{to_z-of_z}
use Rattle.core_model.specs.Closing.{line_count}
use Rattle.core_wide.proofs.Adding.{part-on, part-ends}
use Rattle.core_wide.proofs.Stepping.{sum_to}
use Rattle.core_report.proofs.Refusing.{bound-formed, line_term, listed_to, pool_term, tier_term}
use Rattle.core_report.proofs.weights.bound.Goals as goal

pub returns-in_err-full : goal.returns-in_err-full
returns-in_err-full c =
    let case = c.args.accepted.now.weights.case in
    let w = c.args.accepted.now.weights.weights in
    let lines : ℕ → List ℤ = λ l. line_term case w l ∷ [] in
    let out = c.in_err-full.ensures lines lines (λ s p r fits under step. search rules) ∙ ap (sum_to (pos 0) lines) (rw c.case.ensures.value at c.lines.ensures) in
    let rest = listed_to (length w.limit) (tier_term case w) ++ listed_to (length w.pool) (pool_term case w) in
    c.from_residual.ensures
    ∙ sym (part-ends (pos 0) (listed_to (line_count case) (line_term case w)) rest out)
    ∙ bound-formed case w c.case.ensures.fits c.args.accepted.now.refusing c.args.accepted.now.stays

pub returns-in_err-limits : goal.returns-in_err-limits
returns-in_err-limits c =
    let case = c.args.accepted.now.weights.case in
    let w = c.args.accepted.now.weights.weights in
    let lines : ℕ → List ℤ = λ l. line_term case w l ∷ [] in
    let tiers : ℕ → List ℤ = λ n. tier_term case w n ∷ [] in
    let y = c.in_ok-full.full in
    let y_fits : FitsSigned w128 y = search rules in
    let first = c.in_ok-full.ensures lines lines (λ s p r fits under step. search rules) ∙ ap (sum_to (pos 0) lines) (rw c.case.ensures.value at c.lines.ensures) in
    let out = simp to_z-of_z at (c.in_err-limits.ensures tiers tiers (λ s p r fits under step. search rules)) ∙ ap (sum_to y tiers) (rw c.weights.ensures.value at c.len.ensures) in
    let caps = listed_to (length w.pool) (pool_term case w) in
    let rest = listed_to (length w.limit) (tier_term case w) ++ caps in
    c.from_residual-in_err-limits.ensures
    ∙ sym (part-on (pos 0) y (listed_to (line_count case) (line_term case w)) rest first ∙ part-ends y (listed_to (length w.limit) (tier_term case w)) caps out)
    ∙ bound-formed case w c.case.ensures.fits c.args.accepted.now.refusing c.args.accepted.now.stays

pub returns : goal.returns
returns c =
    let case = c.args.accepted.now.weights.case in
    let w = c.args.accepted.now.weights.weights in
    let lines : ℕ → List ℤ = λ l. line_term case w l ∷ [] in
    let tiers : ℕ → List ℤ = λ n. tier_term case w n ∷ [] in
    let pools : ℕ → List ℤ = λ n. pool_term case w n ∷ [] in
    let y = c.in_ok-full.full in
    let y_fits : FitsSigned w128 y = search rules in
    let z = c.in_ok-limits.limits in
    let z_fits : FitsSigned w128 z = search rules in
    let first = c.in_ok-full.ensures lines lines (λ s p r fits under step. search rules) ∙ ap (sum_to (pos 0) lines) (rw c.case.ensures.value at c.lines.ensures) in
    let second = simp to_z-of_z at (c.in_ok-limits.ensures tiers tiers (λ s p r fits under step. search rules)) ∙ ap (sum_to y tiers) (rw c.weights.ensures.value at c.len.ensures) in
    let last = simp to_z-of_z at (c.add_each-3.ensures pools pools (λ s p r fits under step. search rules)) ∙ ap (sum_to z pools) (rw c.weights-2.ensures.value at c.len-2.ensures) in
    let caps = listed_to (length w.pool) (pool_term case w) in
    let rest = listed_to (length w.limit) (tier_term case w) ++ caps in
    last
    ∙ sym (part-on (pos 0) y (listed_to (line_count case) (line_term case w)) rest first ∙ part-on y z (listed_to (length w.limit) (tier_term case w)) caps second)
    ∙ bound-formed case w c.case.ensures.fits c.args.accepted.now.refusing c.args.accepted.now.stays
