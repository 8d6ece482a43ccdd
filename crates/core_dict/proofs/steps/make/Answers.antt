use Rattle.std.proofs.Common.{ℕ, ◌<◌, sym, ◌∙◌, subst}
use Rattle.core_dict.proofs.Outcomes.{unchanged_row}
use Rattle.core_dict.proofs.Reading.{fraction_is}
use Rattle.core_dict.proofs.steps.make.Goals as goal

pub returns-then-is_zero-clause-exact : goal.returns-then-is_zero-clause-exact
returns-then-is_zero-clause-exact g c =
    let inside = subst (λ (n : ℕ). c.args.col < n) (sym c.requires.wide.row) c.requires.col_in in
    let zero = fraction_is g.E.Exact.value c.args.slot.now.row.entries.items c.args.col c.index.result.now inside
    c.index.ensures ∙ c.is_zero.ensures.0 c.if-is_zero.true in
    λ turns. absurd (turns zero)

pub returns-then-is_zero-clause-fits : goal.returns-then-is_zero-clause-fits
returns-then-is_zero-clause-fits g c =
    let inside = subst (λ (n : ℕ). c.args.col < n) (sym c.requires.wide.row) c.requires.col_in in
    let zero = fraction_is g.E.Exact.value c.args.slot.now.row.entries.items c.args.col c.index.result.now inside
    c.index.ensures ∙ c.is_zero.ensures.0 c.if-is_zero.true in
    unchanged_row zero
