use Rattle.std.proofs.Common.{◌≡◌, sym, ap, ap₂, ◌∙◌, below_more, arith}
use Rattle.fractions.specs.Fraction.{◌/ℚ◌}
use Rattle.core_dict.specs.Rows.{fraction_at, divided_entry}
use Rattle.core_dict.proofs.Choice.{at_equal, at_other}
use Rattle.core_dict.proofs.Reading.{fraction_is, more_written, not_left}
use Rattle.core_dict.proofs.steps.own_entries.Goals as goal
use Rattle.core_dict.proofs.steps.own_entries.Goals.{then-j-col, else-j-col}

pub loop-j-preserved : goal.loop-j-preserved
loop-j-preserved g c =
    let read = g.E.Exact.value in
    let xs = c.args.before.now in
    let pivot : read c.index-before-col.result ≡ fraction_at read xs c.args.col =
    sym (fraction_is read xs c.args.col c.index-before-col.result c.requires.col_in c.index-before-col.is) in
    let number : read c.if-j-col.a ≡ divided_entry c.args.col (fraction_at read xs) c.loop-j.j =
    elim c.if-j-col.branch [
      | then-j-col w ↦ ap read w.a-is ∙ w.one-a.ensures ∙ sym (at_equal c.loop-j.j c.args.col _ _ w.if-j-col.true)
      | else-j-col w ↦ ap read w.a-is ∙ sym (fraction_is read xs c.loop-j.j w.index-before-j.result c.loop-j-test.true w.index-before-j.is)
          ∙ sym (at_other c.loop-j.j c.args.col _ _ w.if-j-col.false)
    ] in
    record {
      entries = more_written read c.loop-j.after c.loop-j.j c.in_ok-after.field-0
          (λ k. divided_entry c.args.col (fraction_at read xs) k /ℚ fraction_at read xs c.args.col)
          (omega (arith, c.loop-j-test.true, c.loop-j.auto.after, c.requires.same)) c.loop-j.invariant.entries (c.in_ok-after.ensures.exact ∙ ap₂ ◌/ℚ◌ number pivot);
      fits = below_more _ _ c.loop-j.invariant.fits
          (not_left _ _ _ _ _ number pivot c.in_ok-after.ensures.left.1);
    }
