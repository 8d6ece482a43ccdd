use Rattle.std.proofs.Common.{◌≡◌, ◌≢◌, ℕ, unsigned_abs, cond, eqb, sym, ap, ◌∙◌, refl, arith, below_more}
use Rattle.fractions.specs.Fraction.{Fraction, neg_ℚ, ◌-ℚ◌, ◌*ℚ◌, ◌/ℚ◌}
use Rattle.fractions.specs.Leaves.{LessTimesLeaves}
use Rattle.core_dict.specs.Rows.{fraction_at, entry_after, Less}
use Rattle.core_dict.proofs.Outcomes.{on_err, apart, no_entry}
use Rattle.core_dict.proofs.Reading.{fraction_is, more_written, not_left}
use Rattle.core_dict.proofs.steps.other_entries.Goals as goal

pub loop-j-preserved : goal.loop-j-preserved
loop-j-preserved g c =
    let read = g.E.Exact.value in
    let a : ℕ → Fraction = fraction_at read c.args.before.now in
    let own : ℕ → Fraction = fraction_at read c.args.own.now in
    let p : Fraction = read c.args.pivot in
    let j : ℕ = c.loop-j.j in
    let factor : read c.index-before-col.result ≡ a c.args.col =
    sym (fraction_is read c.args.before.now c.args.col c.index-before-col.result c.requires.col_in c.index-before-col.is) in
    let turned : read c.negated-turned.result ≡ neg_ℚ (a c.args.col /ℚ p) =
    c.negated-turned.ensures ∙ ap neg_ℚ (c.in_ok-divided.ensures.exact ∙ ap (λ (y : Fraction). y /ℚ p) factor) in
    let number : read c.in_ok-after.field-0 ≡ entry_after p c.args.col own a j =
    c.in_ok-after.ensures.exact
    ∙ ap (λ (y : Fraction). cond (eqb j c.args.col) y (a j -ℚ a c.args.col *ℚ own j)) turned in
    record {
      entries = more_written read c.loop-j.after j c.in_ok-after.field-0 (entry_after p c.args.col own a)
          (omega (arith, c.loop-j-test.true, c.loop-j.auto.after, c.requires.same)) c.loop-j.invariant.entries number;
      fits = below_more
          (λ (k : ℕ). k ≢ c.args.col → LessTimesLeaves (unsigned_abs g.E.Exact.MOST) (a k) (a c.args.col) (own k) → ⊥)
          j c.loop-j.invariant.fits (λ e h. apart (c.in_ok-after.ensures.left.1 (e, h)));
    }

pub returns-in_err-after-clause-left : goal.returns-in_err-after-clause-left
returns-in_err-after-clause-left g c =
    let h = c.in_err-after.ensures.left.0 refl in
    on_err _ _ (Less c.loop-j.j c.loop-j-test.true h.0 h.1)

pub returns-clause-fits : goal.returns-clause-fits
returns-clause-fits g c =
    let read = g.E.Exact.value in
    let factor : read c.index-before-col.result ≡ fraction_at read c.args.before.now c.args.col =
    sym (fraction_is read c.args.before.now c.args.col c.index-before-col.result c.requires.col_in c.index-before-col.is) in
    no_entry (not_left _ _ _ _ _ factor refl c.in_ok-divided.ensures.left.1)
    (λ k l e h. c.loop-j.invariant.fits k (omega arith) e h)
