use Rattle.std.proofs.Common.{◌≡◌, ℕ, suc, ◌+◌, ◌≤◌, List, unsigned_abs, cond, eqb, sym, ap₂, ◌∙◌, subst, refl, arith, ne_eqb, get_or}
use Rattle.fractions.specs.Fraction.{Fraction, ◌-ℚ◌, ◌*ℚ◌}
use Rattle.core_dict.proofs.Outcomes.{apart, leaves_same}
use Rattle.core_sparse.specs.Items.{columns, Stands}
use Rattle.core_sparse.specs.Steps.{IsCopied}
use Rattle.core_sparse.proofs.Merging.{merged_none, merged_run, merged_more}
use Rattle.core_sparse.proofs.Walks.{head_from, head_most}
use Rattle.core_sparse.proofs.merge.merge.Goals as goal

pub loop-j-init : goal.loop-j-init
loop-j-init g c =
    merged_run (unsigned_abs g.E.Exact.MOST) g.E.Exact.value c.args.cols c.args.before.now c.args.own.now
    (g.E.Exact.value c.args.q) (g.E.Exact.value c.args.turned) c.args.col c.requires.own.rising c.requires.pivot
    _ c.copied.new.after.items 0 0 0 c.column-j.result c.in_ok-i.i
    (merged_none (unsigned_abs g.E.Exact.MOST) g.E.Exact.value c.args.cols c.args.before.now c.args.own.now
    (g.E.Exact.value c.args.q) (g.E.Exact.value c.args.turned) c.args.col)
    (omega arith)
    (subst
    (λ (ys : List _). IsCopied g.E.Exact.value c.args.cols c.args.before.now 0 c.column-j.result ys
    c.copied.new.after.items c.in_ok-i.i)
    (c.reserve.ensures.items ∙ c.requires.empty) c.in_ok-i.ensures)
    c.column-j.ensures

pub copied-requires-in-loop-j-clause-stands : goal.copied-requires-in-loop-j-clause-stands
copied-requires-in-loop-j-clause-stands g c =
    let e : suc c.loop-j.j ≡ c.loop-j.j + 1 = omega arith in
    subst (λ (n : ℕ). Stands c.args.before.now n c.take-a.result.1) e c.take-a.ensures.stands

pub copied-requires-in-loop-j-clause-kept : goal.copied-requires-in-loop-j-clause-kept
copied-requires-in-loop-j-clause-kept g c =
    c.in_ok-keep.ensures.kept c.args.cols c.loop-j-test.true c.loop-j.invariant.kept

pub copied-requires-in-loop-j-clause-order : goal.copied-requires-in-loop-j-clause-order
copied-requires-in-loop-j-clause-order g c =
    let at : suc c.loop-j.j ≤ c.args.cols = c.loop-j-test.true in
    let ahead : suc c.loop-j.j ≤ get_or (columns c.args.own.now) c.take-b.result.1 c.args.cols =
    head_from c.args.own.now c.args.cols (suc c.loop-j.j) c.take-b.result.1 at c.take-b.ensures.stands in
    omega (arith, ahead, c.column-j-in-loop-j.ensures)

pub copied-requires-in-loop-j-clause-until : goal.copied-requires-in-loop-j-clause-until
copied-requires-in-loop-j-clause-until g c =
    let most = head_most c.args.own.now c.args.cols c.take-b.result.1 c.requires.own.cols in
    omega (arith, most, c.column-j-in-loop-j.ensures)

pub loop-j-preserved : goal.loop-j-preserved
loop-j-preserved g c =
    let read = g.E.Exact.value in
    let most : ℕ = unsigned_abs g.E.Exact.MOST in
    let xs = c.args.before.now in
    let os = c.args.own.now in
    let j : ℕ = c.loop-j.j in
    let q : Fraction = read c.args.q in
    let t : Fraction = read c.args.turned in
    let e : j + 1 ≡ suc j = omega arith in
    merged_run most read c.args.cols xs os q t c.args.col c.requires.own.rising c.requires.pivot c.keep.new.items.items
    c.copied-in-loop-j.new.after.items (suc j) c.take-a.result.1 c.take-b.result.1 c.column-j-in-loop-j.result
    c.in_ok-i-2.i
    (merged_more most read c.args.cols xs os q t c.args.col c.loop-j.after.items c.keep.new.items.items j c.loop-j.i
    c.loop-j.k c.take-a.result.1 c.take-b.result.1 c.loop-j.invariant c.take-a.ensures.stands c.take-b.ensures.stands
    (c.in_ok-keep.ensures.kept c.args.cols c.loop-j-test.true c.loop-j.invariant.kept) c.in_ok-keep.ensures.below
    (c.in_ok-keep.ensures.here ∙ c.in_ok-value.ensures.exact
    ∙ ap₂ (λ (y z : Fraction). cond (eqb j c.args.col) t (y -ℚ q *ℚ z)) c.take-a.ensures.value c.take-b.ensures.value)
    c.in_ok-keep.ensures.others
    (λ ne h. apart (c.in_ok-value.ensures.left.1 (
      ne_eqb j c.args.col ne,
      leaves_same (sym c.take-a.ensures.value) refl (sym c.take-b.ensures.value) h,
    ))))
    c.loop-j-test.true
    (subst
    (λ (n : ℕ). IsCopied read c.args.cols xs n c.column-j-in-loop-j.result c.keep.new.items.items
    c.copied-in-loop-j.new.after.items c.in_ok-i-2.i)
    e c.in_ok-i-2.ensures)
    c.column-j-in-loop-j.ensures
