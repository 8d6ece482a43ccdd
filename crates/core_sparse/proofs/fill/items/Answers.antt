use Rattle.std.proofs.Common.{ℕ, ◌<◌, ap, ◌∙◌, subst, arith, rules}
use Rattle.std.proofs.lemmas.Int.{to_z-of_z}
use mir.Syntax.{w64}
use Rattle.fractions.specs.Fraction.{whole}
use Rattle.core_dict.specs.Programme.{entry}
use Rattle.core_sparse.proofs.Filled.{filled_first, filled_more}
use Rattle.core_sparse.proofs.fill.items.Goals as goal

pub loop-j-init : goal.loop-j-init
loop-j-init g c =
    let p = c.args.programme.now in
    filled_first g.E.Exact.value p.cols (λ m. whole (entry p c.args.row m)) c.new-all.result.items c.new-all.ensures.items

pub loop-j-preserved : goal.loop-j-preserved
loop-j-preserved g c =
    let p = c.args.programme.now in
    let within = subst (λ (n : ℕ). c.loop-j.j < n) c.cols-cols.ensures c.loop-j-test.true in
    filled_more g.E.Exact.value p.cols (λ m. whole (entry p c.args.row m)) c.loop-j.all.items c.keep.new.items.items
    c.loop-j.j c.loop-j.invariant (c.in_ok-keep.ensures.kept p.cols within c.loop-j.invariant.kept)
    c.in_ok-keep.ensures.below
    (c.in_ok-keep.ensures.here ∙ c.of_whole.ensures ∙ ap whole (to_z-of_z w64 c.entry.result (search rules) ∙ c.entry.ensures.entry)) c.in_ok-keep.ensures.others

pub returns-clause-entries : goal.returns-clause-entries
returns-clause-entries g c =
    λ j l. c.loop-j.invariant.numbers j (omega (arith, l, c.cols-cols.ensures, c.loop-j-test.false))
