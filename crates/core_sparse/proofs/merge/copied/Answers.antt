use Rattle.std.proofs.Common.{◌≡◌, ◌≤◌, ℕ, suc, min, get_or, ap, ◌∙◌, subst, arith}
use Rattle.core_sparse.specs.Items.{columns}
use Rattle.core_sparse.specs.Steps.{IsCopied}
use Rattle.core_sparse.proofs.Copying.{copied_first, copied_more, copied_on}
use Rattle.core_sparse.proofs.Walks.{head_from}
use Rattle.core_sparse.proofs.merge.copied.Goals as goal

pub loop-j-init : goal.loop-j-init
loop-j-init g c =
    let is : c.min-j.result ≡ min (get_or (columns c.args.before.now) c.args.place c.args.until) c.args.until =
    c.min-j.ensures ∙ ap (λ (n : ℕ). min n c.args.until) c.column.ensures in (
      copied_first g.E.Exact.value c.args.cols c.args.before.now c.args.after.now.items c.args.from c.args.until
          c.args.place c.min-j.result c.requires.before.rising c.requires.kept c.requires.below c.requires.stands
          c.requires.order is,
      omega (arith, is),
    )

pub loop-j-smaller : goal.loop-j-smaller
loop-j-smaller g c =
    let until : ℕ = c.args.until in
    let at : suc c.loop-j.j ≤ until = c.loop-j-test.true in
    let ahead : suc c.loop-j.j ≤ get_or (columns c.args.before.now) c.take-a.result.1 until =
    head_from c.args.before.now until (suc c.loop-j.j) c.take-a.result.1 at c.take-a.ensures.stands in
    let is : c.min-j-in-loop-j.result ≡ min (get_or (columns c.args.before.now) c.take-a.result.1 until) until =
    c.min-j-in-loop-j.ensures ∙ ap (λ (n : ℕ). min n until) c.column-in-loop-j.ensures in
    omega (arith, at, ahead, is)

pub loop-j-preserved : goal.loop-j-preserved
loop-j-preserved g c =
    let read = g.E.Exact.value in
    let xs = c.args.before.now in
    let until : ℕ = c.args.until in
    let j : ℕ = c.loop-j.j in
    let is : c.min-j-in-loop-j.result ≡ min (get_or (columns xs) c.take-a.result.1 until) until =
    c.min-j-in-loop-j.ensures ∙ ap (λ (n : ℕ). min n until) c.column-in-loop-j.ensures in (
      copied_on read c.args.cols xs c.args.after.now.items c.keep.new.items.items c.args.from (suc j) until
          c.take-a.result.1 c.min-j-in-loop-j.result c.requires.before.rising
          (copied_more read c.args.cols xs c.args.after.now.items c.loop-j.after.items c.keep.new.items.items
          c.args.from j c.loop-j.place c.take-a.result.1 c.loop-j.invariant.0 c.take-a.ensures.stands
          (c.in_ok-keep.ensures.kept c.args.cols (omega (arith, c.loop-j-test.true, c.requires.until))
          c.loop-j.invariant.0.kept)
          c.in_ok-keep.ensures.below (c.in_ok-keep.ensures.here ∙ c.take-a.ensures.value)
          c.in_ok-keep.ensures.others)
          c.loop-j-test.true is,
      omega (arith, is),
    )

pub returns : goal.returns
returns g c =
    let at : c.loop-j.j ≡ c.args.until = omega (arith, c.loop-j-test.false, c.loop-j.invariant.1) in
    subst
    (λ (r : ℕ). IsCopied g.E.Exact.value c.args.cols c.args.before.now c.args.from r c.args.after.now.items
    c.loop-j.after.items c.loop-j.place)
    at c.loop-j.invariant.0
