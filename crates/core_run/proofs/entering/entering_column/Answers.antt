use Rattle.std.proofs.Common.{ℕ, ◌<◌, subst, arith, unsigned_abs}
use Rattle.core_dict.specs.Dictionary.{Dictionary}
use Rattle.core_dict.specs.NextEntry.{AreZero}
use Rattle.core_run.proofs.ColumnsSoFar.{columns_passed, none_leaves}
use Rattle.core_run.proofs.Picks.{none_first}
use Rattle.core_run.proofs.entering.entering_column.Goals as goal

pub loop-from-init : goal.loop-from-init
loop-from-init g c = record { within = omega arith; so_far = none_first _ _ _; fits = λ j l. absurd (omega arith) }

pub column_after-requires-clause-so_far : goal.column_after-requires-clause-so_far
column_after-requires-clause-so_far g c =
    let d : Dictionary = g.D.Store.dictionary c.args.dict.now in
    let first = c.in-Some.ensures in
    columns_passed g.E.Exact.value d c.args.row c.loop-from.from c.in-Some.next.col c.loop-from.so_far
    first.from_there first.before c.loop-from.invariant.so_far

pub loop-from-preserved : goal.loop-from-preserved
loop-from-preserved g c =
    let d : Dictionary = g.D.Store.dictionary c.args.dict.now in
    let cols : ℕ = c.cols-cols.result in
    let zero : AreZero (d.entry c.args.row) c.loop-from.from cols =
    λ j l m. c.in-None.ensures j l (subst (λ (n : ℕ). j < n) c.cols-cols.ensures m) in
    record {
      within = omega arith;
      so_far = columns_passed g.E.Exact.value d c.args.row c.loop-from.from cols c.loop-from.so_far
          c.loop-from.invariant.within zero c.loop-from.invariant.so_far;
      fits = none_leaves (unsigned_abs g.E.Exact.MOST) d c.args.row c.loop-from.from cols zero
          c.loop-from.invariant.fits;
    }
