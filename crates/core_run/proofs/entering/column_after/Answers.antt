use Rattle.std.proofs.Common.{false, true}
use Rattle.core_dict.specs.Dictionary.{Dictionary}
use Rattle.core_run.proofs.RowsSoFar.{tested}
use Rattle.core_run.proofs.ColumnsSoFar.{minus_not_zero, column_is, column_passed, column_first}
use Rattle.core_run.proofs.ColumnsSoFar.{column_taken, column_stays}
use Rattle.core_run.proofs.entering.column_after.Goals as goal

pub returns-then-not-is_negative-clause-so_far : goal.returns-then-not-is_negative-clause-so_far
returns-then-not-is_negative-clause-so_far g c =
    let d : Dictionary = g.D.Store.dictionary c.args.dict.now in
    column_passed g.E.Exact.value d c.args.row c.args.entry.col c.args.so_far
    (tested (g.E.Exact.value c.args.entry.value) (d.entry c.args.row c.args.entry.col) c.is_negative.result false
    c.is_negative.ensures c.requires.entry c.if-not-is_negative.true)
    c.requires.so_far

pub over-requires : goal.over-requires
over-requires g c =
    minus_not_zero (g.E.Exact.value c.args.entry.value) (g.E.Exact.value c.negated.result)
    c.is_negative.result c.is_negative.ensures c.if-not-is_negative.false c.negated.ensures

pub returns-in_default-clause-so_far : goal.returns-in_default-clause-so_far
returns-in_default-clause-so_far g c =
    let d : Dictionary = g.D.Store.dictionary c.args.dict.now in
    column_first g.E.Exact.value d c.args.row c.args.entry.col c.args.so_far
    (record { col = c.args.entry.col; var = c.nonbasic.result; ratio = c.in_ok-over.field-0 })
    (tested (g.E.Exact.value c.args.entry.value) (d.entry c.args.row c.args.entry.col) c.is_negative.result true
    c.is_negative.ensures c.requires.entry c.if-not-is_negative.false)
    (column_is d c.args.row c.args.entry.col c.nonbasic.result (g.E.Exact.value c.in_ok-over.field-0)
    (g.E.Exact.value c.cost.result) (g.E.Exact.value c.negated.result)
    (g.E.Exact.value c.args.entry.value) c.nonbasic.ensures c.in_ok-over.ensures.exact c.cost.ensures
    c.negated.ensures c.requires.entry)
    c.requires.so_far c.in_default.is

pub returns-then-is_before-clause-so_far : goal.returns-then-is_before-clause-so_far
returns-then-is_before-clause-so_far g c =
    let d : Dictionary = g.D.Store.dictionary c.args.dict.now in
    column_taken g.E.Exact.value d c.args.row c.args.entry.col c.args.so_far c.in-Some.held
    (record { col = c.args.entry.col; var = c.nonbasic.result; ratio = c.in_ok-over.field-0 })
    (tested (g.E.Exact.value c.args.entry.value) (d.entry c.args.row c.args.entry.col) c.is_negative.result true
    c.is_negative.ensures c.requires.entry c.if-not-is_negative.false)
    (column_is d c.args.row c.args.entry.col c.nonbasic.result (g.E.Exact.value c.in_ok-over.field-0)
    (g.E.Exact.value c.cost.result) (g.E.Exact.value c.negated.result)
    (g.E.Exact.value c.args.entry.value) c.nonbasic.ensures c.in_ok-over.ensures.exact c.cost.ensures
    c.negated.ensures c.requires.entry)
    c.requires.so_far c.in-Some.is c.is_before.result c.is_before.ensures c.if-is_before.true

pub returns-else-is_before-clause-so_far : goal.returns-else-is_before-clause-so_far
returns-else-is_before-clause-so_far g c =
    let d : Dictionary = g.D.Store.dictionary c.args.dict.now in
    column_stays g.E.Exact.value d c.args.row c.args.entry.col c.args.so_far c.in-Some.held
    (record { col = c.args.entry.col; var = c.nonbasic.result; ratio = c.in_ok-over.field-0 })
    (tested (g.E.Exact.value c.args.entry.value) (d.entry c.args.row c.args.entry.col) c.is_negative.result true
    c.is_negative.ensures c.requires.entry c.if-not-is_negative.false)
    (column_is d c.args.row c.args.entry.col c.nonbasic.result (g.E.Exact.value c.in_ok-over.field-0)
    (g.E.Exact.value c.cost.result) (g.E.Exact.value c.negated.result)
    (g.E.Exact.value c.args.entry.value) c.nonbasic.ensures c.in_ok-over.ensures.exact c.cost.ensures
    c.negated.ensures c.requires.entry)
    c.requires.so_far c.in-Some.is c.is_before.result c.is_before.ensures c.if-is_before.false
