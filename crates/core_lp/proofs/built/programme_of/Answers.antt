use Rattle.std.proofs.Common.{sym, ap, refl, subst, ◌+◌, ◌<◌, length, get_or, arith}
use Rattle.core_lp.specs.declared.names.RowName.TheVariants as row
use Rattle.core_lp.specs.CaseProgramme.{row_names}
use Rattle.core_lp.specs.Known.{IsRow}
use Rattle.core_lp.proofs.Filling.{IsBegun, begun-none, begun-more, begun-all}
use Rattle.core_lp.proofs.Naming.{row-known, columns-few, row_names-few}
use Rattle.core_lp.proofs.built.programme_of.Goals as goal

pub make-requires-clause-rows_in : goal.make-requires-clause-rows_in
make-requires-clause-rows_in c =
    let few = row_names-few c.args.flows.now c.case.ensures.kept in
    let count = ap length c.requires.rows in
    omega (arith, few, count)

pub make-requires-clause-cols_in : goal.make-requires-clause-cols_in
make-requires-clause-cols_in c =
    let few = columns-few c.args.flows.now c.case.ensures.kept in
    let count = ap length c.requires.cols in
    omega (arith, few, count)

pub loop-i-init : goal.loop-i-init
loop-i-init c =
    subst (IsBegun c.args.flows.now (length c.args.cols.now) c.args.rows.now 0) (sym c.in_ok-programme.ensures)
    (begun-none c.args.flows.now (length c.args.cols.now) c.args.rows.now)

pub fill_row-requires-clause-name : goal.fill_row-requires-clause-name
fill_row-requires-clause-name c =
    let flows = c.args.flows.now in
    let count = ap length c.requires.rows in
    let under : c.loop-i.i < length (row_names flows) = omega (arith, c.loop-i-test.true, count) in
    subst (λ xs. IsRow flows (get_or xs c.loop-i.i (row.Full 0))) (sym c.requires.rows) (row-known flows c.loop-i.i (row.Full 0) under)

pub loop-i-preserved : goal.loop-i-preserved
loop-i-preserved c =
    subst (IsBegun c.args.flows.now (length c.args.cols.now) c.args.rows.now (c.loop-i.i + 1)) (sym c.fill_row.ensures)
    (begun-more c.args.flows.now (length c.args.cols.now) c.args.rows.now c.loop-i.i c.loop-i.programme _ c.loop-i.invariant
    c.loop-i-test.true (ap length c.requires.cols) refl)

pub returns : goal.returns
returns c =
    begun-all c.args.flows.now (length c.args.cols.now) c.loop-i.i c.args.rows.now c.loop-i.programme c.loop-i.invariant
    (omega (arith, c.loop-i-test.false, c.loop-i.auto.i-end)) (ap length c.requires.cols) c.requires.rows
