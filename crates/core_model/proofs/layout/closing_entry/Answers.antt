use Rattle.std.proofs.Common.{◌≡◌, ◌∙◌, ◌-◌, ◌*◌, ◌+◌, ◌<◌, ◌≤◌, arith}
use Rattle.std.proofs.Math.Nat.{mul-le-mul}
use Rattle.core_book.specs.View.{tiers}
use Rattle.core_book.proofs.Depth.{some-depth}
use Rattle.core_model.proofs.Places.{place-within, closing-within}
use Rattle.core_model.proofs.layout.closing_entry.Goals as goal
use Rattle.core_model.proofs.layout.closing_entry.Goals.{After-from-2}

-- the row and the day are below the number of entries
row-low : (c : After-from-2) → c.args.cell.row * c.from.result + c.from-2.result < c.len-count.result
row-low c =
    let days : c.from.result ≡ c.args.case.now.horizon = c.from.ensures ∙ c.horizon.ensures.value in
    let rows : c.args.cell.row * c.args.case.now.horizon + (c.args.cell.day - 1) < c.args.rows * c.args.case.now.horizon =
    place-within c.args.rows c.args.case.now.horizon c.args.cell.row (c.args.cell.day - 1) c.requires.row (omega (arith, c.requires.day.0, c.requires.day.1)) in
    let more : c.args.rows * c.args.case.now.horizon * 1 ≤ c.args.rows * c.args.case.now.horizon * tiers c.args.case.now =
    mul-le-mul (omega arith) (some-depth c.args.case.now) in
    rw days (omega (arith, rows, more, c.requires.count, c.len-count.ensures, c.from-2.ensures))

-- so a usize keeps the row
pub overflow_add-row : goal.overflow_add-row
overflow_add-row c = omega (arith, row-low c, c.len-count.type_inv)

pub overflow_mul-row : goal.overflow_mul-row
overflow_mul-row c =
    let days : c.from.result ≡ c.args.case.now.horizon = c.from.ensures ∙ c.horizon.ensures.value in
    let rows : c.args.cell.row * c.args.case.now.horizon + (c.args.cell.day - 1) < c.args.rows * c.args.case.now.horizon =
    place-within c.args.rows c.args.case.now.horizon c.args.cell.row (c.args.cell.day - 1) c.requires.row (omega (arith, c.requires.day.0, c.requires.day.1)) in
    let more : c.args.rows * c.args.case.now.horizon * 1 ≤ c.args.rows * c.args.case.now.horizon * tiers c.args.case.now =
    mul-le-mul (omega arith) (some-depth c.args.case.now) in
    rw days (omega (arith, rows, more, c.requires.count, c.len-count.ensures, c.len-count.type_inv))

pub entry-requires : goal.entry-requires
entry-requires c =
    let within = closing-within c.args.case.now c.args.rows c.args.cell.row c.args.cell.day c.args.cell.tier c.requires.row c.requires.day c.requires.tier in
    let days : c.from.result ≡ c.args.case.now.horizon = c.from.ensures ∙ c.horizon.ensures.value in
    let deep : c.from-3.result ≡ tiers c.args.case.now = c.from-3.ensures ∙ c.tiers.ensures in
    rw (days, deep, c.from-2.ensures, c.from-4.ensures) (omega (arith, within, c.requires.count))
