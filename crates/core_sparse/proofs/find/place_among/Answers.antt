use Rattle.std.proofs.Common.{ℕ, ◌+◌, ◌-◌, ◌/◌, ◌<◌, ◌≤◌, length, sym, subst, arith}
use Rattle.core_sparse.specs.Items.{col_at}
use Rattle.core_sparse.proofs.Places.{col_is}
use Rattle.core_sparse.proofs.Walks.{not_before}
use Rattle.core_sparse.proofs.find.place_among.Goals as goal

-- the middle is one of the places
middle_in : (low high : ℕ) → low < high → (low ≤ low + (high - low) / 2) × (low + (high - low) / 2 < high)
middle_in low high l = (omega arith, omega arith)

pub loop-low-preserved-then-items-middle : goal.loop-low-preserved-then-items-middle
loop-low-preserved-then-items-middle g c =
    let xs = c.args.items.now in
    let m : ℕ = c.loop-low.low + (c.loop-low.high - c.loop-low.low) / 2 in
    let inside = middle_in c.loop-low.low c.loop-low.high c.loop-low-test.true in
    let within : c.loop-low.high ≤ length xs = c.loop-low.invariant.within in
    let at : m < length xs = omega (arith, inside.1, within) in
    let col : col_at xs m < c.args.col =
    subst (λ (j : ℕ). j < c.args.col)
    (sym (col_is xs m c.index-items-middle.result at)) c.if-items-middle.true in
    record {
      order = omega (arith, inside.1);
      within = c.loop-low.invariant.within;
      before = λ k l o. let r : col_at xs k ≤ col_at xs m = not_before xs c.requires k m (omega (arith, l)) at in
          omega (arith, r, col);
      after = c.loop-low.invariant.after;
    }

pub loop-low-preserved : goal.loop-low-preserved
loop-low-preserved g c =
    let xs = c.args.items.now in
    let m : ℕ = c.loop-low.low + (c.loop-low.high - c.loop-low.low) / 2 in
    let inside = middle_in c.loop-low.low c.loop-low.high c.loop-low-test.true in
    let within : c.loop-low.high ≤ length xs = c.loop-low.invariant.within in
    let at : m < length xs = omega (arith, inside.1, within) in
    let col : c.args.col ≤ col_at xs m =
    subst (λ (j : ℕ). c.args.col ≤ j)
    (sym (col_is xs m c.index-items-middle.result at)) c.if-items-middle.false in
    record {
      order = inside.0;
      within = omega (arith, at);
      before = c.loop-low.invariant.before;
      after = λ k l o. let r : col_at xs m ≤ col_at xs k = not_before xs c.requires m k l o in omega (arith, r, col);
    }
