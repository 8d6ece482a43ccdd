use Rattle.std.proofs.Common.{ℕ, ◌+◌, ◌<◌, List, get_or, sym, subst, arith}
use Rattle.core_sparse.specs.Steps.{IsStartRow}
use Rattle.core_dict.proofs.Filling.{each_pushed}
use Rattle.core_sparse.proofs.fill.slots.Goals as goal

pub loop-i-preserved : goal.loop-i-preserved
loop-i-preserved g c = record {
  rows = omega (arith, c.loop-i.invariant.rows, c.in_ok-push.ensures.len, c.push.new.self.ok.0, c.loop-i.all.ok.0);
  each = subst
      (λ (xs : List _). (k : ℕ) (x : _) → k < c.loop-i.i + 1
      → IsStartRow g.E.Exact.value c.args.programme.now k (get_or xs k x))
      (sym c.in_ok-push.ensures.items)
      (each_pushed (IsStartRow g.E.Exact.value c.args.programme.now) c.loop-i.all.items c.loop-i.i
      c.in_ok-slot.field-0 c.loop-i.invariant.rows c.loop-i.invariant.each c.in_ok-slot.ensures);
}
