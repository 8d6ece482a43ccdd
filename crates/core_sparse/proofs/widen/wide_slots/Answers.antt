use Rattle.std.proofs.Common.{ℕ, ◌+◌, ◌<◌, List, get_or, sym, subst, arith, ◌∙◌}
use Rattle.std.proofs.lemmas.List.{get_or_default}
use Rattle.exact_frac.specs.Value64.{value64}
use Rattle.exact_frac.specs.Value128.{value128}
use Rattle.core_sparse.specs.Steps.{IsWidened}
use Rattle.core_dict.proofs.Filling.{each_pushed}
use Rattle.core_sparse.proofs.widen.wide_slots.Goals as goal

pub loop-slot-preserved : goal.loop-slot-preserved
loop-slot-preserved c =
    let xs = c.args.slots.now in
    record {
      rows = omega (arith, c.loop-slot.invariant.rows, c.in_ok-push.ensures.len, c.push.new.self.ok.0, c.loop-slot.all.ok.0);
      each = subst
          (λ (ys : List _). (k : ℕ) (y x : _) → k < c.loop-slot.slot-index + 1
          → IsWidened value64 value128 (get_or xs k x) (get_or ys k y))
          (sym c.in_ok-push.ensures.items)
          (λ k y x l. each_pushed (λ (i : ℕ) z. (x : _) → IsWidened value64 value128 (get_or xs i x) z)
          c.loop-slot.all.items c.loop-slot.slot-index c.in_ok-wide_slot.field-0 c.loop-slot.invariant.rows
          (λ i z m x. c.loop-slot.invariant.each i z x m)
          (λ x. subst (λ z. IsWidened value64 value128 z c.in_ok-wide_slot.field-0)
          (c.slot-item.is ∙ get_or_default xs c.loop-slot.slot-index c.slot-item.result x c.loop-slot-test.true)
          c.in_ok-wide_slot.ensures)
          k y l x);
    }
