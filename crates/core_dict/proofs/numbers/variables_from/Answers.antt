use Rattle.std.proofs.Common.{◌≡◌, ℕ, ◌+◌, ◌<◌, List, get_or, sym, subst, arith, refl, ◌∙◌}
use Rattle.std.proofs.lemmas.List.{get_or_default}
use Rattle.core_dict.proofs.Filling.{each_pushed}
use Rattle.core_dict.proofs.numbers.variables_from.Goals as goal

pub loop-i-preserved : goal.loop-i-preserved
loop-i-preserved c = record {
  width = omega (arith, c.loop-i.invariant.width, c.in_ok-push.ensures.len, c.push.new.self.ok.0, c.loop-i.all.ok.0);
  variables = subst
      (λ (xs : List ℕ). (k : ℕ) → k < c.loop-i.i + 1 → get_or xs k 0 ≡ c.args.first + k)
      (sym c.in_ok-push.ensures.items)
      (λ k. each_pushed (λ (k z : ℕ). z ≡ c.args.first + k) c.loop-i.all.items c.loop-i.i
      (c.args.first + c.loop-i.i) c.loop-i.invariant.width
      (λ k x l. get_or_default c.loop-i.all.items k x 0 (omega (arith, l, c.loop-i.invariant.width))
      ∙ c.loop-i.invariant.variables k l)
      refl k 0);
}
