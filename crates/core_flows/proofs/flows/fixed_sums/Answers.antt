use Rattle.std.proofs.Common.{◌≡◌, rules, arith, refl, ◌∙◌, ap, suc, ◌+◌, ◌+ℤ◌, FitsSigned, w64}
use Rattle.std.proofs.lemmas.Int.{to_z-of_z}
use mir.Syntax.{w128}
use mir.Val.{to_z, of_z}
use Rattle.core_sums.specs.Sums.{sum_below}
use Rattle.core_book.specs.View.{cash}
use Rattle.core_model.specs.Closing.{fixed}
use Rattle.core_flows.proofs.Sizes.{cash-sum-fits, cash-sum-more}
use Rattle.core_flows.proofs.Lists.{table-none, table-pushed}
use Rattle.core_flows.proofs.flows.fixed_sums.Goals as goal

pub loop-t-init : goal.loop-t-init
unfolding sum_below
loop-t-init c = record { sum = refl; sums = table-none (λ t z. z ≡ fixed c.args.case.now t) c.in_ok-sums.sums.items c.in_ok-sums.ensures.items }

pub overflow_add-sum : goal.overflow_add-sum
overflow_add-sum c =
    let amount : FitsSigned w64 c.cash.result = search rules in
    let here : c.from-sum.result ≡ cash c.args.case.now c.loop-t.t = (simp to_z-of_z at c.from-sum.ensures) ∙ c.cash.ensures in
    let wide : FitsSigned w128 c.from-sum.result = search rules in
    let more : to_z w128 c.loop-t.sum-bits +ℤ c.from-sum.result ≡ sum_below (c.loop-t.t + 1) (cash c.args.case.now) =
    cash-sum-more c.args.case.now c.loop-t.t (to_z w128 c.loop-t.sum-bits) c.from-sum.result c.loop-t.invariant.sum here in
    simp to_z-of_z (rw more (cash-sum-fits c.args.case.now (c.loop-t.t + 1) c.requires.kept (omega arith)))

pub loop-t-preserved : goal.loop-t-preserved
loop-t-preserved c =
    let amount : FitsSigned w64 c.cash.result = search rules in
    let here : c.from-sum.result ≡ cash c.args.case.now c.loop-t.t = (simp to_z-of_z at c.from-sum.ensures) ∙ c.cash.ensures in
    let wide : FitsSigned w128 c.from-sum.result = search rules in
    let more : to_z w128 c.loop-t.sum-bits +ℤ c.from-sum.result ≡ sum_below (c.loop-t.t + 1) (cash c.args.case.now) =
    cash-sum-more c.args.case.now c.loop-t.t (to_z w128 c.loop-t.sum-bits) c.from-sum.result c.loop-t.invariant.sum here in
    let whole : FitsSigned w128 (to_z w128 c.loop-t.sum-bits +ℤ c.from-sum.result) = rw more (cash-sum-fits c.args.case.now (c.loop-t.t + 1) c.requires.kept (omega arith)) in
    let sum : to_z w128 (of_z w128 (to_z w128 c.loop-t.sum-bits +ℤ to_z w128 (of_z w128 c.from-sum.result))) ≡ sum_below (c.loop-t.t + 1) (cash c.args.case.now) =
    simp to_z-of_z more in
    let next : c.loop-t.t + 1 ≡ suc c.loop-t.t = omega arith in
    record {
      sum = sum;
      sums =
          table-pushed (λ t z. z ≡ fixed c.args.case.now t) c.loop-t.t c.loop-t.sums.items c.push.new.self.items
          (to_z w128 (of_z w128 (to_z w128 c.loop-t.sum-bits +ℤ to_z w128 (of_z w128 c.from-sum.result)))) c.loop-t.invariant.sums
          (sum ∙ ap (λ n. sum_below n (cash c.args.case.now)) next) c.in_ok-push.ensures.items;
    }
