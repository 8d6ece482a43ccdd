use Rattle.std.proofs.Common.{◌≡◌, ℕ, suc, ◌+◌, ◌<◌, List, sym, ap, ◌∙◌, subst, arith, cond, eqb}
use Rattle.fractions.specs.Fraction.{one_q, zero_q}
use Rattle.core_dict.specs.Rows.{fraction_at}
use Rattle.core_dict.proofs.Choice.{at_equal, at_other}
use Rattle.core_dict.proofs.Reading.{more_pushed}
use Rattle.core_dict.proofs.fill.costs.Goals as goal
use Rattle.core_dict.proofs.fill.costs.Goals.{then-j-cols, else-j-cols}

pub loop-j-preserved : goal.loop-j-preserved
loop-j-preserved g c =
    let number : g.E.Exact.value c.if-j-cols.push ≡ cond (eqb (suc c.loop-j.j) c.args.cols) one_q zero_q =
    elim c.if-j-cols.branch [
      | then-j-cols w ↦ ap g.E.Exact.value w.push-is ∙ w.one.ensures
          ∙ sym (at_equal (suc c.loop-j.j) c.args.cols _ _ (omega (arith, w.if-j-cols.true)))
      | else-j-cols w ↦ ap g.E.Exact.value w.push-is ∙ w.zero.ensures
          ∙ sym (at_other (suc c.loop-j.j) c.args.cols _ _ (λ e. w.if-j-cols.false (omega (arith, e))))
    ] in
    record {
      width = omega (arith, c.loop-j.invariant.width, c.in_ok-push.ensures.len, c.push.new.self.ok.0, c.loop-j.all.ok.0);
      costs = subst
          (λ (xs : List _). (k : ℕ) → k < c.loop-j.j + 1 → fraction_at g.E.Exact.value xs k
          ≡ cond (eqb (suc k) c.args.cols) one_q zero_q)
          (sym c.in_ok-push.ensures.items)
          (more_pushed g.E.Exact.value c.loop-j.all.items c.loop-j.j c.if-j-cols.push
          (λ k. cond (eqb (suc k) c.args.cols) one_q zero_q) c.loop-j.invariant.width c.loop-j.invariant.costs number);
    }
