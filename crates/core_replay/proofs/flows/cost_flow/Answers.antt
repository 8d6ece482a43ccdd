use Rattle.std.proofs.Common.{◌≡◌, rules, arith, sym, ◌∙◌, ap, subst, true, ◌≤◌, pos, ◌+ℤ◌, ◌*ℤ◌, neg_ℤ, FitsSigned, w64, MatchOption}
use mir.Syntax.{w128}
use Rattle.std.proofs.lemmas.Int.{ints, to_z-of_z}
use Rattle.core_sums.proofs.Ring.{neg-*ℤ}
use Rattle.core_book.specs.View.{instrument_of, is_open, cost}
use Rattle.core_model.specs.Closing.{cost_flow}
use Rattle.core_model.specs.OfCase.{planned}
use Rattle.core_wide.specs.Steps.{Leaves, Stays}
use Rattle.core_replay.proofs.LineFlows.{cost-within}
use Rattle.core_replay.proofs.flows.cost_flow.Goals as goal

pub returns-then-t-horizon : goal.returns-then-t-horizon
returns-then-t-horizon c =
    let case = c.args.calendar.now.case in
    let a = planned c.args.calendar.now in
    let i = instrument_of case c.args.l in
    let opens : is_open case i c.args.t ≡ true = ap (λ x. is_open case x.instrument c.args.t) (sym (rw c.case-case.ensures.value at c.line-i.ensures)) ∙ sym (rw c.case-case.ensures.value at c.is_open.ensures) ∙ c.if-is_open.true in
    let within : c.args.t ≤ case.horizon = omega (arith, c.if-t-horizon.true, (rw c.case-case.ensures.value at c.horizon.ensures.value)) in
    let narrow : FitsSigned w64 c.cost-cost.result = search rules in
    let wide : FitsSigned w128 c.from.result = search rules in
    let low : FitsSigned w128 (pos 0 +ℤ neg_ℤ c.from.result) = search rules in
    let amount : FitsSigned w128 c.amount.result = search rules in
    let price : c.from.result ≡ cost case i c.args.j =
    (simp to_z-of_z at c.from.ensures) ∙ (rw c.case-case.ensures.value at c.cost-cost.ensures) ∙ ap (λ x. cost case x.instrument c.args.j) (rw c.case-case.ensures.value at c.line-i.ensures) in
    let none : pos 0 +ℤ neg_ℤ c.from.result ≡ neg_ℤ c.from.result = omega (arith, ints) in
    let value : (pos 0 +ℤ neg_ℤ c.from.result) *ℤ c.amount.result ≡ cost_flow case a c.args.l c.args.t c.args.j =
    ap (λ z. z *ℤ c.amount.result) none
    ∙ neg-*ℤ c.from.result c.amount.result
    ∙ ap (λ z. neg_ℤ (z *ℤ c.amount.result)) price
    ∙ ap (λ z. neg_ℤ (cost case i c.args.j *ℤ z)) c.amount.ensures
    ∙ sym (cost-within case a c.args.l c.args.t c.args.j opens within) in
    let plain : MatchOption c.times.result (Leaves ((pos 0 +ℤ neg_ℤ c.from.result) *ℤ c.amount.result))
    (λ r. (r ≡ (pos 0 +ℤ neg_ℤ c.from.result) *ℤ c.amount.result) × Stays ((pos 0 +ℤ neg_ℤ c.from.result) *ℤ c.amount.result)) = simp to_z-of_z at c.times.ensures in
    subst (λ z. MatchOption c.times.result (Leaves z) (λ r. (r ≡ z) × Stays z)) value plain
