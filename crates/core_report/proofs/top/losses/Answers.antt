use Rattle.std.proofs.Common.{rules, ◌≡◌, ◌++◌, [], ◌∙◌, sym, ap, arith, ℕ, length, neg_ℤ}
use Rattle.core_sums.specs.Places.{at, below, each}
use Rattle.core_sums.proofs.Joined.{each-more, each-none}
use Rattle.core_model.specs.Closing.{loss_of}
use Rattle.core_model.specs.OfCase.{planned}
use Rattle.core_report.specs.Ranking.{losses_by_day}
use Rattle.core_report.proofs.Replayed.{losses-replayed, totals-kept}
use Rattle.core_report.proofs.top.losses.Goals as goal

pub put_losses-requires : goal.put_losses-requires
put_losses-requires c =
    rw c.case-case.ensures.value
    (totals-kept c.args.accepted.now.calendar.case (planned c.args.accepted.now.calendar) c.loop-scenario.scenario c.in_ok-ledger.ledger (rw (c.case-case.ensures.value, c.calendar-calendar.ensures.value) at c.in_ok-ledger.ensures.replayed))

pub loop-scenario-init : goal.loop-scenario-init
loop-scenario-init c =
    let case = c.args.accepted.now.calendar.case in
    let none : c.new-list.result.items ≡ [] = search rules in
    none ∙ sym (each-none (λ k. losses_by_day case k (loss_of case (planned c.args.accepted.now.calendar) k)))

pub loop-scenario-preserved : goal.loop-scenario-preserved
loop-scenario-preserved c =
    let case = c.args.accepted.now.calendar.case in
    let a = planned c.args.accepted.now.calendar in
    let k = c.loop-scenario.scenario in
    let f = λ (k : ℕ). losses_by_day case k (loss_of case a k) in
    let put : c.put_losses.new.list.items ≡ c.loop-scenario.list.items ++ losses_by_day case k (λ t. neg_ℤ (at c.in_ok-ledger.ledger.total t)) = search rules in
    put
    ∙ ap (λ xs. c.loop-scenario.list.items ++ xs) (losses-replayed case a k c.in_ok-ledger.ledger (rw (c.case-case.ensures.value, c.calendar-calendar.ensures.value) at c.in_ok-ledger.ensures.replayed))
    ∙ ap (λ xs. xs ++ f k) c.loop-scenario.invariant
    ∙ sym (each-more k f)

pub returns-clause-listed : goal.returns-clause-listed
returns-clause-listed c =
    let case = c.args.accepted.now.calendar.case in
    let done : c.loop-scenario.scenario ≡ length case.scenarios =
    omega (arith, c.loop-scenario-test.false, c.loop-scenario.auto.scenario-end, (rw c.case-case.ensures.value at c.scenarios-scenario-end.ensures)) in
    c.loop-scenario.invariant ∙ ap (λ (n : ℕ). each (below n) (λ k. losses_by_day case k (loss_of case (planned c.args.accepted.now.calendar) k))) done
