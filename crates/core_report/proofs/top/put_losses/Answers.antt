use Rattle.std.proofs.Common.{rules, ◌≡◌, ◌++◌, ◌∷◌, [], ◌∙◌, ap, map, suc, neg_ℤ, arith, ℕ}
use Rattle.core_sums.specs.Places.{at, below}
use Rattle.core_report.specs.Ranking.{loss_on}
use Rattle.core_report.proofs.Listed.{listed-more, listed-none}
use Rattle.core_report.proofs.top.put_losses.Goals as goal

pub loop-day-init : goal.loop-day-init
loop-day-init c = listed-none (loss_on c.args.scenario (λ t. neg_ℤ (at c.args.ledger.now.total t))) c.args.list.now.items

pub loop-day-preserved : goal.loop-day-preserved
loop-day-preserved c =
    let f = loss_on c.args.scenario (λ t. neg_ℤ (at c.args.ledger.now.total t)) in
    let pushed : c.push.new.self.items ≡ c.loop-day.list.items ++ (f c.loop-day.day ∷ []) = search rules in
    listed-more c.loop-day.day f _ _ _ c.loop-day.invariant pushed

pub returns : goal.returns
returns c =
    let f = loss_on c.args.scenario (λ t. neg_ℤ (at c.args.ledger.now.total t)) in
    let all : c.loop-day.day ≡ suc c.args.case.now.last = omega (arith, c.loop-day-test.false, c.loop-day.auto.day-end, c.last-last.ensures.value) in
    c.loop-day.invariant ∙ ap (λ (n : ℕ). c.args.list.now.items ++ map f (below n)) all
