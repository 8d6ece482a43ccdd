use Rattle.std.proofs.Common.{◌≡◌, sym, ◌∙◌, ap, subst, neg_ℤ, ◌+◌}
use Rattle.core_sums.specs.Places.{at}
use Rattle.core_replay.specs.Worse.{loss_at, IsWorstOfDays}
use Rattle.core_replay.proofs.FirstWorst.{worse_of, day-first, day-more}
use Rattle.core_replay.proofs.losses.worst_day.Goals as goal

pub loop-day-init : goal.loop-day-init
loop-day-init c =
    subst (IsWorstOfDays (λ t. neg_ℤ (at c.args.ledger.now.total t)) c.args.scenario 1) (sym c.loss_on-worst.ensures) (day-first c.args.ledger.now.total c.args.scenario)

pub loop-day-preserved : goal.loop-day-preserved
loop-day-preserved c =
    let totals = c.args.ledger.now.total in
    let worst = c.loop-day.worst in
    let step : c.worse-worst.result ≡ worse_of c.loop-day.worst (loss_at totals c.args.scenario c.loop-day.day) = c.worse-worst.ensures ∙ ap (worse_of c.loop-day.worst) c.loss_on.ensures in
    subst (IsWorstOfDays (λ t. neg_ℤ (at totals t)) c.args.scenario (c.loop-day.day + 1)) (sym step)
    (day-more totals c.args.scenario c.loop-day.day c.loop-day.worst c.loop-day.invariant)
