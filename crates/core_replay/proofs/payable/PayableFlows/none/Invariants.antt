use Rattle.std.proofs.Common.{◌≡◌, map, replicate, []}
use Rattle.core_replay.proofs.payable.PayableFlows.none.Given as goal

abbrev pub invariant-loop : goal.invariant-loop
invariant-loop l = map (λ flows. flows.items) l.by_day.items ≡ replicate l.counter []
