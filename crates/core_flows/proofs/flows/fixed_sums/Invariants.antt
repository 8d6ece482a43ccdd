use Rattle.std.proofs.Common.{◌≡◌}
use Rattle.core_sums.specs.Sums.{sum_below}
use Rattle.core_book.specs.View.{cash}
use Rattle.core_model.specs.Closing.{fixed}
use Rattle.core_flows.specs.Tables.{IsTable}
use Rattle.core_flows.proofs.flows.fixed_sums.Given as goal

-- the sums so far, of which the last is the sum
abbrev pub invariant-loop-t : goal.invariant-loop-t
invariant-loop-t l = record {
  sum : l.sum ≡ sum_below l.t (cash l.case);
  sums : IsTable l.t (λ t z. z ≡ fixed l.case t) l.sums.items;
}
