use Rattle.std.proofs.Common.{◌≡◌, ℕ, suc, ◌<◌, ◌==◌, length, if◌then◌else◌}
use Rattle.fractions.specs.Fraction.{one_q, zero_q}
use Rattle.core_dict.specs.Rows.{fraction_at}
use Rattle.core_dict.proofs.fill.costs.Given as goal

abbrev pub invariant-loop-j : goal.invariant-loop-j
invariant-loop-j g l = record {
  width : length l.all.items ≡ l.j;
  costs : (k : ℕ) → k < l.j
      → fraction_at g.E.Exact.value l.all.items k ≡ (if suc k == l.cols then one_q else zero_q);
}
