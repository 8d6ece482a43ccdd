use Rattle.std.proofs.Common.{◌≡◌, ℕ, ◌<◌, ◌≤◌, length, map, unsigned_abs}
use Rattle.core_sums.specs.Places.{at}
use Rattle.fractions.specs.Common.{common_den, numerator_over}
use Rattle.exact_frac.specs.Value128.{value128}
use Rattle.core_sums.specs.Widths.{most}
use Rattle.core_dict.specs.Rows.{fraction_at}
use Rattle.core_duals.proofs.scaled.over_common.Given as goal

abbrev pub invariant-loop-i : goal.invariant-loop-i
invariant-loop-i l = record {
  width : length l.nums ≡ length l.list;
  each : (k : ℕ) → k < l.i
      → at l.nums k
      ≡ numerator_over (common_den (map value128 l.list)) (fraction_at value128 l.list k);
  fits : (k : ℕ) → k < l.i
      → unsigned_abs (numerator_over (common_den (map value128 l.list)) (fraction_at value128 l.list k))
      ≤ most;
}
