use Rattle.std.proofs.Common.{◌≡◌, ℕ, suc, ◌+◌, ◌<◌, length}
use Rattle.exact_frac.specs.Value128.{value128}
use Rattle.core_dict.specs.Dictionary.{where_stands}
use Rattle.core_dict.specs.Rows.{fraction_at}
use Rattle.core_duals.proofs.lists.coefficients.Given as goal

abbrev pub invariant-loop-col : goal.invariant-loop-col
invariant-loop-col g l = record {
  width : length l.list.items ≡ (g.S.Store.dictionary l.dict).rows;
  each : (k : ℕ) → k < (g.S.Store.dictionary l.dict).rows
      → fraction_at value128 l.list.items k
      ≡ where_stands l.col (g.S.Store.dictionary l.dict).nonbasic (suc (l.cols + k))
      ((g.S.Store.dictionary l.dict).entry l.row);
}
