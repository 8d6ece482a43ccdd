use Rattle.std.proofs.Common.{◌≡◌, ℕ, suc, ◌<◌, length}
use Rattle.exact_frac.specs.Value128.{value128}
use Rattle.core_dict.specs.Dictionary.{where_stands}
use Rattle.core_dict.specs.Rows.{fraction_at}
use Rattle.core_duals.proofs.lists.values.Given as goal

abbrev pub invariant-loop-row : goal.invariant-loop-row
invariant-loop-row g l = record {
  width : length l.list.items ≡ (g.S.Store.dictionary l.dict).cols;
  each : (k : ℕ) → k < (g.S.Store.dictionary l.dict).cols
      → fraction_at value128 l.list.items k
      ≡ where_stands l.row (g.S.Store.dictionary l.dict).basic (suc k) (g.S.Store.dictionary l.dict).value;
}
