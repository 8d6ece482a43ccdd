use Rattle.std.proofs.Common.{◌≡◌, ℕ, ◌<◌, length}
use Rattle.fractions.specs.Fraction.{whole}
use Rattle.core_dict.specs.Programme.{entry}
use Rattle.core_dict.specs.Rows.{fraction_at}
use Rattle.core_dict.proofs.fill.entries.Given as goal

abbrev pub invariant-loop-j : goal.invariant-loop-j
invariant-loop-j g l = record {
  width : length l.all.items ≡ l.j;
  entries : (k : ℕ) → k < l.j → fraction_at g.E.Exact.value l.all.items k ≡ whole (entry l.programme l.row k);
}
