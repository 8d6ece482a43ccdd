use Rattle.std.proofs.Common.{◌≡◌, ℕ, ◌<◌, unsigned_abs}
use Rattle.fractions.specs.Fraction.{◌/ℚ◌}
use Rattle.fractions.specs.Leaves.{OverLeaves}
use Rattle.core_dict.specs.Rows.{fraction_at, divided_entry}
use Rattle.core_dict.proofs.steps.own_entries.Given as goal

abbrev pub invariant-loop-j : goal.invariant-loop-j
invariant-loop-j g l = record {
  entries : (k : ℕ) → k < l.j
      → fraction_at g.E.Exact.value l.after k
      ≡ divided_entry l.col (fraction_at g.E.Exact.value l.before) k /ℚ fraction_at g.E.Exact.value l.before l.col;
  fits : (k : ℕ) → k < l.j
      → OverLeaves (unsigned_abs g.E.Exact.MOST) (divided_entry l.col (fraction_at g.E.Exact.value l.before) k)
      (fraction_at g.E.Exact.value l.before l.col)
      → ⊥;
}
