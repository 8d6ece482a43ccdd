use Rattle.std.proofs.Common.{◌≡◌, ◌≢◌, ℕ, ◌<◌, unsigned_abs}
use Rattle.fractions.specs.Leaves.{LessTimesLeaves}
use Rattle.core_dict.specs.Rows.{fraction_at, entry_after}
use Rattle.core_dict.proofs.steps.other_entries.Given as goal

abbrev pub invariant-loop-j : goal.invariant-loop-j
invariant-loop-j g l = record {
  entries : (k : ℕ) → k < l.j
      → fraction_at g.E.Exact.value l.after k
      ≡ entry_after (g.E.Exact.value l.fn.pivot) l.col (fraction_at g.E.Exact.value l.own)
      (fraction_at g.E.Exact.value l.before) k;
  fits : (k : ℕ) → k < l.j → k ≢ l.col
      → LessTimesLeaves (unsigned_abs g.E.Exact.MOST) (fraction_at g.E.Exact.value l.before k)
      (fraction_at g.E.Exact.value l.before l.col) (fraction_at g.E.Exact.value l.own k)
      → ⊥;
}
