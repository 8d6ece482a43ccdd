use Rattle.std.proofs.Common.{◌≡◌, ◌≤◌, drop}
use Rattle.core_rows.proofs.Digits.{more_digits}
use Rattle.core_rows.proofs.number.long_digits.Given as goal

abbrev pub invariant-loop-b : goal.invariant-loop-b
invariant-loop-b l = record {
  within : l.value ≤ l.greatest;
  left : more_digits l.greatest 0 l.field ≡ more_digits l.greatest l.value (drop l.b-index l.field);
}
