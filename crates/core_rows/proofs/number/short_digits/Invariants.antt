use Rattle.std.proofs.Common.{◌≡◌, ◌<◌, ◌^◌, drop}
use Rattle.core_rows.proofs.Digits.{digits_after}
use Rattle.core_rows.proofs.number.short_digits.Given as goal

abbrev pub invariant-loop-b : goal.invariant-loop-b
invariant-loop-b l = record {
  within : l.value < 10 ^ l.b-index;
  left : digits_after 0 l.field ≡ digits_after l.value (drop l.b-index l.field);
}
