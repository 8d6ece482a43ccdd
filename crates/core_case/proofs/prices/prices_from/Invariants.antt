use Rattle.std.proofs.Common.{◌≡◌, ◌++◌, drop}
use Rattle.std.specs.List.{list_all}
use Rattle.core_case.specs.Faults.{is_price}
use Rattle.core_case.specs.Stated.{numbers_from}
use Rattle.core_case.proofs.prices.prices_from.Given as goal

abbrev pub invariant-loop-i : goal.invariant-loop-i
invariant-loop-i l = record {
  stated : l.prices.items ++ numbers_from l.i l.row ≡ numbers_from 3 l.row;
  sound : list_all is_price (drop 3 l.row) ≡ list_all is_price (drop l.i l.row);
}
