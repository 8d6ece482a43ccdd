-- Sound records of a whole case state a case that keeps all that every case keeps, and markets of different names.
use Rattle.std.proofs.Common.{◌≡◌, List, None}
use Rattle.core_rows.specs.Names.{Record}
use Rattle.core_case.specs.Faults.{first_fault}
use Rattle.core_book.specs.WellFormed.{IsCase}
use Rattle.core_case.specs.Stated.{case_of}
use Rattle.core_case.specs.Whole.{IsWhole}
use Rattle.core_case.proofs.WholeDays.{start-kept, horizon-kept, last-kept, holidays-kept, cash-kept}
use Rattle.core_case.proofs.WholeLists.{some-scenario, depth-kept, prices-kept}
use Rattle.core_case.proofs.WholeNames.{instruments-kept, markets-kept, pools-kept, members-kept, few-scenarios, scenario-names, scenarios-differ, market-names-differ}
use Rattle.core_case.proofs.WholeLines.{lines-kept}

-- the case that sound records state
case-of-sound : (rs : List Record) → first_fault rs ≡ None → IsCase (case_of rs)
case-of-sound rs e = record {
  start = start-kept rs e;
  horizon = horizon-kept rs e;
  last = last-kept rs e;
  holidays = holidays-kept rs e;
  instruments = instruments-kept rs e;
  markets = markets-kept rs e;
  depth = depth-kept rs e;
  pools = pools-kept rs e;
  members = members-kept rs e;
  scenarios = (some-scenario rs e, few-scenarios rs e, scenario-names rs e, scenarios-differ rs e);
  prices = prices-kept rs e;
  lines = lines-kept rs e;
  cash = cash-kept rs e;
}

-- and the names of its markets
pub whole-of-sound : (rs : List Record) → first_fault rs ≡ None → IsWhole rs
whole-of-sound rs e = record { kept = case-of-sound rs e; markets = market-names-differ rs e }
