use Rattle.std.proofs.Common.{rules, ◌≡◌, ◌∷◌, ◌++◌, []}
use Rattle.core_sums.specs.Places.{days_to, each}
use Rattle.core_gen.specs.Demo.{demo_text, end_record, heading_records, instrument_records, scenario_records}
use Rattle.core_gen.proofs.Computed.{demo_text-short}
use Rattle.core_gen.proofs.Printed.{Adds, both}
use Rattle.core_gen.proofs.demo.demo_case.Goals as goal
use Rattle.core_gen.proofs.demo.demo_case.Goals.{In_ok-put_end}

text_is : (c : In_ok-put_end) → c.put_end.new.out.items ≡ demo_text c.args.n
text_is c =
    let instruments = each (days_to c.args.n) instrument_records in
    let scenarios = each (days_to 4) (scenario_records c.args.n) in
    let first = c.put_heading.new.out.items in
    let second = c.put_instruments.new.out.items in
    let third = c.put_scenarios.new.out.items in
    let one : Adds [] heading_records first = search rules in
    let two : Adds first instruments second = search rules in
    let three : Adds second scenarios third = search rules in
    let four : Adds third (end_record ∷ []) c.put_end.new.out.items = search rules in
    both [] third _ (heading_records ++ instruments ++ scenarios) (end_record ∷ [])
    (both [] second third (heading_records ++ instruments) scenarios
    (both [] first second heading_records instruments one two) three) four

pub returns-clause-text : goal.returns-clause-text
returns-clause-text c = text_is c

pub returns-clause-size : goal.returns-clause-size
returns-clause-size c = rw (text_is c) (demo_text-short c.args.n c.requires.most)
