use Rattle.std.proofs.Common.{rules, ◌≡◌, codes, refl}
use Rattle.core_rows.proofs.Plain.{row-plain-more, row-plain-one, word-plain}
use Rattle.core_gen.specs.Demo.{scenario_name}
use Rattle.core_gen.proofs.Printed.{scenario-plain}
use Rattle.core_gen.proofs.record.put_scenario.Goals as goal

pub put_record-requires : goal.put_record-requires
put_record-requires c =
    let named : c.as_str.result.now ≡ scenario_name c.args.k = search rules in
    row-plain-more _ _ (word-plain (codes "scenario") refl)
    (row-plain-one _ (rw named (scenario-plain c.args.k)))
