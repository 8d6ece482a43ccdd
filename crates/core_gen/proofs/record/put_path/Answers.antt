use Rattle.std.proofs.Common.{rules, ◌≡◌, codes, refl}
use Rattle.core_rows.proofs.Plain.{row-plain-more, row-plain-one, word-plain}
use Rattle.core_gen.specs.Demo.{instrument_name, scenario_name}
use Rattle.core_gen.proofs.Printed.{instrument-plain, scenario-plain}
use Rattle.core_gen.proofs.record.put_path.Goals as goal

pub put_record-requires : goal.put_record-requires
put_record-requires c =
    let scenario : c.as_str.result.now ≡ scenario_name c.args.k = search rules in
    let instrument : c.as_str-2.result.now ≡ instrument_name c.args.i = search rules in
    row-plain-more _ _ (word-plain (codes "path") refl)
    (row-plain-more _ _ (rw scenario (scenario-plain c.args.k))
    (row-plain-one _ (rw instrument (instrument-plain c.args.i))))

pub returns : goal.returns
returns c =
    let scenario : c.as_str.result.now ≡ scenario_name c.args.k = search rules in
    let instrument : c.as_str-2.result.now ≡ instrument_name c.args.i = search rules in
    rw (scenario, instrument, c.prices.ensures) at c.put_record.ensures
