use Rattle.std.proofs.Common.{◌≡◌, rules, ◌*ℤ◌, FitsSigned, w64}
use Rattle.std.proofs.lemmas.Int.{to_z-of_z}
use Rattle.core_model.specs.Closing.{size}
use Rattle.core_model.proofs.Sizes.{size-fits}
use Rattle.core_replay.proofs.flows.size.Goals as goal

pub overflow_mul-result : goal.overflow_mul-result
overflow_mul-result c =
    let sign : FitsSigned w64 c.from.result = search rules in
    let mult : FitsSigned w64 c.instrument.result.mult = search rules in
    let same : c.from.result *ℤ c.instrument.result.mult ≡ size c.args.case.now c.args.l = search rules in
    simp to_z-of_z (rw same (size-fits c.args.case.now c.args.l c.well_formed-2.ensures c.requires.line))

pub returns : goal.returns
returns c =
    let sign : FitsSigned w64 c.from.result = search rules in
    let mult : FitsSigned w64 c.instrument.result.mult = search rules in
    let same : c.from.result *ℤ c.instrument.result.mult ≡ size c.args.case.now c.args.l = search rules in
    let whole : FitsSigned w64 (c.from.result *ℤ c.instrument.result.mult) = rw same (size-fits c.args.case.now c.args.l c.well_formed-2.ensures c.requires.line) in
    simp to_z-of_z same
