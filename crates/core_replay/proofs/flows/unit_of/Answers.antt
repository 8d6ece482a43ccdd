use Rattle.std.proofs.Common.{◌≡◌, rules, sym, ◌∙◌, ap, ◌*ℤ◌, FitsSigned, w64}
use Rattle.std.proofs.lemmas.Int.{to_z-of_z}
use Rattle.core_book.specs.View.{instrument, instrument_of, price}
use Rattle.core_book.specs.declared.parts.Kind.TheVariants.{Future, Security}
use Rattle.core_model.specs.Closing.{kind_of, size}
use Rattle.core_replay.specs.Steps.{unit_by}
use Rattle.core_replay.proofs.Sizes.{unit-fits}
use Rattle.core_replay.proofs.flows.unit_of.Goals as goal

pub overflow_mul-result : goal.overflow_mul-result
overflow_mul-result c =
    let left : FitsSigned w64 c.size.result = search rules in
    let right : FitsSigned w64 c.price_change.result = search rules in
    let same : c.size.result *ℤ c.price_change.result ≡ unit_by Future c.args.case.now c.args.scenario c.args.l c.args.t =
    ap (λ z. z *ℤ c.price_change.result) c.size.ensures ∙ ap (λ z. size c.args.case.now c.args.l *ℤ z) c.price_change.ensures in
    simp to_z-of_z (rw same (unit-fits Future c.args.case.now c.args.scenario c.args.l c.args.t c.well_formed-2.ensures c.requires.scenario c.requires.line c.requires.day))

pub overflow_mul-result-in-Security : goal.overflow_mul-result-in-Security
overflow_mul-result-in-Security c =
    let left : FitsSigned w64 c.size-in-Security.result = search rules in
    let right : FitsSigned w64 c.price.result = search rules in
    let here : c.price.result ≡ price c.args.case.now c.args.scenario (instrument_of c.args.case.now c.args.l) c.args.t =
    c.price.ensures ∙ ap (λ x. price c.args.case.now c.args.scenario x.instrument c.args.t) c.line-i.ensures in
    let same : c.size-in-Security.result *ℤ c.price.result ≡ unit_by Security c.args.case.now c.args.scenario c.args.l c.args.t =
    ap (λ z. z *ℤ c.price.result) c.size-in-Security.ensures ∙ ap (λ z. size c.args.case.now c.args.l *ℤ z) here in
    simp to_z-of_z (rw same (unit-fits Security c.args.case.now c.args.scenario c.args.l c.args.t c.well_formed-2.ensures c.requires.scenario c.requires.line c.requires.day))

pub returns-in-Future : goal.returns-in-Future
returns-in-Future c =
    let left : FitsSigned w64 c.size.result = search rules in
    let right : FitsSigned w64 c.price_change.result = search rules in
    let same : c.size.result *ℤ c.price_change.result ≡ unit_by Future c.args.case.now c.args.scenario c.args.l c.args.t =
    ap (λ z. z *ℤ c.price_change.result) c.size.ensures ∙ ap (λ z. size c.args.case.now c.args.l *ℤ z) c.price_change.ensures in
    let whole : FitsSigned w64 (c.size.result *ℤ c.price_change.result) =
    rw same (unit-fits Future c.args.case.now c.args.scenario c.args.l c.args.t c.well_formed-2.ensures c.requires.scenario c.requires.line c.requires.day) in
    let kind : kind_of c.args.case.now c.args.l ≡ Future =
    ap (λ x. (instrument c.args.case.now x.instrument).kind) (sym c.line-i.ensures) ∙ ap (λ x. x.kind) (sym c.instrument.ensures) ∙ c.in-Future.is in
    simp to_z-of_z (same ∙ ap (λ k. unit_by k c.args.case.now c.args.scenario c.args.l c.args.t) (sym kind))

pub returns-in-Security : goal.returns-in-Security
returns-in-Security c =
    let left : FitsSigned w64 c.size-in-Security.result = search rules in
    let right : FitsSigned w64 c.price.result = search rules in
    let here : c.price.result ≡ price c.args.case.now c.args.scenario (instrument_of c.args.case.now c.args.l) c.args.t =
    c.price.ensures ∙ ap (λ x. price c.args.case.now c.args.scenario x.instrument c.args.t) c.line-i.ensures in
    let same : c.size-in-Security.result *ℤ c.price.result ≡ unit_by Security c.args.case.now c.args.scenario c.args.l c.args.t =
    ap (λ z. z *ℤ c.price.result) c.size-in-Security.ensures ∙ ap (λ z. size c.args.case.now c.args.l *ℤ z) here in
    let whole : FitsSigned w64 (c.size-in-Security.result *ℤ c.price.result) =
    rw same (unit-fits Security c.args.case.now c.args.scenario c.args.l c.args.t c.well_formed-2.ensures c.requires.scenario c.requires.line c.requires.day) in
    let kind : kind_of c.args.case.now c.args.l ≡ Security =
    ap (λ x. (instrument c.args.case.now x.instrument).kind) (sym c.line-i.ensures) ∙ ap (λ x. x.kind) (sym c.instrument.ensures) ∙ c.in-Security.is in
    simp to_z-of_z (same ∙ ap (λ k. unit_by k c.args.case.now c.args.scenario c.args.l c.args.t) (sym kind))
