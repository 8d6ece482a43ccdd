use Rattle.std.proofs.Common.{◌≡◌, rules, refl, ◌∙◌, ap, ◌-ℤ◌, FitsSigned, w64}
use Rattle.std.proofs.lemmas.Int.{to_z-of_z}
use Rattle.core_book.specs.View.{instrument_of, price, day_before}
use Rattle.core_model.proofs.Sizes.{instrument-known, change-fits}
use Rattle.core_replay.proofs.Sizes.{marked-within}
use Rattle.core_replay.proofs.flows.price_change.Goals as goal

pub price-requires-2-clause-day : goal.price-requires-2-clause-day
price-requires-2-clause-day c =
    rw c.requires.marked (marked-within c.args.case.now (instrument_of c.args.case.now c.args.l) c.args.t c.requires.day)

pub overflow_sub-result : goal.overflow_sub-result
overflow_sub-result c =
    let case = c.args.case.now in
    let i = instrument_of case c.args.l in
    let after : FitsSigned w64 c.price.result = search rules in
    let before : FitsSigned w64 c.price-2.result = search rules in
    let first : c.price.result ≡ price case c.args.scenario i c.args.t =
    c.price.ensures ∙ ap (λ x. price case c.args.scenario x.instrument c.args.t) c.line-i.ensures in
    let second : c.price-2.result ≡ price case c.args.scenario i (day_before case i c.args.t) =
    c.price-2.ensures ∙ ap (λ x. price case c.args.scenario x.instrument c.args.marked_on) c.line-i.ensures
    ∙ ap (λ s. price case c.args.scenario i s) c.requires.marked in
    simp to_z-of_z
    (rw (first, second)
    (change-fits case c.args.scenario i (day_before case i c.args.t) c.args.t c.well_formed-2.ensures c.requires.scenario
    (instrument-known case c.args.l c.well_formed-2.ensures c.requires.line) (marked-within case i c.args.t c.requires.day) c.requires.day))

pub returns : goal.returns
returns c =
    let case = c.args.case.now in
    let i = instrument_of case c.args.l in
    let after : FitsSigned w64 c.price.result = search rules in
    let before : FitsSigned w64 c.price-2.result = search rules in
    let first : c.price.result ≡ price case c.args.scenario i c.args.t =
    c.price.ensures ∙ ap (λ x. price case c.args.scenario x.instrument c.args.t) c.line-i.ensures in
    let second : c.price-2.result ≡ price case c.args.scenario i (day_before case i c.args.t) =
    c.price-2.ensures ∙ ap (λ x. price case c.args.scenario x.instrument c.args.marked_on) c.line-i.ensures
    ∙ ap (λ s. price case c.args.scenario i s) c.requires.marked in
    let whole : FitsSigned w64 (c.price.result -ℤ c.price-2.result) =
    rw (first, second)
    (change-fits case c.args.scenario i (day_before case i c.args.t) c.args.t c.well_formed-2.ensures c.requires.scenario
    (instrument-known case c.args.l c.well_formed-2.ensures c.requires.line) (marked-within case i c.args.t c.requires.day) c.requires.day) in
    simp to_z-of_z (rw (first, second) refl)
