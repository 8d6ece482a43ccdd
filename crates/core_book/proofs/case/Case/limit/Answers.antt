use Rattle.std.proofs.Common.{rules, arith, sym, ◌∙◌, ap, ◌-◌, FitsSigned, w64}
use Rattle.std.proofs.lemmas.Int.{to_z-of_z}
use Rattle.core_sums.specs.Places.{at}
use Rattle.core_book.proofs.Lookups.{tier-row}
use Rattle.core_book.proofs.case.Case.limit.Goals as goal

pub number_at-requires : goal.number_at-requires
number_at-requires c =
    let row = tier-row c.self.inside c.args.self.now c.args.i (c.args.j - 1) c.index.result.now c.deref.result.now c.in-Some.tier.now c.self.view_is c.self.invariant c.requires.instrument c.index.ensures c.deref.ensures.value c.in-Some.ensures.lookup.3.0 c.in-Some.ensures.lookup.1 in
    omega (arith, row.1, c.requires.from, c.requires.to)

pub returns-in-Some : goal.returns-in-Some
returns-in-Some c =
    let fits : FitsSigned w64 c.number_at.result = search rules in
    let row = tier-row c.self.inside c.args.self.now c.args.i (c.args.j - 1) c.index.result.now c.deref.result.now c.in-Some.tier.now c.self.view_is c.self.invariant c.requires.instrument c.index.ensures c.deref.ensures.value c.in-Some.ensures.lookup.3.0 c.in-Some.ensures.lookup.1 in
    rw to_z-of_z (c.number_at.ensures ∙ ap (λ t. at t.limits (c.args.u - 1)) (sym row.0))
