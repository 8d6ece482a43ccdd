use Rattle.std.proofs.Common.{rules, arith, sym, ◌∙◌, ap, FitsSigned, w64}
use Rattle.std.proofs.lemmas.Int.{to_z-of_z}
use Rattle.core_sums.specs.Places.{at}
use Rattle.core_book.proofs.Lookups.{paths-of, path-of}
use Rattle.core_book.proofs.case.Case.price.Goals as goal

pub index-requires-2 : goal.index-requires-2
index-requires-2 c =
    let paths = paths-of c.self.inside c.args.self.now c.args.k c.index.result.now c.self.view_is c.self.invariant c.requires.scenario c.index.ensures in
    omega (arith, paths.0)

pub number_at-requires : goal.number_at-requires
number_at-requires c =
    let path = path-of c.self.inside c.args.self.now c.args.k c.args.i c.index.result.now c.index-2.result.now c.self.view_is c.self.invariant c.requires.scenario c.requires.instrument c.index.ensures c.index-2.ensures in
    omega (arith, path.0)

pub returns : goal.returns
returns c =
    let fits : FitsSigned w64 c.number_at.result = search rules in
    let path = path-of c.self.inside c.args.self.now c.args.k c.args.i c.index.result.now c.index-2.result.now c.self.view_is c.self.invariant c.requires.scenario c.requires.instrument c.index.ensures c.index-2.ensures in
    rw to_z-of_z (c.number_at.ensures ∙ ap (λ r. at r c.args.t) (sym path.1))
