use Rattle.std.proofs.Common.{◌≡◌, rules, refl, ◌*ℤ◌, FitsSigned, w64}
use Rattle.std.proofs.lemmas.Int.{to_z-of_z}
use mir.Syntax.{w128}
use Rattle.core_flows.proofs.Sizes.{product-fits}
use Rattle.core_flows.proofs.units.product.Goals as goal

pub overflow_mul-result : goal.overflow_mul-result
overflow_mul-result c =
    let x_fits : FitsSigned w64 c.args.x = search rules in
    let y_fits : FitsSigned w64 c.args.y = search rules in
    let first : c.from.result ≡ c.args.x = search rules in
    let second : c.from-2.result ≡ c.args.y = search rules in
    let left : FitsSigned w128 c.from.result = search rules in
    let right : FitsSigned w128 c.from-2.result = search rules in
    simp to_z-of_z (rw (first, second) (product-fits c.args.x c.args.y x_fits y_fits))

pub returns : goal.returns
returns c =
    let x_fits : FitsSigned w64 c.args.x = search rules in
    let y_fits : FitsSigned w64 c.args.y = search rules in
    let first : c.from.result ≡ c.args.x = search rules in
    let second : c.from-2.result ≡ c.args.y = search rules in
    let left : FitsSigned w128 c.from.result = search rules in
    let right : FitsSigned w128 c.from-2.result = search rules in
    let same : c.from.result *ℤ c.from-2.result ≡ c.args.x *ℤ c.args.y = rw (first, second) refl in
    let whole : FitsSigned w128 (c.from.result *ℤ c.from-2.result) = rw same (product-fits c.args.x c.args.y x_fits y_fits) in
    simp to_z-of_z same
