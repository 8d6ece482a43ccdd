use Rattle.std.proofs.Common.{rules, refl, SFits}
use mir.Syntax.{w64}
use Rattle.exact_frac.specs.Value64.{value64}
use Rattle.exact_frac.proofs.Results.{zero_by_num}
use Rattle.exact_frac.proofs.frac64.Frac64.is_zero.Goals as goal

pub returns : goal.returns
returns c =
    let f : SFits w64 c.args.self.num = search rules in
    zero_by_num (value64 c.args.self) f refl
