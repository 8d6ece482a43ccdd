use Rattle.std.proofs.Common.{◌≡◌, FitsSigned}
use mir.Syntax.{w128}
use Rattle.std.proofs.lemmas.Int.{to_z-of_z}
use Rattle.core_book.specs.View.{member}
use Rattle.core_check.proofs.ChargeTerms.{other-member}
use Rattle.core_check.proofs.charges.plus_member_charge.Goals as goal

pub returns-then-member-i : goal.returns-then-member-i
returns-then-member-i c =
    let fits : FitsSigned w128 c.args.sum = c.ranges.sum in
    let same : (member c.args.weights.now.case c.args.m).instrument ≡ c.member-member.result.instrument = cc (rw c.case-case.ensures.value at c.member-member.ensures) in
    simp to_z-of_z (other-member c.args.weights.now.case c.args.weights.now.weights c.args.i c.args.u c.args.m c.args.sum (λ e. c.if-member-i.true (cc)))
