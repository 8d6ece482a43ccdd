use Rattle.std.proofs.Common.{◌≡◌, ℕ, length, get_or, sym, ◌∙◌, subst, arith}
use Rattle.core_dict.specs.Dictionary.{where_stands}
use Rattle.core_dict.proofs.Lookups.{where_stands-at, where_stands-none}
use Rattle.core_sparse.proofs.shift.column_of.Goals as goal

pub returns-then-nonbasic-j : goal.returns-then-nonbasic-j
returns-then-nonbasic-j c =
    λ f zero. let vs = c.args.nonbasic.now in
    let here : get_or vs c.loop-j.j 0 ≡ c.args.variable = c.if-nonbasic-j.true in
    subst (λ (w : ℕ). where_stands (length vs) (λ j. get_or vs j 0) w f ≡ f c.loop-j.j) here
    (where_stands-at (length vs) (λ j. get_or vs j 0) c.loop-j.j f c.requires c.loop-j-test.true)

pub returns : goal.returns
returns c =
    λ f zero. let vs = c.args.nonbasic.now in
    where_stands-none (length vs) (λ j. get_or vs j 0) c.args.variable f
    (λ j l. c.loop-j.invariant.none j (omega (arith, l, c.loop-j-test.false)))
    ∙ sym (zero (length vs) (omega arith))
