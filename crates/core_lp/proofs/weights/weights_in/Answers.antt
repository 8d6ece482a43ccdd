use Rattle.std.proofs.Common.{◌≡◌, ◌∙◌, sym, ap, subst, ◌+◌, ◌<◌, ◌^◌, replicate, pos, length, set, arith, unsigned_abs, FitsSigned, w64}
use Rattle.std.proofs.lemmas.Int.{ints, to_z-of_z, fits_signed_from_abs}
use Rattle.core_book.specs.View.{member}
use Rattle.core_lp.proofs.Pools.{AreWeights, member-kept, weights-none, weights-other, weights-own, weights-all}
use Rattle.core_lp.proofs.weights.weights_in.Goals as goal
use Rattle.core_lp.proofs.weights.weights_in.Goals.{then-member-pool, else-member-pool}

pub loop-m-init : goal.loop-m-init
loop-m-init c =
    let case = c.args.case.now in
    let is : c.in_ok-weights.weights.items ≡ replicate (length case.instruments) (pos 0) =
    c.in_ok-weights.ensures.items_if_clones_equal (λ y e. e) ∙ ap (λ n. replicate n (pos 0)) c.instruments.ensures in
    subst (AreWeights case c.args.pool 0) (sym is) (weights-none case c.args.pool)

pub loop-m-preserved : goal.loop-m-preserved
loop-m-preserved c =
    let case = c.args.case.now in
    let x = c.member-member.result in
    let is : x ≡ member case c.loop-m.m = c.member-member.ensures in
    let under : c.loop-m.m < length case.members = omega (arith, c.loop-m-test.true, c.members-m-end.ensures) in
    let kept = member-kept case c.loop-m.m c.requires under in
    let pool = ap (λ y. y.pool) is in
    let weight : x.weight ≡ (member case c.loop-m.m).weight = ap (λ y. y.weight) is in
    let small : unsigned_abs x.weight < 2 ^ 63 = omega (arith, ints, weight, kept.weight.0, kept.weight.1) in
    let fits : FitsSigned w64 x.weight = fits_signed_from_abs w64 x.weight small in
    let items = c.loop-m.weights.items in
    elim c.if-member-pool.branch [
      | then-member-pool w ↦
          let put : c.if-member-pool.weights.items ≡ set items (member case c.loop-m.m).instrument (member case c.loop-m.m).weight =
          ap (λ v. v.items) w.weights-is
          ∙ ap (λ z. set items x.instrument z) (to_z-of_z w64 x.weight fits)
          ∙ ap (λ y. set items y.instrument y.weight) is in
          subst (AreWeights case c.args.pool (c.loop-m.m + 1)) (sym put)
          (weights-own case c.args.pool c.loop-m.m items c.requires under c.loop-m.invariant (sym pool ∙ w.if-member-pool.true))
      | else-member-pool w ↦
          subst (AreWeights case c.args.pool (c.loop-m.m + 1)) (sym (ap (λ v. v.items) w.weights-is))
          (weights-other case c.args.pool c.loop-m.m items c.loop-m.invariant (λ e. w.if-member-pool.false (pool ∙ e)))
    ]

pub returns : goal.returns
returns c =
    weights-all c.args.case.now c.args.pool c.loop-m.m c.loop-m.weights.items
    (omega (arith, c.loop-m-test.false, c.loop-m.auto.m-end, c.members-m-end.ensures)) c.loop-m.invariant
