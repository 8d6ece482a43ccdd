use Rattle.std.proofs.Common.{◌≡◌, ◌∙◌, sym, length, arith, rules}
use Rattle.core_lp.proofs.Letters.{place-first, place-none}
use Rattle.core_lp.proofs.orders.place_in.Goals as goal

pub returns-then-order-i : goal.returns-then-order-i
returns-then-order-i c =
    let all : length c.args.order ≡ 6 = search rules in
    place-first c.args.order c.args.letter c.loop-i.i (omega (arith, all, c.loop-i-test.true)) c.loop-i.invariant c.if-order-i.true

pub returns : goal.returns
returns c =
    let all : length c.args.order ≡ 6 = search rules in
    sym all
    ∙ place-none c.args.order c.args.letter (λ k l. c.loop-i.invariant k (omega (arith, l, all, c.loop-i-test.false)))
