use Rattle.std.proofs.Common.{◌≡◌, arith, sym, ◌∙◌, ap, suc, ◌*◌, ◌<◌, neg_ℤ, length, FitsSigned}
use mir.Syntax.{w128}
use Rattle.std.proofs.lemmas.Int.{to_z-of_z}
use Rattle.std.specs.Ordering.{int_eq}
use Rattle.core_sums.specs.Sums.{total}
use Rattle.core_check.proofs.Reaching.{any-none, any-more, any-at, terms_at_place, reached_before, reached-places}
use Rattle.core_check.proofs.cash.is_reached.Goals as goal
use Rattle.core_model.specs.Layout.{plan_of}

pub loop-place-init : goal.loop-place-init
loop-place-init c =
    let loss : FitsSigned w128 c.args.loss = c.ranges.loss in
    let case = c.args.calendar.now.of_case.case in
    simp to_z-of_z (any-none (terms_at_place case (plan_of case c.args.calendar.now.of_case.calendar)) (λ terms. int_eq (neg_ℤ (total terms)) c.args.loss))

pub loop-place-preserved : goal.loop-place-preserved
loop-place-preserved c =
    let loss : FitsSigned w128 c.args.loss = c.ranges.loss in
    let case = c.args.calendar.now.of_case.case in
    simp to_z-of_z
    (any-more c.loop-place.place (terms_at_place case (plan_of case c.args.calendar.now.of_case.calendar)) (λ terms. int_eq (neg_ℤ (total terms)) c.args.loss)
    (simp to_z-of_z at c.loop-place.invariant) (sym (simp to_z-of_z at c.if-is_reached_at.ensures)))

pub returns-then-is_reached_at : goal.returns-then-is_reached_at
returns-then-is_reached_at c =
    let loss : FitsSigned w128 c.args.loss = c.ranges.loss in
    let case = c.args.calendar.now.of_case.case in
    let a = plan_of case c.args.calendar.now.of_case.calendar in
    let count = rw c.case.ensures.value at c.loss_count-count.ensures.value in
    let under : c.loop-place.place < length case.scenarios * suc case.last = omega (arith, count, c.loop-place-test.true) in
    sym
    (sym (reached-places case a c.args.loss)
    ∙ any-at (length case.scenarios * suc case.last) c.loop-place.place (terms_at_place case a) (λ terms. int_eq (neg_ℤ (total terms)) c.args.loss) under
    (sym (simp to_z-of_z at c.if-is_reached_at.ensures)))

pub returns : goal.returns
returns c =
    let loss : FitsSigned w128 c.args.loss = c.ranges.loss in
    let case = c.args.calendar.now.of_case.case in
    let a = plan_of case c.args.calendar.now.of_case.calendar in
    let count = rw c.case.ensures.value at c.loss_count-count.ensures.value in
    let whole : c.loop-place.place ≡ length case.scenarios * suc case.last = omega (arith, count, c.loop-place.auto.place-end, c.loop-place-test.false) in
    sym
    (sym (reached-places case a c.args.loss)
    ∙ ap (reached_before case a c.args.loss) (sym whole)
    ∙ (simp to_z-of_z at c.loop-place.invariant))
