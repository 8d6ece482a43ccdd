use Rattle.std.proofs.Common.{◌≡◌, rules, arith, refl, ◌∙◌, ap, subst, ◌*ℤ◌, ◌<◌, FitsSigned, w64}
use mir.Syntax.{w128}
use Rattle.std.proofs.lemmas.Int.{to_z-of_z}
use Rattle.core_book.specs.View.{line}
use Rattle.core_model.specs.Closing.{line_count}
use Rattle.core_model.specs.OfCase.{planned}
use Rattle.core_wide.specs.Steps.{Stays, Leaves}
use Rattle.core_replay.proofs.Standing.{opened-more, opened-stays, opening-leaves}
use Rattle.core_replay.proofs.lines.open_lines.Goals as goal

pub loop-l-preserved : goal.loop-l-preserved
loop-l-preserved c =
    let narrow : FitsSigned w64 c.line.result.amount = search rules in
    let left : FitsSigned w128 c.from-amount.result = search rules in
    let right : FitsSigned w128 c.calendar.result.now.den = search rules in
    let whole : FitsSigned w128 c.in-Some.still_open = search rules in
    let amount : c.from-amount.result ≡ (line c.args.calendar.now.case c.loop-l.l).amount = (simp to_z-of_z at c.from-amount.ensures) ∙ ap (λ x. x.amount) (rw c.case-case.ensures.value at c.line.ensures) in
    let plain = rw c.calendar.ensures.value at (simp to_z-of_z at c.in-Some.ensures) in
    let here = subst (λ z. (c.in-Some.still_open ≡ z *ℤ c.args.calendar.now.calendar.den) × Stays (z *ℤ c.args.calendar.now.calendar.den)) amount plain in
    let items = simp to_z-of_z at c.in_ok-push_standing.ensures in
    opened-more c.args.calendar.now.case (planned c.args.calendar.now) c.loop-l.l c.loop-l.lines.items c.push_standing.new.lines.items c.in-Some.still_open c.loop-l.invariant here items

pub returns-in_default-clause-stops : goal.returns-in_default-clause-stops
returns-in_default-clause-stops c =
    let narrow : FitsSigned w64 c.line.result.amount = search rules in
    let left : FitsSigned w128 c.from-amount.result = search rules in
    let right : FitsSigned w128 c.calendar.result.now.den = search rules in
    let amount : c.from-amount.result ≡ (line c.args.calendar.now.case c.loop-l.l).amount = (simp to_z-of_z at c.from-amount.ensures) ∙ ap (λ x. x.amount) (rw c.case-case.ensures.value at c.line.ensures) in
    let plain : Leaves (c.from-amount.result *ℤ c.args.calendar.now.calendar.den) = rw c.calendar.ensures.value at (simp to_z-of_z at c.in_default.ensures) in
    let here : Leaves ((line c.args.calendar.now.case c.loop-l.l).amount *ℤ c.args.calendar.now.calendar.den) = subst (λ z. Leaves (z *ℤ c.args.calendar.now.calendar.den)) amount plain in
    let below : c.loop-l.l < line_count c.args.calendar.now.case = omega (arith, c.loop-l-test.true, (rw c.case-case.ensures.value at c.lines-l-end.ensures)) in
    (refl, refl, opening-leaves c.args.calendar.now.case (planned c.args.calendar.now) c.loop-l.l below here)

pub returns-clause-stays : goal.returns-clause-stays
returns-clause-stays c =
    let done : c.loop-l.l ≡ line_count c.args.calendar.now.case = omega (arith, c.loop-l-test.false, c.loop-l.auto.l-end, (rw c.case-case.ensures.value at c.lines-l-end.ensures)) in
    opened-stays c.args.calendar.now.case (planned c.args.calendar.now) c.loop-l.l c.loop-l.lines.items done c.loop-l.invariant
