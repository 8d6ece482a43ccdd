use Rattle.std.proofs.Common.{◌≡◌, rules, refl, ◌∙◌, ap, ℕ, slice_set, FitsSigned}
use mir.Syntax.{w128}
use Rattle.std.proofs.lemmas.Int.{to_z-of_z}
use Rattle.core_model.specs.Closing.{cash_of}
use Rattle.core_model.specs.OfCase.{planned}
use Rattle.core_replay.specs.Ledger.{paid_on}
use Rattle.core_replay.proofs.Running.{payable-now, payable-next, total-more, entered-more, later-stay, sums-leave-later}
use Rattle.core_replay.proofs.ledger.Run.day.Goals as goal

pub day_sums-requires-clause-payable : goal.day_sums-requires-clause-payable
day_sums-requires-clause-payable c =
    c.on-payable.ensures ∙ payable-now c.args.calendar.now.case (planned c.args.calendar.now) c.args.scenario c.args.t c.day_lines.new.payable c.requires.day c.in_ok-day_lines.ensures.payable

pub returns-in_default-clause-stops : goal.returns-in_default-clause-stops
returns-in_default-clause-stops c =
    (refl, refl, sums-leave-later c.args.calendar.now.case (planned c.args.calendar.now) c.args.scenario c.args.t c.in_default.ensures)

pub returns-clause-stays : goal.returns-clause-stays
returns-clause-stays c =
    later-stay c.args.calendar.now.case (planned c.args.calendar.now) c.args.scenario c.args.t c.in_ok-day_lines.ensures.stays c.in-Some.ensures.2

pub returns-clause-after : goal.returns-clause-after
returns-clause-after c =
    let a = planned c.args.calendar.now in
    let k = c.args.scenario in
    let paid_fits : FitsSigned w128 c.in-Some.paid = search rules in
    let total_fits : FitsSigned w128 c.in-Some.total = search rules in
    let paid : c.set.new.self ≡ slice_set c.args.self.now.ledger.paid c.args.t c.in-Some.paid =
    (simp to_z-of_z at c.set.ensures) ∙ ap (λ (i : ℕ). slice_set c.args.self.now.ledger.paid i c.in-Some.paid) c.from.ensures in
    let total : c.set-2.new.self ≡ slice_set c.args.self.now.ledger.total c.args.t c.in-Some.total =
    (simp to_z-of_z at c.set-2.ensures) ∙ ap (λ (i : ℕ). slice_set c.args.self.now.ledger.total i c.in-Some.total) c.from-2.ensures in
    record {
      lines = c.in_ok-day_lines.ensures.standing;
      payable = payable-next c.args.calendar.now.case a k c.args.t c.day_lines.new.payable c.in_ok-day_lines.ensures.payable;
      total = simp to_z-of_z (total-more c.args.calendar.now.case a k c.args.t c.in-Some.total c.in-Some.ensures.1);
      den = c.requires.before.den;
      paid_so_far = rw paid (entered-more c.args.calendar.now.case (paid_on c.args.calendar.now.case a k) c.args.t c.args.self.now.ledger.paid c.in-Some.paid c.requires.day c.in-Some.ensures.0 c.requires.before.paid_so_far);
      total_so_far = rw total (entered-more c.args.calendar.now.case (cash_of c.args.calendar.now.case a k) c.args.t c.args.self.now.ledger.total c.in-Some.total c.requires.day c.in-Some.ensures.1 c.requires.before.total_so_far);
    }
