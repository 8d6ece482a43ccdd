use Rattle.std.proofs.Common.{arith, ◌≡◌, ◌<◌, ◌-◌, length, true, false, sym, ◌∙◌, ap}
use Rattle.std.proofs.lemmas.List.{get_or_default}
use Rattle.core_days.specs.Days.{pay_day}
use Rattle.core_days.specs.Flags.{flag_at}
use Rattle.core_book.proofs.Lookups.{pays-of}
use Rattle.core_book.proofs.case.Case.pays.Goals as goal

pub returns-then-index : goal.returns-then-index
returns-then-index c =
    let flags = c.open_days_of-open_days.result.now.items in
    let within : c.args.v < length flags = omega (arith, c.open_days_of-open_days.ensures.count, c.requires.day) in
    let open_there : flag_at flags c.args.v ≡ true = get_or_default flags c.args.v false c.index.result.now within ∙ sym c.index.ensures ∙ c.if-index.true in
    c.pay_day.ensures
    ∙ ap (λ fs. pay_day (flag_at fs) (length fs - 1) c.instrument.result.lag c.args.v) c.deref.ensures.value
    ∙ ap (λ x. pay_day (flag_at flags) (length flags - 1) x.lag c.args.v) c.instrument.ensures
    ∙ pays-of c.args.self.now c.args.i c.args.v flags c.open_days_of-open_days.ensures.count c.open_days_of-open_days.ensures.each c.requires.day open_there
