use Rattle.std.proofs.Common.{arith, ◌<◌, ◌≤◌, length, map, subst, sym}
use Rattle.jiff.specs.Words.{epoch_day}
use Rattle.std.proofs.lemmas.List.{length-map}
use Rattle.core_book.specs.Inside.{book_view}
use Rattle.core_book.proofs.Depth.{few-depth}
use Rattle.core_book.proofs.Lookups.{few-holidays, deepest-is}
use Rattle.core_book.proofs.case.Case.of_book.Goals as goal

pub house_days-requires-clause-few : goal.house_days-requires-clause-few
house_days-requires-clause-few c =
    let some : 0 < length c.args.book.holidays.items = omega (arith, c.requires.holidays.0, length-map c.args.book.holidays.items (λ v. map epoch_day v.items)) in
    subst (λ ds. length ds ≤ 400) (sym c.deref.ensures.value) (few-holidays c.args.book 0 c.index.result.now c.requires some c.index.ensures)

pub overflow_cast-tiers : goal.overflow_cast-tiers
overflow_cast-tiers c =
    let few = few-depth (book_view c.args.book) c.requires in
    let value = deepest-is c.args.book c.deref-4.result.now c.deref-4.ensures.value in
    let small : c.deepest-tiers.result ≤ 4 = omega (arith, few, value, c.deepest-tiers.ensures) in
    omega (arith, small)
