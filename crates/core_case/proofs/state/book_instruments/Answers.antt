use Rattle.std.proofs.Common.{sym, ◌∙◌, ap, subst, map}
use Rattle.std.specs.List.{All}
use Rattle.core_book.specs.WellFormed.{IsInstrument}
use Rattle.core_case.specs.Stated.{instrument_of_record}
use Rattle.core_case.proofs.StateWhole.{instruments_short}
use Rattle.core_case.proofs.state.book_instruments.Goals as goal

pub instruments-requires : goal.instruments-requires
instruments-requires c =
    let seen = ap (map (λ r. r.now)) c.deref.ensures.value ∙ c.in_ok-rows.ensures in
    subst (λ rows. All (IsInstrument 20) (map instrument_of_record rows)) (sym seen) (instruments_short c.args.register.now c.requires)
