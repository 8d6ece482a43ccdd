use Rattle.core_book.specs.WellFormed.{IsInstrument}
use Rattle.core_case.specs.Stated.{instrument_of_record}
use Rattle.core_case.proofs.StateRows.{stated_at}
use Rattle.core_case.proofs.state.instruments.Goals as goal

pub instrument-requires : goal.instrument-requires
instrument-requires c =
    stated_at (IsInstrument 20) instrument_of_record (λ r. r.now) c.args.rows.now c.loop-row.row-index c.row-item.result c.requires c.loop-row-test.true c.row-item.is
