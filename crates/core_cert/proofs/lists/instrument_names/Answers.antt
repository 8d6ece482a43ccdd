use Rattle.std.proofs.Common.{ap, arith}
use Rattle.core_book.specs.View.{no_instrument}
use Rattle.core_cert.proofs.NamesApart.{one-more-read}
use Rattle.core_cert.proofs.lists.instrument_names.Goals as goal

pub loop-i-preserved : goal.loop-i-preserved
loop-i-preserved c =
    one-more-read (λ x. x.name) c.args.case.now.instruments no_instrument c.loop-i.i c.loop-i.names.items c.push.new.self.items c.instrument.result.name
    (omega arith) c.loop-i.invariant c.in_ok-push.ensures.items (ap (λ x. x.name) c.instrument.ensures)
