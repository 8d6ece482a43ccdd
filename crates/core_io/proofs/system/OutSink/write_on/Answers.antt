use Rattle.std.proofs.Common.{rules, sym, ◌∙◌, ap}
use Rattle.core_io.specs.Passed.{all_bytes, passed}
use Rattle.core_io.proofs.Pieces.{all_bytes-more}
use Rattle.core_io.proofs.system.OutSink.write_on.Goals as goal

pub returns-clause-took : goal.returns-clause-took
returns-clause-took c =
    rw (← c.self.view_is, c.add.ensures) (all_bytes-more c.self.inside.log.pieces (passed _ 0 c.args.piece.now c.in_ok-n.n))
