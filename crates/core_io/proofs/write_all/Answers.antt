use Rattle.std.proofs.Common.{rules}
use Rattle.core_io.proofs.Pieces.{Writes-piece}
use Rattle.core_io.proofs.write_all.Goals as goal

pub loop-done-preserved : goal.loop-done-preserved
loop-done-preserved g c = record {
  in_range = search rules;
  counts = search rules;
  appends = Writes-piece (g.K.Sink.state c.args.sink.now) (g.K.Sink.state c.loop-done.sink) (g.K.Sink.state c.write.new.self) c.args.text.now c.loop-done.done c.in_ok-done.field-0 c.loop-done.invariant.appends c.in_ok-done.ensures.appends;
}
