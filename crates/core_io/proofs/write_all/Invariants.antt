use Rattle.std.proofs.Common.{length, ◌-◌, ◌≤◌, take}
use Rattle.core_io.specs.States.{Writes}
use Rattle.core_io.proofs.write_all.Given as goal

abbrev pub invariant-loop-done : goal.invariant-loop-done
invariant-loop-done g l = record {
  in_range : l.done ≤ length l.text;
  counts : (g.K.Sink.state l.fn.sink).faults ≤ (g.K.Sink.state l.sink).faults;
  appends : Writes (g.K.Sink.state l.fn.sink) (g.K.Sink.state l.sink) (take l.done l.text);
}

abbrev pub decreases-loop-done : goal.decreases-loop-done
decreases-loop-done g l = length l.text - l.done
