-- What a sink in memory holds, takes and counts.
use Rattle.std.specs.Prelude.{ℕ, ◌-◌, min, Bool, ◌||◌, ◌&&◌, nat_lt, nat_le, List, [], length}
use Rattle.core_io.specs.Calls.{CallsView, no_calls, fails_next}
use Rattle.core_io.specs.States.{SinkState}

-- what was written, how much is taken in all and at most of one piece, the faults and the calls
pub record SinkView : Type 0 where
  pub written : List ℕ
  pub room : ℕ
  pub most : ℕ
  pub faults : ℕ
  pub calls : CallsView

-- what a call sees of the sink
abbrev pub state_of : SinkView → SinkState
state_of sink = record { held = sink.written; faults = sink.faults }

-- a sink in which nothing is written
abbrev pub empty_sink : ℕ → ℕ → SinkView
empty_sink room most = record { written = []; room = room; most = most; faults = 0; calls = no_calls }

-- how many bytes of a piece a write takes: at most `most`, and no more than there is room for
abbrev pub taken_of : SinkView → List ℕ → ℕ
taken_of sink piece = min (min (length piece) sink.most) (sink.room - length sink.written)

-- whether the next write fails: its number is listed, or there is no room for any of the piece
abbrev pub write_fails : SinkView → List ℕ → Bool
write_fails sink piece = fails_next sink.calls || (nat_lt 0 (length piece) && nat_le sink.room (length sink.written))
