-- What stood before a call and what stands after it.
use Rattle.std.specs.Prelude.{◌≡◌, ℕ, List, Option}
use Rattle.core_io.specs.States.{ShelfState, SinkState, ReadFailed, WriteFailed, Writes, WritesPart}

pub record Around : Type 0 where
  pub shelf_before : ShelfState
  pub shelf_after : ShelfState
  pub sink_before : SinkState
  pub sink_after : SinkState

abbrev pub around : ShelfState → ShelfState → SinkState → SinkState → Around
around shelf_before shelf_after sink_before sink_after = record {
  shelf_before = shelf_before;
  shelf_after = shelf_after;
  sink_before = sink_before;
  sink_after = sink_after;
}

-- the bytes under a name, where the shelf tells them
abbrev pub told : Around → List ℕ → Option (List ℕ)
told a = a.shelf_before.told

-- the count of a name, or of the sink, rose in the call
abbrev pub ShelfRose : Around → List ℕ → Type 0
ShelfRose a = ReadFailed a.shelf_before a.shelf_after

abbrev pub SinkRose : Around → Type 0
SinkRose a = WriteFailed a.sink_before a.sink_after

-- what is due by what the shelf tells and by the counts that rose
abbrev pub Between : ShelfState → ShelfState
    → ((List ℕ → Option (List ℕ)) → (List ℕ → Type 0) → ℕ → List ℕ → Type 0)
    → ℕ → List ℕ → Type 0
Between before after Due = Due before.told (ReadFailed before after)

-- The status with which a call ends: that of an answer that may be given, with its whole text written; that of a sink
-- that failed in the middle of such a text; or that of memory, with a sink that is as it was.
pub data Answered (a : Around) (May : ℕ → List ℕ → Type 0) : ℕ → Type 0 where
  written : (status : ℕ) (text : List ℕ) → May status text
      → Writes a.sink_before a.sink_after text → Answered a May status
  cut : (status : ℕ) (text : List ℕ) → May status text → SinkRose a
      → WritesPart a.sink_before a.sink_after text → Answered a May 7
  unanswered : a.sink_after ≡ a.sink_before → Answered a May 8
