-- What a call sees of a shelf and of a sink, before and after.
use Rattle.std.specs.Prelude.{◌≡◌, ℕ, ◌<◌, ◌≤◌, List, [], ◌∷◌, ◌++◌, length, take, Option}
use Rattle.core_io.specs.Causes.{Rose}
use Rattle.core_io.specs.Passed.{Passed, InARow, ReadsWhole}

-- the bytes under each name, where the shelf tells them, what its reads gave, in order, and how many reads of each name
-- have failed
pub record ShelfState : Type 0 where
  pub told : List ℕ → Option (List ℕ)
  pub reads : List Passed
  pub faults : List ℕ → ℕ

-- the bytes that its writes took, in order, and how many writes have failed
pub record SinkState : Type 0 where
  pub held : List ℕ
  pub faults : ℕ

-- every name keeps its bytes
abbrev pub KeepsBytes : ShelfState → ShelfState → Type 0
KeepsBytes before after = (name : List ℕ) → after.told name ≡ before.told name

-- no name's count falls
abbrev pub KeepsCounts : ShelfState → ShelfState → Type 0
KeepsCounts before after = (name : List ℕ) → before.faults name ≤ after.faults name

-- the count of this name rose
abbrev pub ReadFailed : ShelfState → ShelfState → List ℕ → Type 0
ReadFailed before after name = Rose (before.faults name) (after.faults name)

-- one read gave this
abbrev pub Gave : ShelfState → ShelfState → Passed → Type 0
Gave before after read = after.reads ≡ before.reads ++ read ∷ []

-- these reads were made, and of the name from its head on they gave these bytes
pub record Began (before after : ShelfState) (name bytes : List ℕ) : Type 0 where
  pub reads : List Passed
  pub made : after.reads ≡ before.reads ++ reads
  pub in_a_row : InARow name reads bytes

-- the same up to the end
pub record ReadWhole (before after : ShelfState) (name bytes : List ℕ) : Type 0 where
  pub reads : List Passed
  pub made : after.reads ≡ before.reads ++ reads
  pub whole : ReadsWhole name reads bytes

-- more bytes came than these
pub record ReadMore (before after : ShelfState) (name : List ℕ) (most : ℕ) : Type 0 where
  pub bytes : List ℕ
  pub more : most < length bytes
  pub began : Began before after name bytes

-- the count of the sink did not fall, or rose
abbrev pub KeepsCount : SinkState → SinkState → Type 0
KeepsCount before after = before.faults ≤ after.faults

abbrev pub WriteFailed : SinkState → SinkState → Type 0
WriteFailed before after = Rose before.faults after.faults

-- this text was written, or a part of it from its head and not all of it
abbrev pub Writes : SinkState → SinkState → List ℕ → Type 0
Writes before after text = after.held ≡ before.held ++ text

abbrev pub WritesPart : SinkState → SinkState → List ℕ → Type 0
WritesPart before after text = (n : ℕ) × (n < length text) × Writes before after (take n text)
