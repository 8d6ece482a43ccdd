-- What contracts see of the shelf over real files.
use Rattle.std.specs.Prelude.{ℕ, List, None}
use Rattle.core_io.specs.Passed.{Passed}
use Rattle.core_io.specs.States.{ShelfState}

-- what its reads gave, in order, and one count of faults for every name
pub record FilesView : Type 0 where
  pub reads : List Passed
  pub faults : ℕ

-- no bytes are told but by the reads
abbrev pub state_of : FilesView → ShelfState
state_of files = record { told = λ _. None; reads = files.reads; faults = λ _. files.faults }
