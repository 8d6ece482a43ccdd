-- What a shelf in memory holds and counts.
use Rattle.std.specs.Prelude.{ℕ, Bool, ◌||◌, ◌&&◌, is_none, List, Option}
use Rattle.std.specs.Option.{option_map, option_map_or}
use Rattle.std.specs.BTreeMap.{get_by_text}
use Rattle.std.specs.Str.{bytes_eq}
use Rattle.core_io.specs.declared.memory_shelf.MemShelf.{MemShelf}
use Rattle.core_io.specs.Calls.{CallsView, fails_next}
use Rattle.core_io.specs.Passed.{Passed}
use Rattle.core_io.specs.States.{ShelfState}

-- the bytes under a name
abbrev pub told_by : MemShelf → List ℕ → Option (List ℕ)
told_by shelf name = option_map (λ entry. entry.bytes.items) (get_by_text shelf.entries name)

-- the count of faults of a name; all names that are not there have one
abbrev pub faults_of : MemShelf → List ℕ → ℕ
faults_of shelf name = option_map_or (λ entry. entry.faults) (get_by_text shelf.entries name) shelf.missing

-- what its reads gave, in order
abbrev pub reads_of : MemShelf → List Passed
reads_of shelf = shelf.log.pieces

-- what a call sees of the shelf
abbrev pub state_of : MemShelf → ShelfState
state_of shelf = record { told = told_by shelf; reads = reads_of shelf; faults = faults_of shelf }

-- the reads so far, and which are to fail
abbrev pub calls_of : MemShelf → CallsView
calls_of shelf = shelf.calls

-- whether the next read fails: its number is listed, or the name is not there
abbrev pub read_fails : MemShelf → List ℕ → Bool
read_fails shelf name = fails_next (calls_of shelf) || is_none (told_by shelf name)

-- whether a fault of a name is counted under another one too: they are the same, or neither is there
abbrev pub shares_count : MemShelf → List ℕ → List ℕ → Bool
shares_count shelf name other = bytes_eq other name || (is_none (told_by shelf name) && is_none (told_by shelf other))
