-- The edits that a file states, or its first fault.
use Rattle.std.specs.Prelude.{◌≡◌, ℕ, List, Option, Result, Err}
use Rattle.core_rows.specs.Fields.{records}
use Rattle.core_rows.specs.FirstFault.{Faulty, IsFaulty, unless_faulty}
use Rattle.core_rows.specs.Names.{Record}
use Rattle.core_case.specs.declared.read.CaseFault.{CaseFault}
use Rattle.core_case.specs.declared.read.CaseFault.TheVariants.{Bad, NoMemory}
use Rattle.core_book.specs.View.{CaseView}
use Rattle.core_book.specs.declared.edit.Edit.{Edit}
use Rattle.core_edits.specs.declared.faults.RecordFault.{RecordFault}
use Rattle.core_edits.specs.Codes.{code_of}
use Rattle.core_edits.specs.Faults.{first_fault}
use Rattle.core_edits.specs.Stated.{edits_of}

-- the edits of records where none is faulty, else the number of the first faulty one and the code of its fault
abbrev pub edits_of_records : CaseView → List Record → Result (List Edit) (ℕ × ℕ)
edits_of_records c rs = unless_faulty code_of (first_fault c rs) (edits_of c rs)

-- those of the bytes
unfoldable pub edits_of_bytes : CaseView → List ℕ → Result (List Edit) (ℕ × ℕ)
edits_of_bytes c bytes = edits_of_records c (records bytes)

-- the fault is this one, by the number of its record and its code; want of memory says nothing of the records
abbrev pub IsFault : CaseFault → Option (Faulty RecordFault) → Type 0
IsFault (Bad row code) faulty = IsFaulty code_of row code faulty
IsFault NoMemory faulty = Unit {0}

-- it is that of the bytes
abbrev pub RefusesBytes : CaseView → CaseFault → List ℕ → Type 0
RefusesBytes c (Bad row code) bytes = edits_of_bytes c bytes ≡ Err (row, code)
RefusesBytes c NoMemory bytes = Unit {0}
