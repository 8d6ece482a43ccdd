-- The case that bytes state keeps what every case keeps.
use Rattle.std.proofs.Common.{◌≡◌, subst, Ok}
use Rattle.core_rows.specs.Fields.{records}
use Rattle.core_rows.proofs.FirstFault.{sound-states}
use Rattle.core_case.specs.Codes.{code_of}
use Rattle.core_book.specs.View.{CaseView}
use Rattle.core_book.specs.WellFormed.{IsCase}
use Rattle.core_case.specs.Faults.{first_fault}
use Rattle.core_case.specs.Stated.{case_of, case_of_bytes}
use Rattle.core_case.specs.Laws.{StatedCasesAreWhole}
use Rattle.core_case.proofs.WholeOfSound.{whole-of-sound}

pub stated-whole : StatedCasesAreWhole
unfolding case_of_bytes
stated-whole bytes c e =
    let sound = sound-states code_of (first_fault (records bytes)) (case_of (records bytes)) c e in
    subst (λ (x : CaseView). IsCase x) sound.1 (whole-of-sound (records bytes) sound.0).kept
