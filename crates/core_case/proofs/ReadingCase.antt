-- A case is read from sound records that end.
use Rattle.std.proofs.Common.{◌≡◌, sym, ◌∙◌, ap, subst, ℕ, ◌<◌, ◌≤◌, List, length, Option, None, Ok, Err}
use Rattle.core_rows.specs.Names.{Record}
use Rattle.core_rows.specs.Fields.{most_bytes, records}
use Rattle.core_rows.specs.FirstFault.{Faulty, missing_end, unless_faulty}
use Rattle.core_rows.proofs.FirstFault.{faulty-refuses}
use Rattle.core_case.specs.Faults.{first_fault, judge}
use Rattle.core_case.specs.Codes.{code_of}
use Rattle.core_case.specs.declared.faults.RecordFault.{RecordFault}
use Rattle.core_book.specs.WellFormed.{IsCase}
use Rattle.core_case.specs.Refusals.{IsFault, RefusesBytes}
use Rattle.core_case.specs.Stated.{case_of, case_of_bytes}
use Rattle.core_book.specs.View.{CaseView}
use Rattle.core_case.specs.Whole.{IsWhole}
use Rattle.core_case.specs.declared.read.CaseFault.{CaseFault}
use Rattle.core_case.specs.declared.read.CaseFault.TheVariants.{Bad, NoMemory}
use Rattle.core_rows.proofs.RecordCount.{few-records}
use Rattle.core_case.proofs.WholeOfSound.{whole-of-sound}

-- the fault of records that are sound up to their end
pub fault-at_end : (bytes : List ℕ) (rows register : List Record) → rows ≡ records bytes → register ≡ rows → first_fault rows ≡ missing_end judge rows
    → first_fault (records bytes) ≡ missing_end judge register
fault-at_end bytes rows register are read sound = ap first_fault (sym are) ∙ sound ∙ ap (missing_end judge) (sym read)

-- records of which none is faulty and that end have no fault
pub no-fault : (bytes : List ℕ) (rows register : List Record) → rows ≡ records bytes → register ≡ rows → first_fault rows ≡ missing_end judge rows
    → missing_end judge register ≡ None → first_fault (records bytes) ≡ None
no-fault bytes rows register are read sound ended = fault-at_end bytes rows register are read sound ∙ ended

-- the register keeps what a whole case keeps
pub register-whole : (bytes : List ℕ) (rows register : List Record) → rows ≡ records bytes → register ≡ rows → first_fault (records bytes) ≡ None
    → IsWhole register
register-whole bytes rows register are read none = subst IsWhole (sym (read ∙ are)) (whole-of-sound (records bytes) none)

-- the case that was read
pub case-read : (bytes : List ℕ) (rows register : List Record) (c : CaseView) → rows ≡ records bytes → register ≡ rows → first_fault (records bytes) ≡ None
    → c ≡ case_of register → case_of_bytes bytes ≡ Ok c
unfolding case_of_bytes
case-read bytes rows register c are read none is =
    ap (λ o. unless_faulty code_of o (case_of (records bytes))) none ∙ ap (λ rs. Ok (case_of rs)) (sym (read ∙ are)) ∙ ap Ok (sym is)

-- a fault of the records is the answer
pub refused-is : (fault : CaseFault) (bytes : List ℕ) (faulty : Option (Faulty RecordFault)) → IsFault fault faulty → first_fault (records bytes) ≡ faulty → RefusesBytes fault bytes
unfolding case_of_bytes
refused-is (Bad row code) bytes faulty is first =
    ap (λ o. unless_faulty code_of o (case_of (records bytes))) first ∙ faulty-refuses code_of row code faulty (case_of (records bytes)) is
refused-is NoMemory bytes faulty is first = tt

-- the register's length
pub few-registered : (bytes : List ℕ) (rows register : List Record) → length bytes ≤ most_bytes → rows ≡ records bytes → register ≡ rows → length register < 2147483648
few-registered bytes rows register short are read = few-records bytes register short (read ∙ are)

-- the case that was read keeps what every case keeps
pub case-kept : (bytes : List ℕ) (rows register : List Record) (c : CaseView) → rows ≡ records bytes → register ≡ rows → first_fault (records bytes) ≡ None
    → c ≡ case_of register → IsCase c
case-kept bytes rows register c are read none is =
    let whole : IsWhole register = register-whole bytes rows register are read none in
    subst IsCase (sym is) whole.kept
