-- The answers of the reading.
use Rattle.std.proofs.Common.{◌≡◌, sym, ◌∙◌, refl, ap, subst, ℕ, ◌+◌, ◌<◌, List, [], ◌∷◌, ◌++◌, length, get_or, take, Option, Some, None, Ok, option_to_list}
use Rattle.std.proofs.lemmas.List.Elements.{filter_map-append, All-append, All-nil, All-cons}
use Rattle.std.specs.List.{All}
use Rattle.std.specs.Option.{IfSome}
use Rattle.core_rows.specs.Names.{Record}
use Rattle.core_rows.specs.Fields.{records}
use Rattle.core_rows.specs.FirstFault.{unless_faulty}
use Rattle.core_rows.proofs.FirstFault.{faulty-refuses, take-next}
use Rattle.core_case.specs.declared.read.CaseFault.{CaseFault}
use Rattle.core_case.specs.declared.read.CaseFault.TheVariants.{Bad, NoMemory}
use Rattle.core_book.specs.View.{CaseView}
use Rattle.core_book.specs.Edits.{IsEdit}
use Rattle.core_book.specs.declared.edit.Edit.{Edit}
use Rattle.core_edits.specs.Codes.{code_of}
use Rattle.core_edits.specs.Kinds.{kind_of}
use Rattle.core_edits.specs.Stated.{stated_by, edits_of}
use Rattle.core_edits.specs.Faults.{first_fault}
use Rattle.core_edits.specs.Refusals.{edits_of_bytes, IsFault, RefusesBytes}
use Rattle.core_edits.specs.declared.faults.RecordFault.{RecordFault}

-- the answer names the faulty record and the code of its fault
pub bad-is : (answer : CaseFault) (faulty : Option (ℕ × RecordFault)) (number : ℕ) (fault : RecordFault) → answer ≡ Bad number (code_of fault)
    → faulty ≡ Some (number, fault) → IsFault answer faulty
bad-is answer faulty number fault is first = subst (λ (x : CaseFault). IsFault x faulty) (sym is) (fault, first, refl)

-- an answer to the end is one to all
pub fault-same : (faulty other : Option (ℕ × RecordFault)) (answer : CaseFault) → faulty ≡ other → IsFault answer other → IsFault answer faulty
fault-same faulty other answer e is = subst (IsFault answer) (sym e) is

-- one more record states its edit
one-stated : (c : CaseView) (r : Record) (o : Option Edit) → stated_by c r (kind_of r) ≡ o → edits_of c (r ∷ []) ≡ option_to_list o
one-stated c r None e = rw e refl
one-stated c r (Some x) e = rw e refl

pub edits-more : (c : CaseView) (rows : List Record) (i : ℕ) (r : Record) (edits more : List Edit) (o : Option Edit) → i < length rows → r ≡ get_or rows i r
    → edits ≡ edits_of c (take i rows) → stated_by c r (kind_of r) ≡ o → more ≡ edits ++ option_to_list o → more ≡ edits_of c (take (i + 1) rows)
edits-more c rows i r edits more o within at before stated grown =
    grown ∙ ap (λ xs. xs ++ option_to_list o) before ∙ ap (λ xs. edits_of c (take i rows) ++ xs) (sym (one-stated c r o stated))
    ∙ sym (filter_map-append (λ r. stated_by c r (kind_of r)) (take i rows) (r ∷ [])) ∙ ap (edits_of c) (take-next rows i r within at)

-- all of which the case takes
known-list : (c : CaseView) (o : Option Edit) → IfSome o (IsEdit c) → All (IsEdit c) (option_to_list o)
known-list c None known = All-nil (IsEdit c)
known-list c (Some x) known = All-cons (IsEdit c) x [] known (All-nil (IsEdit c))

pub known-more : (c : CaseView) (edits more : List Edit) (o : Option Edit) → All (IsEdit c) edits → IfSome o (IsEdit c)
    → more ≡ edits ++ option_to_list o → All (IsEdit c) more
known-more c edits more o before known grown =
    subst (All (IsEdit c)) (sym grown) (All-append (IsEdit c) edits (option_to_list o) before (known-list c o known))

-- what holds of the records holds of the bytes
pub bytes-accepted : (c : CaseView) (bytes : List ℕ) (rows : List Record) (edits : List Edit) → rows ≡ records bytes → first_fault c rows ≡ None
    → edits ≡ edits_of c rows → edits_of_bytes c bytes ≡ Ok edits
unfolding edits_of_bytes
bytes-accepted c bytes rows edits are none is =
    ap (λ rs. unless_faulty code_of (first_fault c rs) (edits_of c rs)) (sym are)
    ∙ ap (λ o. unless_faulty code_of o (edits_of c rows)) none ∙ ap Ok (sym is)

pub bytes-refused : (c : CaseView) (fault : CaseFault) (bytes : List ℕ) (rows : List Record) → rows ≡ records bytes → IsFault fault (first_fault c rows)
    → RefusesBytes c fault bytes
unfolding edits_of_bytes
bytes-refused c (Bad row code) bytes rows are is =
    ap (λ rs. unless_faulty code_of (first_fault c rs) (edits_of c rs)) (sym are)
    ∙ faulty-refuses code_of row code (first_fault c rows) (edits_of c rows) is
bytes-refused c NoMemory bytes rows are is = tt
