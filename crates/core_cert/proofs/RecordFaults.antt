-- The fault of a record after those before it, step by step.
use Rattle.std.proofs.Common.{◌≡◌, sym, ◌∙◌, ap, subst, ℕ, List, [], ◌∷◌, length, true, false, not, Option, Some, None}
use Rattle.core_rows.specs.Names.{Record}
use Rattle.core_book.specs.View.{CaseView}
use Rattle.core_cert.specs.Kinds.{is_kind, kind_of, forms}
use Rattle.core_cert.specs.Faults.{last_record, end_before, kind_step, later_fault, fault_of, fields_fault}
use Rattle.core_rows.specs.Steps.{fault_unless}
use Rattle.core_cert.specs.declared.kinds.RecordKind.{RecordKind}
use Rattle.core_cert.specs.declared.kinds.RecordKind.TheVariants.{End}
use Rattle.core_cert.specs.declared.faults.RecordFault.{RecordFault}
use Rattle.core_cert.specs.declared.faults.RecordFault.TheVariants.{AfterEnd}
use Rattle.core_rows.proofs.FirstStep.{first_of-fails, first_of-passes, first_of-last}

-- the fault of the fields, by the case
pub fields-of : (d c : CaseView) (kind : RecordKind) (r : Record) → d ≡ c → fields_fault (forms d kind) r ≡ fields_fault (forms c kind) r
fields-of d c kind r is = ap (λ x. fields_fault (forms x kind) r) is

-- a record after the end
pub after-end : (c : CaseView) (earlier : List Record) (r : Record) → true ≡ is_kind End (last_record earlier) → Some AfterEnd ≡ fault_of c earlier r
after-end c earlier r ended =
    first_of-fails AfterEnd (end_before earlier) (kind_step (length earlier) r ∷ later_fault c earlier r (kind_of r) ∷ []) (ap (λ b. fault_unless (not b) AfterEnd) ended)

-- before the end the first step passes
still : (earlier : List Record) → false ≡ is_kind End (last_record earlier) → None ≡ end_before earlier
still earlier e = ap (λ b. fault_unless (not b) AfterEnd) e

-- a record of no kind, or that should be `cert`
pub kind-fault : (c : CaseView) (earlier : List Record) (r : Record) (place : ℕ) (fault : RecordFault) → false ≡ is_kind End (last_record earlier)
    → place ≡ length earlier → kind_step place r ≡ Some fault → Some fault ≡ fault_of c earlier r
kind-fault c earlier r place fault open_still at e =
    let here : kind_step (length earlier) r ≡ Some fault = subst (λ (n : ℕ). kind_step n r ≡ Some fault) at e in
    first_of-passes (Some fault) (end_before earlier) (kind_step (length earlier) r ∷ later_fault c earlier r (kind_of r) ∷ []) (still earlier open_still)
    (first_of-fails fault (kind_step (length earlier) r) (later_fault c earlier r (kind_of r) ∷ []) (sym here))

-- a record of a known kind
pub known-fault : (c : CaseView) (earlier : List Record) (r : Record) (place : ℕ) (kind : RecordKind) (answer : Option RecordFault)
    → false ≡ is_kind End (last_record earlier) → place ≡ length earlier → kind_step place r ≡ None → kind_of r ≡ Some kind
    → answer ≡ later_fault c earlier r (Some kind) → answer ≡ fault_of c earlier r
known-fault c earlier r place kind answer open_still at passes known is =
    let here : kind_step (length earlier) r ≡ None = subst (λ (n : ℕ). kind_step n r ≡ None) at passes in
    first_of-passes answer (end_before earlier) (kind_step (length earlier) r ∷ later_fault c earlier r (kind_of r) ∷ []) (still earlier open_still)
    (first_of-passes answer (kind_step (length earlier) r) (later_fault c earlier r (kind_of r) ∷ []) (sym here)
    (first_of-last answer (later_fault c earlier r (kind_of r)) (is ∙ ap (later_fault c earlier r) (sym known))))
