-- The fault of a record among those before it, step by step.
use Rattle.std.proofs.Common.{◌≡◌, sym, ◌∙◌, refl, ap, subst, ℕ, List, [], ◌∷◌, length, Bool, true, false, if◌then◌else◌, not, ◌&&◌, Option, Some, None}
use Rattle.std.proofs.lemmas.Bool.{and_parts}
use Rattle.std.specs.Option.{option_or}
use Rattle.std.specs.List.{find}
use Rattle.core_rows.specs.Names.{Record}
use Rattle.core_case.specs.Kinds.{HeadingView, kinds, has_kind, is_kind, kind_of, forms}
use Rattle.core_case.specs.Faults.{has_ended, end_before, kind_step, own_fault, book_fault, later_fault, fault_of, heading_of}
use Rattle.core_rows.specs.Steps.{fault_unless}
use Rattle.core_case.specs.declared.kinds.RecordKind.{RecordKind}
use Rattle.core_case.specs.declared.faults.RecordFault.{RecordFault}
use Rattle.core_case.specs.declared.faults.RecordFault.TheVariants.{AfterEnd}
use Rattle.core_rows.proofs.FirstStep.{first_of-fails, first_of-passes, first_of-last}

-- what a search finds at an item or after it passes its test
found-or : {X : Type 0} (p : X → Bool) (x y : X) (b : Bool) (later : Option X) → p y ≡ b → (later ≡ Some x → p x ≡ true)
    → (if b then Some y else later) ≡ Some x → p x ≡ true
found-or {X} p x y true later here more e =
    let found : y ≡ x = (cc) in
    subst (λ (z : X). p z ≡ true) found here
found-or p x y false later here more e = more e

-- what a search finds passes its test
pub find-passes : {X : Type 0} (p : X → Bool) (xs : List X) (x : X) → find p xs ≡ Some x → p x ≡ true
find-passes p [] x e = absurd (cc)
find-passes p (y ∷ ys) x e = found-or p x y (p y) (find p ys) refl (find-passes p ys x) e

-- a record of a kind is of that kind
pub kind-is : (version : ℕ) (r : Record) (kind : RecordKind) → kind_of version r ≡ Some kind → is_kind kind r ≡ true
kind-is version r kind e = (and_parts (has_kind version kind) (is_kind kind r) (find-passes (λ k. has_kind version k && is_kind k r) kinds kind e)).1

-- before the end the first step passes
end-passes : (earlier : List Record) → false ≡ has_ended earlier → None ≡ end_before earlier
end-passes earlier e = ap (λ b. fault_unless (not b) AfterEnd) e

-- a record after the end
pub ended-fault : (earlier : List Record) (r : Record) → true ≡ has_ended earlier → fault_of earlier r ≡ Some AfterEnd
ended-fault earlier r e =
    let version : ℕ = (heading_of earlier).version in
    sym
    (first_of-fails AfterEnd (end_before earlier) (kind_step (length earlier) version r ∷ later_fault earlier r (kind_of version r) ∷ [])
    (ap (λ b. fault_unless (not b) AfterEnd) e))

-- a record of no kind of the version, or that should be `core`
pub kind-fault : (earlier : List Record) (r : Record) (place : ℕ) (h : HeadingView) (fault : RecordFault) → false ≡ has_ended earlier → place ≡ length earlier
    → h ≡ heading_of earlier → kind_step place h.version r ≡ Some fault → fault_of earlier r ≡ Some fault
kind-fault earlier r place h fault open_still at heading e =
    let version : ℕ = (heading_of earlier).version in
    let here : kind_step (length earlier) version r ≡ Some fault =
    ap (λ n. kind_step n version r) (sym at) ∙ ap (λ (x : HeadingView). kind_step place x.version r) (sym heading) ∙ e in
    sym
    (first_of-passes (Some fault) (end_before earlier) (kind_step (length earlier) version r ∷ later_fault earlier r (kind_of version r) ∷ [])
    (end-passes earlier open_still)
    (first_of-fails fault (kind_step (length earlier) version r) (later_fault earlier r (kind_of version r) ∷ []) (sym here)))

-- what is known of a record once its kind is found: how many came before, the heading, and the kind
pub record IsKnown (earlier : List Record) (r : Record) (place : ℕ) (h : HeadingView) (kind : RecordKind) : Type 0 where
  pub open_still : false ≡ has_ended earlier
  pub at : place ≡ length earlier
  pub heading : h ≡ heading_of earlier
  pub passes : kind_step place h.version r ≡ None
  pub known : kind_of h.version r ≡ Some kind

pub known-kind : (earlier : List Record) (r : Record) (place : ℕ) (h : HeadingView) (kind : RecordKind) → false ≡ has_ended earlier → place ≡ length earlier
    → h ≡ heading_of earlier → (kind_step place h.version r ≡ None) × (kind_of h.version r ≡ Some kind) → IsKnown earlier r place h kind
known-kind earlier r place h kind open_still at heading known = record { open_still = open_still; at = at; heading = heading; passes = known.0; known = known.1 }

-- a record of a known kind has the fault of itself, else that among the records before it
later-fault : (earlier : List Record) (r : Record) (place : ℕ) (h : HeadingView) (kind : RecordKind) → IsKnown earlier r place h kind
    → fault_of earlier r ≡ option_or (own_fault place (forms h r kind) r kind) (book_fault earlier r kind)
later-fault earlier r place h kind k =
    let version : ℕ = (heading_of earlier).version in
    let steps : List (Option RecordFault) = later_fault earlier r (kind_of version r) ∷ [] in
    let here : kind_step (length earlier) version r ≡ None =
    ap (λ n. kind_step n version r) (sym k.at) ∙ ap (λ (x : HeadingView). kind_step place x.version r) (sym k.heading) ∙ k.passes in
    let kind_is : kind_of version r ≡ Some kind = ap (λ (x : HeadingView). kind_of x.version r) (sym k.heading) ∙ k.known in
    let own : own_fault place (forms h r kind) r kind ≡ own_fault (length earlier) (forms (heading_of earlier) r kind) r kind =
    ap (λ n. own_fault n (forms h r kind) r kind) k.at ∙ ap (λ (x : HeadingView). own_fault (length earlier) (forms x r kind) r kind) k.heading in
    sym
    (first_of-passes (later_fault earlier r (Some kind)) (end_before earlier) (kind_step (length earlier) version r ∷ steps) (end-passes earlier k.open_still)
    (first_of-passes (later_fault earlier r (Some kind)) (kind_step (length earlier) version r) steps (sym here)
    (first_of-last (later_fault earlier r (Some kind)) (later_fault earlier r (kind_of version r)) (ap (later_fault earlier r) (sym kind_is)))))
    ∙ ap (λ o. option_or o (book_fault earlier r kind)) (sym own)

-- a record that is faulty by itself has that fault
pub own-found : (earlier : List Record) (r : Record) (place : ℕ) (h : HeadingView) (kind : RecordKind) (fault : RecordFault) → IsKnown earlier r place h kind
    → Some fault ≡ own_fault place (forms h r kind) r kind → fault_of earlier r ≡ Some fault
own-found earlier r place h kind fault k is =
    later-fault earlier r place h kind k ∙ ap (λ o. option_or o (book_fault earlier r kind)) (sym is)

-- a record that is sound by itself has the fault among those before it, if any
pub book-found : (earlier : List Record) (r : Record) (place : ℕ) (h : HeadingView) (kind : RecordKind) (answer : Option RecordFault) → IsKnown earlier r place h kind
    → None ≡ own_fault place (forms h r kind) r kind → answer ≡ book_fault earlier r kind → fault_of earlier r ≡ answer
book-found earlier r place h kind answer k is book =
    later-fault earlier r place h kind k ∙ ap (λ o. option_or o (book_fault earlier r kind)) (sym is) ∙ sym book
