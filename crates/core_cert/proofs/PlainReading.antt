-- A certificate that refuses and is read has no scenario weight: none of its records is `scenario`.
use Rattle.std.proofs.Common.{◌≡◌, sym, ◌∙◌, refl, ap, subst, ℕ, ◌<◌, Ok, List, [], ◌∷◌, ◌++◌, length, Bool, true, false, Option, Some, None, pos, arith}
use Rattle.std.specs.Prelude.{◌&&◌, ◌||◌, ◌==◌, is_some, if◌then◌else◌}
use Rattle.std.specs.List.{All, find, list_any}
use Rattle.std.specs.Option.{unwrap_or}
use Rattle.std.proofs.lemmas.Bool.{and_parts}
use Rattle.std.proofs.lemmas.Slice.Eq.{bytes_eq-Decides}
use Rattle.core_sums.specs.Places.{below}
use Rattle.core_sums.proofs.Lists.{get_or-below, length-below}
use Rattle.std.proofs.lemmas.List.{length-map}
use Rattle.core_rows.specs.Names.{Record, field}
use Rattle.core_book.specs.View.{CaseView}
use Rattle.core_model.specs.Layout.{scenario_count}
use Rattle.core_model.specs.declared.cert.Cert as certs
use Rattle.core_model.specs.declared.cert.Cert.TheVariants as certs_of
use Rattle.core_model.specs.Fits.{IsPlainlyRefusing}
use Rattle.core_cert.specs.declared.kinds.RecordKind.{RecordKind}
use Rattle.core_cert.specs.declared.kinds.RecordKind.TheVariants.{Cert, Closes, Cannot, Amount, Loss, Margin, Weights, Scenario, Limit, Pool, Full, End}
use Rattle.core_cert.specs.declared.faults.RecordFault.{RecordFault}
use Rattle.core_cert.specs.declared.faults.RecordFault.TheVariants.{FirstNotCert, UnknownKind, OutOfOrder}
use Rattle.core_cert.specs.Kinds.{followers, forms, is_kind, kind_of, word_of}
use Rattle.core_cert.specs.Faults.{case_fault, end_before, fault_of, fields_fault, first_fault, is_follower, is_refusing, judge, kind_step, last_record, later_fault, order_step, place_in}
use Rattle.core_rows.specs.Steps.{fault_unless, first_of}
use Rattle.core_cert.specs.Stated.{calendar_stated, cert_of, cert_of_records, last_number, number_at, numbers_of, weights_stated}
use Rattle.core_rows.specs.FirstFault.{first_fault_after}
use Rattle.core_rows.proofs.FirstFault.{sound-next, sound-states}
use Rattle.core_cert.specs.Codes.{code_of}
use Rattle.core_rows.proofs.FirstStep.{holds-from_none}
use Rattle.core_cert.proofs.RoundTripOrder.{HasKind, kind-is, kind_of-word, same_kind}
use Rattle.core_cert.proofs.RoundTripSound.{last-put}

-- the kinds that may stand in a certificate that refuses, from the second record on
abbrev is_late : RecordKind → Bool
is_late Cannot = true
is_late Weights = true
is_late Limit = true
is_late Pool = true
is_late Full = true
is_late End = true
is_late _ = false

abbrev are_late : List RecordKind → Bool
are_late [] = true
are_late (x ∷ xs) = is_late x && are_late xs

-- a record of such a kind
record IsLate (r : Record) : Type 0 where
  pub kind : RecordKind
  pub late : is_late kind ≡ true
  pub is : HasKind kind r

-- is no scenario
late-other : (kind : RecordKind) → is_late kind ≡ true → same_kind Scenario kind ≡ false
late-other Scenario h = sym h
late-other _ h = refl

no-scenario : (r : Record) → IsLate r → is_kind Scenario r ≡ false
no-scenario r h = kind-is Scenario h.kind r h.is ∙ late-other h.kind h.late

-- only such kinds may stand after it
followers-late : (kind : RecordKind) → is_late kind ≡ true → are_late (followers true kind) ≡ true
followers-late Cannot h = refl
followers-late Weights h = refl
followers-late Limit h = refl
followers-late Pool h = refl
followers-late Full h = refl
followers-late End h = refl
followers-late Cert h = cc
followers-late Closes h = cc
followers-late Amount h = cc
followers-late Loss h = cc
followers-late Margin h = cc
followers-late Scenario h = cc

has-kind : (kind : RecordKind) (r : Record) → is_kind kind r ≡ true → HasKind kind r
has-kind kind r h = (bytes_eq-Decides (field r 0) (word_of kind)).0 h

one-late : (r : Record) (xs : List RecordKind) → are_late xs ≡ true → list_any (λ x. is_kind x r) xs ≡ true → IsLate r
one-late r [] late h = cc
one-late r (x ∷ xs) late h = split (λ any. one-late r xs all.1 any) (is_kind x r) refl h
  where
    all : (is_late x ≡ true) × (are_late xs ≡ true)
    all = and_parts (is_late x) (are_late xs) late

    split : (list_any (λ y. is_kind y r) xs ≡ true → IsLate r) → (b : Bool) → is_kind x r ≡ b → (b || list_any (λ y. is_kind y r) xs) ≡ true → IsLate r
    split later true e any = record { kind = x; late = all.0; is = has-kind x r e }
    split later false e any = later any

-- steps that find no fault
three-none : (x y z : Option RecordFault) → first_of (x ∷ y ∷ z ∷ []) ≡ None → (x ≡ None) × (y ≡ None) × (z ≡ None)
unfolding first_of
three-none None None None e = (refl, refl, refl)
three-none (Some x) y z e = cc
three-none None (Some y) z e = cc
three-none None None (Some z) e = cc

-- a record without a fault stands in order after those before it
in-order : (c : CaseView) (x : Record) (xs : List Record) (r : Record) → fault_of c (x ∷ xs) r ≡ None
    → is_follower (is_refusing (x ∷ xs)) (kind_of (last_record (x ∷ xs))) r ≡ true
in-order c x xs r none = split (kind_of r) steps.1 steps.2
  where
    steps : (end_before (x ∷ xs) ≡ None) × (kind_step (length (x ∷ xs)) r ≡ None) × (later_fault c (x ∷ xs) r (kind_of r) ≡ None)
    steps = three-none (end_before (x ∷ xs)) (kind_step (length (x ∷ xs)) r) (later_fault c (x ∷ xs) r (kind_of r)) none

    split : (o : Option RecordKind) → fault_unless (is_some o) UnknownKind ≡ None → later_fault c (x ∷ xs) r o ≡ None
        → is_follower (is_refusing (x ∷ xs)) (kind_of (last_record (x ∷ xs))) r ≡ true
    split None known later = cc
    split (Some kind) known later =
        holds-from_none (is_follower (is_refusing (x ∷ xs)) (kind_of (last_record (x ∷ xs))) r) OutOfOrder
        (three-none (order_step (x ∷ xs) r) (fields_fault (forms c kind) r) (case_fault c (x ∷ xs) kind r) later).0

late-next : (c : CaseView) (x : Record) (xs : List Record) (r : Record) → is_refusing (x ∷ xs) ≡ true → IsLate (last_record (x ∷ xs)) → fault_of c (x ∷ xs) r ≡ None → IsLate r
late-next c x xs r refuses last none = one-late r (followers true last.kind) (followers-late last.kind last.late)
    (sym (ap (λ b. is_follower b (kind_of (last_record (x ∷ xs))) r) refuses ∙ ap (λ k. is_follower true k r) (kind_of-word last.kind (last_record (x ∷ xs)) last.is))
    ∙ in-order c x xs r none)

-- records of which none is a scenario
abbrev NoScenario : List Record → Type 0
NoScenario [] = Unit {0}
NoScenario (r ∷ rs) = (is_kind Scenario r ≡ false) × NoScenario rs

none-left : (c : CaseView) (x y : Record) (xs rs : List Record) → is_kind Cannot y ≡ true → IsLate (last_record (x ∷ y ∷ xs))
    → first_fault_after (judge c) (x ∷ y ∷ xs) rs ≡ None → NoScenario rs
none-left c x y xs [] refuses last sound = tt
none-left c x y xs (r ∷ rs) refuses last sound =
    let next : (fault_of c (x ∷ y ∷ xs) r ≡ None) × (first_fault_after (judge c) ((x ∷ y ∷ xs) ++ (r ∷ [])) rs ≡ None) = sound-next (judge c) (x ∷ y ∷ xs) r rs sound in
    let late : IsLate r = late-next c x (y ∷ xs) r refuses last next.0 in
    (no-scenario r late, none-left c x y (xs ++ (r ∷ [])) rs refuses (subst IsLate (sym (last-put (x ∷ y ∷ xs) r)) late) next.1)

first-is : (c : CaseView) (x : Record) → fault_of c [] x ≡ None → is_kind Scenario x ≡ false
first-is c x none = kind-is Scenario Cert x (has-kind Cert x
    (holds-from_none (is_kind Cert x) FirstNotCert (three-none (end_before []) (kind_step 0 x) (later_fault c [] x (kind_of x)) none).1))

no-scenarios : (c : CaseView) (rs : List Record) → first_fault c rs ≡ None → is_refusing rs ≡ true → NoScenario rs
no-scenarios c [] sound refuses = tt
no-scenarios c (x ∷ []) sound refuses = (first-is c x (sound-next (judge c) [] x [] sound).0, tt)
no-scenarios c (x ∷ y ∷ rs) sound refuses =
    let first : (fault_of c [] x ≡ None) × (first_fault_after (judge c) (x ∷ []) (y ∷ rs) ≡ None) = sound-next (judge c) [] x (y ∷ rs) sound in
    let second : (fault_of c (x ∷ []) y ≡ None) × (first_fault_after (judge c) (x ∷ y ∷ []) rs ≡ None) = sound-next (judge c) (x ∷ []) y rs first.1 in
    let late : IsLate y = record { kind = Cannot; late = refl; is = has-kind Cannot y refuses } in
    (first-is c x first.0, (no-scenario y late, none-left c x y [] rs refuses late second.1))

-- so none is found, and each weight of a scenario is 0
none-found : (c : CaseView) (p : ℕ) (rs : List Record) → NoScenario rs → number_at c rs Scenario p ≡ pos 0
none-found c p [] none = refl
none-found c p (r ∷ rs) none = skipped (is_kind Scenario r) none.0 ∙ none-found c p rs none.1
  where
    skipped : (b : Bool) → b ≡ false
        → last_number (unwrap_or (if b && (place_in c Scenario r == p) then Some r else find (λ x. is_kind Scenario x && (place_in c Scenario x == p)) rs) []) ≡ number_at c rs Scenario p
    skipped true e = cc
    skipped false e = refl

nought : (c : CaseView) (rs : List Record) → NoScenario rs → All (λ z. z ≡ pos 0) (numbers_of c rs Scenario)
nought c rs none i d h =
    let n = scenario_count c in
    let within : i < n = omega (arith, h, length-map (below n) (number_at c rs Scenario), length-below n) in
    get_or-below n i (number_at c rs Scenario) d within ∙ none-found c i rs none

-- what sound records state refuses without a scenario, where it refuses
pub plain-records : (c : CaseView) (rs : List Record) → first_fault c rs ≡ None → IsPlainlyRefusing (cert_of c rs)
plain-records c rs sound = split (is_refusing rs) refl
  where
    split : (b : Bool) → is_refusing rs ≡ b
        → IsPlainlyRefusing (if b then certs_of.Cannot (weights_stated c rs) else certs_of.Closes (calendar_stated c rs) (number_at c rs Loss 0) (weights_stated c rs))
    split true refuses = nought c rs (no-scenarios c rs sound refuses)
    split false refuses = tt

-- so does what is accepted
pub accepted-plain : (c : CaseView) (cert : certs.Cert) (rs : List Record) → cert_of_records c rs ≡ Ok cert → IsPlainlyRefusing cert
accepted-plain c cert rs e =
    let sound = sound-states code_of (first_fault c rs) (cert_of c rs) cert e in
    subst IsPlainlyRefusing sound.1 (plain-records c rs sound.0)
