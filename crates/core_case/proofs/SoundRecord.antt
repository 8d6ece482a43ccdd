-- What a sound record keeps, step by step, and that all records before a first fault are sound.
use Rattle.std.proofs.Common.{◌≡◌, refl, sym, ap, subst, cond, ℕ, zero, suc, ◌<◌, ◌≤◌, ◌⊎◌, inl, inr, arith, List, [], ◌∷◌, ◌++◌, length, take, map, get_or, Bool, true, false, is_some, Option, Some, None}
use Rattle.std.proofs.lemmas.Bool.{eqb-true, cases_lt}
use Rattle.std.proofs.lemmas.List.{append-nil, append_assoc, length-append, take_at, get_or_at}
use Rattle.core_sums.specs.Places.{row_at}
use Rattle.core_rows.specs.Names.{Record, field}
use Rattle.core_case.specs.declared.kinds.RecordKind.{RecordKind}
use Rattle.core_case.specs.declared.kinds.RecordKind.TheVariants.{Core}
use Rattle.core_case.specs.declared.forms.Form.{Form}
use Rattle.core_case.specs.declared.forms.Form.TheVariants.{Version}
use Rattle.core_case.specs.declared.faults.RecordFault.{RecordFault}
use Rattle.core_case.specs.declared.faults.RecordFault.TheVariants.{EndMissing, FirstNotCore}
use Rattle.core_case.specs.Kinds.{is_kind, kind_of, forms, references}
use Rattle.core_case.specs.Faults.{fault_of, first_fault, judge, end_before, kind_step, later_fault, own_fault, book_fault, form_fault, range_fault, heading_of, order_step, zero_step, name_step, security_step, repeats, has_room, end_step, has_ended}
use Rattle.core_rows.specs.FirstFault.{missing_after}
use Rattle.core_rows.proofs.FirstFault as walk
use Rattle.core_rows.specs.Steps.{first_of}
use Rattle.core_rows.proofs.FirstStep.{holds-from_none, fails-from_none, neither, first_of-parts}
use Rattle.core_rows.proofs.FieldWalk.{field-at}
use Rattle.core_case.proofs.ReadingFaults.{kind-is}

-- the steps that a sound record of a kind passes, among the records before it
pub record SoundRecord (earlier : List Record) (r : Record) (kind : RecordKind) : Type 0 where
  pub of_kind : is_kind kind r ≡ true
  pub going_on : has_ended earlier ≡ false
  pub order : order_step (length earlier) kind ≡ None
  pub count : length r ≡ suc (length (forms (heading_of earlier) r kind))
  pub formed : (n : ℕ) → n < length (forms (heading_of earlier) r kind)
      → form_fault (get_or (forms (heading_of earlier) r kind) n Version) (field r (suc n)) ≡ None
  pub ranged : (n : ℕ) → n < length (forms (heading_of earlier) r kind)
      → range_fault (get_or (forms (heading_of earlier) r kind) n Version) (field r (suc n)) ≡ None
  pub not_zero : zero_step r kind ≡ None
  pub names : first_of (map (name_step earlier r) (references kind)) ≡ None
  pub security : security_step earlier r kind ≡ None
  pub is_new : repeats earlier r kind ≡ false
  pub room : has_room earlier r kind ≡ true
  pub complete : end_step earlier kind ≡ None

-- the steps of the record alone
record OwnSound (place : ℕ) (fs : List Form) (r : Record) (kind : RecordKind) : Type 0 where
  order : order_step place kind ≡ None
  count : length r ≡ suc (length fs)
  formed : (n : ℕ) → n < length fs → form_fault (get_or fs n Version) (field r (suc n)) ≡ None
  ranged : (n : ℕ) → n < length fs → range_fault (get_or fs n Version) (field r (suc n)) ≡ None
  not_zero : zero_step r kind ≡ None

-- a record with no fault of its own passes the steps of the record alone
own-sound : (place : ℕ) (fs : List Form) (r : Record) (kind : RecordKind) → own_fault place fs r kind ≡ None → OwnSound place fs r kind
own-sound place fs r kind e =
    let ordered = first_of-parts _ _ e in
    let fields = first_of-parts _ _ ordered.1 in
    let zeros = first_of-parts _ _ fields.1 in
    let counted = first_of-parts _ _ fields.0 in
    let forms_are = first_of-parts _ _ counted.1 in
    let ranges_are = first_of-parts _ _ forms_are.1 in
    let count : length r ≡ suc (length fs) = eqb-true (length r) (suc (length fs)) (holds-from_none _ _ counted.0) in
    record {
      order = ordered.0;
      count = count;
      formed = field-at form_fault fs r Version count forms_are.0;
      ranged = field-at range_fault fs r Version count ranges_are.0;
      not_zero = zeros.0;
    }

-- the steps among the records before it
record BookSound (earlier : List Record) (r : Record) (kind : RecordKind) : Type 0 where
  names : first_of (map (name_step earlier r) (references kind)) ≡ None
  security : security_step earlier r kind ≡ None
  is_new : repeats earlier r kind ≡ false
  room : has_room earlier r kind ≡ true
  complete : end_step earlier kind ≡ None

-- and one with no fault among those before it passes these steps
book-sound : (earlier : List Record) (r : Record) (kind : RecordKind) → book_fault earlier r kind ≡ None → BookSound earlier r kind
book-sound earlier r kind e =
    let named = first_of-parts _ _ e in
    let secure = first_of-parts _ _ named.1 in
    let new = first_of-parts _ _ secure.1 in
    let roomy = first_of-parts _ _ new.1 in
    let completed = first_of-parts _ _ roomy.1 in
    record {
      names = named.0;
      security = secure.0;
      is_new = fails-from_none _ _ new.0;
      room = holds-from_none _ _ roomy.0;
      complete = completed.0;
    }

-- a record of a kind with no fault is sound
of-kind-sound : (earlier : List Record) (r : Record) (kind : RecordKind) → kind_of (heading_of earlier).version r ≡ Some kind → has_ended earlier ≡ false
    → later_fault earlier r (Some kind) ≡ None → SoundRecord earlier r kind
of-kind-sound earlier r kind known going_on e =
    let parts = neither (own_fault (length earlier) (forms (heading_of earlier) r kind) r kind) (book_fault earlier r kind) e in
    let own = own-sound (length earlier) (forms (heading_of earlier) r kind) r kind parts.0 in
    let book = book-sound earlier r kind parts.1 in
    record {
      of_kind = kind-is (heading_of earlier).version r kind known;
      going_on = going_on;
      order = own.order;
      count = own.count;
      formed = own.formed;
      ranged = own.ranged;
      not_zero = own.not_zero;
      names = book.names;
      security = book.security;
      is_new = book.is_new;
      room = book.room;
      complete = book.complete;
    }

-- a record that passes the step of the kind has one
has-kind : (place version : ℕ) (r : Record) → kind_step place version r ≡ None → kind_of version r ≡ None → ⊥
has-kind zero version r e none =
    let core : is_kind Core r ≡ true = holds-from_none _ _ e in
    let is : kind_of version r ≡ Some Core = rw core refl in
    cc
has-kind (suc n) version r e none =
    let known : is_some (kind_of version r) ≡ true = holds-from_none _ _ e in
    let unknown : is_some (kind_of version r) ≡ false = ap (λ o. is_some o) none in
    cc

-- a record without a fault is sound, and of some kind
pub sound-record : (earlier : List Record) (r : Record) → fault_of earlier r ≡ None → (kind : RecordKind) × SoundRecord earlier r kind
sound-record earlier r e = split (kind_of (heading_of earlier).version r) refl
  where
    version : ℕ
    version = (heading_of earlier).version

    going : (end_before earlier ≡ None) × (first_of (kind_step (length earlier) version r ∷ later_fault earlier r (kind_of version r) ∷ []) ≡ None)
    going = first_of-parts _ _ e

    known : (kind_step (length earlier) version r ≡ None) × (first_of (later_fault earlier r (kind_of version r) ∷ []) ≡ None)
    known = first_of-parts _ _ going.1

    later : later_fault earlier r (kind_of version r) ≡ None
    later = (first_of-parts _ _ known.1).0

    split : (o : Option RecordKind) → kind_of version r ≡ o → (kind : RecordKind) × SoundRecord earlier r kind
    split None is = absurd (has-kind (length earlier) version r known.0 is)
    split (Some kind) is =
        (kind, of-kind-sound earlier r kind is (fails-from_none _ _ going.0) (subst (λ (o : Option RecordKind). later_fault earlier r o ≡ None) is later))

-- before a first fault each record is sound among those before it
pub sound-at : (rs : List Record) → first_fault rs ≡ None → (i : ℕ) → i < length rs → (kind : RecordKind) × SoundRecord (take i rs) (row_at rs i) kind
sound-at rs e i within = sound-record (take i rs) (row_at rs i) (walk.sound-at judge rs e i within)

-- what holds of no records, and of one more sound record after those of which it holds, holds of a sound file
pub by-one-more : (P : List Record → Type 0) → P [] → ((earlier : List Record) (r : Record) (kind : RecordKind) → P earlier → SoundRecord earlier r kind → P (earlier ++ (r ∷ [])))
    → (rs : List Record) → first_fault rs ≡ None → P rs
by-one-more P none more rs e =
    walk.by-one-more judge rs e P none (λ earlier r so_far here. let sound = sound-record earlier r here in more earlier r sound.0 so_far sound.1)

-- what is missing where nothing is
none-missed : (n : ℕ) (has : Bool) → missing_after n has FirstNotCore EndMissing ≡ None → (0 < n) × (has ≡ true)
none-missed zero has e = absurd (cc)
none-missed (suc n) true e = (omega arith, refl)
none-missed (suc n) false e = absurd (cc)

-- so `end` is among the records of a sound file
pub ended : (rs : List Record) → first_fault rs ≡ None → has_ended rs ≡ true
ended rs e = (none-missed (length rs) (has_ended rs) (walk.none-missing judge rs e)).1

-- and the first of them is `core`
pub first-core : (rs : List Record) → first_fault rs ≡ None → is_kind Core (row_at rs 0) ≡ true
first-core rs e =
    let none : fault_of [] (row_at rs 0) ≡ None =
    walk.sound-at judge rs e 0 (none-missed (length rs) (has_ended rs) (walk.none-missing judge rs e)).0 in
    holds-from_none _ _ (first_of-parts _ _ (first_of-parts _ _ none).1).0
