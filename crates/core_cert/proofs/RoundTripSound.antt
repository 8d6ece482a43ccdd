-- Records that stand soundly one after the other have no fault.
use Rattle.std.proofs.Common.{◌≡◌, ◌∷◌, ◌++◌, ◌∙◌, [], suc, ◌-◌, List, length, length-append, Bool, true, false, Option, Some, None, refl, ap, codes, arith}
use Rattle.std.specs.Prelude.{not, ◌||◌, nat_lt, is_some, if◌then◌else◌}
use Rattle.std.specs.List.{list_any}
use Rattle.std.specs.Option.{option_or}
use Rattle.std.specs.Str.{bytes_eq}
use Rattle.std.proofs.lemmas.List.{get_or_push}
use Rattle.core_rows.specs.Names.{Record}
use Rattle.core_book.specs.View.{CaseView, is_tiered}
use Rattle.core_cert.specs.declared.kinds.RecordKind.{RecordKind}
use Rattle.core_cert.specs.declared.kinds.RecordKind.TheVariants.{Cannot, Margin, End}
use Rattle.core_cert.specs.declared.forms.Form.TheVariants.{Version}
use Rattle.core_cert.specs.Written.{first_record, version_word}
use Rattle.core_cert.specs.declared.faults.RecordFault.{RecordFault}
use Rattle.core_cert.specs.declared.faults.RecordFault.TheVariants.{FirstNotCert, OutOfOrder, UnknownKind, AfterEnd, NotRising, EndMissing}
use Rattle.core_cert.specs.Kinds.{kind_of, is_kind, followers, forms, word_of}
use Rattle.core_cert.specs.Faults.{case_fault, end_before, fault_of, fields_fault, first_fault, is_follower, is_refusing, judge, key_step, kind_step, last_record, later_fault, line_step, margin_step, name_step, order_step, place_in}
use Rattle.core_rows.specs.FirstFault.{first_fault_after, missing_after, missing_end}
use Rattle.core_rows.proofs.FirstFault.{fault-here, none-left}
use Rattle.core_rows.specs.Steps.{by_form, fault_unless, first_of}
use Rattle.core_cert.proofs.RoundTripOrder.{HasKind, can_follow, kind-is, kind_of-word, same_kind}

-- a record stands soundly after the record before it
pub record IsSound (c : CaseView) (refusing : Bool) (before r : Record) : Type 0 where
  pub kind : RecordKind
  pub last : RecordKind
  pub is : HasKind kind r
  pub after : HasKind last before
  pub follows : can_follow refusing last kind ≡ true
  pub fields : fields_fault (forms c kind) r ≡ None
  pub name : name_step c kind r ≡ None
  pub line : line_step c kind r ≡ None
  pub key : (not (is_kind kind before) || nat_lt (place_in c kind before) (place_in c kind r)) ≡ true
  pub margin : margin_step (before ∷ []) kind r ≡ None

-- each of some records does, after the one before it
abbrev pub AreSound : CaseView → Bool → Record → List Record → Type 0
AreSound c refusing before [] = Unit {0}
AreSound c refusing before (r ∷ rs) = IsSound c refusing before r × AreSound c refusing r rs

-- the last of some records after a record
abbrev pub last_after : Record → List Record → Record
last_after before [] = before
last_after before (r ∷ rs) = last_after r rs

pub last_after-append : (before : Record) (rs ss : List Record) → last_after before (rs ++ ss) ≡ last_after (last_after before rs) ss
last_after-append before [] ss = refl
last_after-append before (r ∷ rs) ss = last_after-append r rs ss

pub sound-append : (c : CaseView) (refusing : Bool) (before : Record) (rs ss : List Record)
    → AreSound c refusing before rs → AreSound c refusing (last_after before rs) ss → AreSound c refusing before (rs ++ ss)
sound-append c refusing before [] ss h later = later
sound-append c refusing before (r ∷ rs) ss h later = (h.0, sound-append c refusing r rs ss h.1 later)

-- no step finds a fault
pub first_of-three : (x y z : Option RecordFault) → x ≡ None → y ≡ None → z ≡ None → first_of (x ∷ y ∷ z ∷ []) ≡ None
unfolding first_of
first_of-three x y z ex ey ez = rw (ex, ey, ez) refl

first_of-four : (w x y z : Option RecordFault) → w ≡ None → x ≡ None → y ≡ None → z ≡ None → first_of (w ∷ x ∷ y ∷ z ∷ []) ≡ None
unfolding first_of
first_of-four w x y z ew ex ey ez = rw (ew, ex, ey, ez) refl

-- a test that passes gives no fault
pub no_fault : (test : Bool) (fault : RecordFault) → test ≡ true → fault_unless test fault ≡ None
no_fault test fault passes = ap (λ t. fault_unless t fault) passes

-- nothing may stand after the last record
not_end : (refusing : Bool) (last kind : RecordKind) → can_follow refusing last kind ≡ true → not (same_kind End last) ≡ true
not_end refusing End kind h = h
not_end refusing _ kind h = refl

-- the margin's step sees no record but the one before
margin-same : (earlier : List Record) (before : Record) (kind : RecordKind) (r : Record) → last_record earlier ≡ before
    → margin_step earlier kind r ≡ margin_step (before ∷ []) kind r
margin-same earlier before Margin r e = rw e refl
margin-same earlier before _ r e = refl

-- the word of a kind that may follow
follower : (refusing : Bool) (last kind : RecordKind) (r : Record) → HasKind kind r → can_follow refusing last kind ≡ true → is_follower refusing (Some last) r ≡ true
follower refusing last kind r is follows = ap (λ w. list_any (λ x. bytes_eq w (word_of x)) (followers refusing last)) is ∙ follows

-- a sound record has no fault
pub sound_record : (c : CaseView) (refusing : Bool) (x : Record) (xs : List Record) (before r : Record)
    → is_refusing (x ∷ xs) ≡ refusing → last_record (x ∷ xs) ≡ before → IsSound c refusing before r → fault_of c (x ∷ xs) r ≡ None
sound_record c refusing x xs before r form last sound = first_of-three (end_before (x ∷ xs)) (kind_step (length (x ∷ xs)) r) (later_fault c (x ∷ xs) r (kind_of r)) at_end known later
  where
    ended : not (is_kind End (last_record (x ∷ xs))) ≡ true
    ended = ap (λ s. not (is_kind End s)) last ∙ ap not (kind-is End sound.last before sound.after) ∙ not_end refusing sound.last sound.kind sound.follows

    at_end : end_before (x ∷ xs) ≡ None
    at_end = no_fault (not (is_kind End (last_record (x ∷ xs)))) AfterEnd ended

    kind : kind_of r ≡ Some sound.kind
    kind = kind_of-word sound.kind r sound.is

    known : kind_step (length (x ∷ xs)) r ≡ None
    known = ap (λ k. fault_unless (is_some k) UnknownKind) kind

    order : order_step (x ∷ xs) r ≡ None
    order = ap (λ b. fault_unless (is_follower b (kind_of (last_record (x ∷ xs))) r) OutOfOrder) form
        ∙ ap (λ s. fault_unless (is_follower refusing (kind_of s) r) OutOfOrder) last
        ∙ ap (λ k. fault_unless (is_follower refusing k r) OutOfOrder) (kind_of-word sound.last before sound.after)
        ∙ no_fault (is_follower refusing (Some sound.last) r) OutOfOrder (follower refusing sound.last sound.kind r sound.is sound.follows)

    rising : key_step c (x ∷ xs) sound.kind r ≡ None
    rising = ap (λ s. fault_unless (not (is_kind sound.kind s) || nat_lt (place_in c sound.kind s) (place_in c sound.kind r)) NotRising) last
        ∙ no_fault (not (is_kind sound.kind before) || nat_lt (place_in c sound.kind before) (place_in c sound.kind r)) NotRising sound.key

    of_case : case_fault c (x ∷ xs) sound.kind r ≡ None
    of_case = first_of-four (name_step c sound.kind r) (line_step c sound.kind r) (key_step c (x ∷ xs) sound.kind r) (margin_step (x ∷ xs) sound.kind r)
        sound.name sound.line rising (margin-same (x ∷ xs) before sound.kind r last ∙ sound.margin)

    later : later_fault c (x ∷ xs) r (kind_of r) ≡ None
    later = ap (later_fault c (x ∷ xs) r) kind
        ∙ first_of-three (order_step (x ∷ xs) r) (fields_fault (forms c sound.kind) r) (case_fault c (x ∷ xs) sound.kind r) order sound.fields of_case

-- the record that was put last
pub last-put : (earlier : List Record) (r : Record) → last_record (earlier ++ (r ∷ [])) ≡ r
last-put earlier r = get_or_push earlier r [] (length (earlier ++ (r ∷ [])) - 1) (omega (arith, length-append earlier (r ∷ [])))

-- where the last record is the end, none is missing
ended : (c : CaseView) (x : Record) (xs : List Record) (before : Record) → last_record (x ∷ xs) ≡ before → HasKind End before → missing_end (judge c) (x ∷ xs) ≡ None
ended c x xs before last is = ap (λ b. missing_after (length (x ∷ xs)) b FirstNotCert EndMissing) (ap (is_kind End) last ∙ kind-is End End before is)

-- sound records that end with the end have no fault
pub sound_records : (c : CaseView) (refusing : Bool) (x y : Record) (xs : List Record) (before : Record) (rs : List Record)
    → is_kind Cannot y ≡ refusing → last_record (x ∷ y ∷ xs) ≡ before → AreSound c refusing before rs → HasKind End (last_after before rs)
    → first_fault_after (judge c) (x ∷ y ∷ xs) rs ≡ None
sound_records c refusing x y xs before [] form last sound end = none-left (judge c) (x ∷ y ∷ xs) ∙ ended c x (y ∷ xs) before last end
sound_records c refusing x y xs before (r ∷ rs) form last sound end =
    fault-here (judge c) (x ∷ y ∷ xs) r rs None (sound_record c refusing x (y ∷ xs) before r form last sound.0)
    ∙ sound_records c refusing x y (xs ++ (r ∷ [])) r rs form (last-put (x ∷ y ∷ xs) r) sound.1 end

-- the first record has no fault
version-sound : (tiered : Bool) → fields_fault (Version tiered ∷ []) (codes "cert" ∷ version_word tiered ∷ []) ≡ None
unfolding first_of by_form
version-sound true = refl
version-sound false = refl

first-sound : (c : CaseView) → fault_of c [] (first_record c) ≡ None
unfolding first_of
first-sound c = ap (λ o. option_or (option_or o None) None) (version-sound (is_tiered c))

-- nor have the first, the second and those after it
pub sound_text : (c : CaseView) (refusing : Bool) (second : Record) (rest : List Record)
    → is_kind Cannot second ≡ refusing → IsSound c false (first_record c) second → AreSound c refusing second rest → HasKind End (last_after second rest)
    → first_fault c (first_record c ∷ second ∷ rest) ≡ None
sound_text c refusing second rest form sound later end =
    fault-here (judge c) [] (first_record c) (second ∷ rest) None (first-sound c)
    ∙ fault-here (judge c) (first_record c ∷ []) second rest None (sound_record c false (first_record c) [] (first_record c) second refl refl sound)
    ∙ sound_records c refusing (first_record c) second [] second rest form refl later end
