-- The records of a sound file: the kinds that they are of, where they stand, the forms of their fields, how many there are.
use Rattle.std.proofs.Common.{◌≡◌, refl, sym, ◌∙◌, ap, subst, ℕ, zero, suc, ◌+◌, ◌<◌, ◌≤◌, ◌⊎◌, inl, inr, arith, ℤ, pos, negsuc, int_le, unsigned_abs, true, false, cond, ◌&&◌, List, [], ◌∷◌, ◌++◌, length, filter, take, get_or, Option, Some, None, is_some}
use Rattle.std.proofs.lemmas.Int.{ints}
use Rattle.std.proofs.lemmas.Bool.{and_parts, and_from, ltb-true, cases_Bool, cases_order}
use Rattle.std.proofs.lemmas.List.{get_or-take, length-take-le}
use Rattle.std.proofs.lemmas.Slice.Eq.{bytes_eq-Decides}
use Rattle.std.specs.Option.{unwrap_or}
use Rattle.std.specs.Str.{bytes_eq}
use Rattle.core_sums.specs.Places.{row_at}
use Rattle.core_rows.specs.Names.{Record, field}
use Rattle.core_rows.specs.Fields.{whole}
use Rattle.core_case.specs.declared.kinds.RecordKind.{RecordKind}
use Rattle.core_case.specs.declared.kinds.RecordKind.TheVariants.{Core, House, End}
use Rattle.core_case.specs.declared.forms.Form.TheVariants.{Version, Number}
use Rattle.core_case.specs.Kinds.{HeadingView, is_kind, forms, number_in, natural_in, most_records}
use Rattle.core_book.specs.WellFormed.{IsIn}
use Rattle.core_case.specs.Faults.{first_fault, form_fault, range_fault, is_between, heading_of, is_core_or_house, is_house, of_kind, order_step, group_of, is_in_group, is_below, count_in, has_room, is_filed, is_complete}
use Rattle.core_case.proofs.SoundRecord.{SoundRecord, sound-at, by-one-more, ended, first-core}
use Rattle.core_rows.proofs.FirstStep.{holds-from_none}
use Rattle.core_rows.proofs.NamePlaces.{bytes_eq-sym}
use Rattle.core_case.proofs.FiledKeys.{one-kind}
use Rattle.core_case.proofs.Filters.{filter-filter, length-filter_push, found-at, none-before}

-- a record of a sound file is sound as a record of its kind
pub sound-of : (rs : List Record) → first_fault rs ≡ None → (i : ℕ) → i < length rs → (kind : RecordKind) → is_kind kind (row_at rs i) ≡ true
    → SoundRecord (take i rs) (row_at rs i) kind
sound-of rs e i within kind is =
    let sound = sound-at rs e i within in
    subst (λ (k : RecordKind). SoundRecord (take i rs) (row_at rs i) k) (one-kind sound.0 kind (row_at rs i) sound.1.of_kind is) sound.1

-- a kind that passes the test for `house` is this kind
house-only : (kind : RecordKind) → is_house kind ≡ true → kind ≡ House
house-only House e = refl
house-only _ e = absurd (cc)

-- the second record is a sound `house`
pub house-sound : (rs : List Record) → first_fault rs ≡ None → 1 < length rs → SoundRecord (take 1 rs) (row_at rs 1) House
house-sound rs e within =
    let sound = sound-at rs e 1 within in
    let one : length (take 1 rs) ≡ 1 = length-take-le 1 rs (omega (arith, within)) in
    let order = subst (λ (n : ℕ). order_step n sound.0 ≡ None) one sound.1.order in
    subst (λ (k : RecordKind). SoundRecord (take 1 rs) (row_at rs 1) k) (house-only sound.0 (holds-from_none _ _ order)) sound.1

-- a record of another kind than `core` and `house` stands after these
pub later-place : (rs : List Record) → first_fault rs ≡ None → (i : ℕ) → i < length rs → (kind : RecordKind) → is_kind kind (row_at rs i) ≡ true
    → is_core_or_house kind ≡ false → 2 ≤ i
later-place rs e zero within kind is other =
    let core : kind ≡ Core = one-kind kind Core (row_at rs 0) is (first-core rs e) in
    let wrong : true ≡ false = subst (λ (k : RecordKind). is_core_or_house k ≡ false) core other in
    absurd (cc)
later-place rs e (suc zero) within kind is other =
    let sound = house-sound rs e within in
    let house : kind ≡ House = one-kind kind House (row_at rs 1) is sound.of_kind in
    let wrong : true ≡ false = subst (λ (k : RecordKind). is_core_or_house k ≡ false) house other in
    absurd (cc)
later-place rs e (suc (suc i)) within kind is other = omega arith

-- the fields of a record have the forms of its kind, in a case with this heading
pub record InForm (h : HeadingView) (r : Record) (kind : RecordKind) : Type 0 where
  pub count : length r ≡ suc (length (forms h r kind))
  pub formed : (n : ℕ) → n < length (forms h r kind) → form_fault (get_or (forms h r kind) n Version) (field r (suc n)) ≡ None
  pub ranged : (n : ℕ) → n < length (forms h r kind) → range_fault (get_or (forms h r kind) n Version) (field r (suc n)) ≡ None

-- in a sound file they have these forms, where the heading is that of the file
pub in-form : (rs : List Record) → first_fault rs ≡ None → (i : ℕ) → i < length rs → (kind : RecordKind) → is_kind kind (row_at rs i) ≡ true
    → is_core_or_house kind ≡ false → InForm (heading_of rs) (row_at rs i) kind
in-form rs e i within kind is other =
    let sound = sound-of rs e i within kind is in
    let place : 2 ≤ i = later-place rs e i within kind is other in
    let core : row_at (take i rs) 0 ≡ row_at rs 0 = get_or-take i rs 0 [] (omega (arith, place)) in
    let house : row_at (take i rs) 1 ≡ row_at rs 1 = get_or-take i rs 1 [] (omega (arith, place)) in
    let here : InForm (heading_of (take i rs)) (row_at rs i) kind = record { count = sound.count; formed = sound.formed; ranged = sound.ranged } in
    let state : Record → Record → HeadingView = λ x y. record { version = natural_in x 1; horizon = natural_in y 2; last = natural_in y 3 } in
    subst (λ (x : Record). InForm (state x (row_at rs 1)) (row_at rs i) kind) core
    (subst (λ (y : Record). InForm (state (row_at (take i rs) 0) y) (row_at rs i) kind) house here)

-- a number or a date that is there and in its range lies there
pub some-between : (low high : ℤ) (o : Option ℤ) → is_some o ≡ true → is_between low high o ≡ true → IsIn low high (unwrap_or o (pos 0))
some-between low high None some within = absurd (cc)
some-between low high (Some z) some within =
    let parts = and_parts (int_le low z) (int_le z high) within in
    let from : int_le low z ≡ true = parts.0 in
    let to : int_le z high ≡ true = parts.1 in
    (grind (arith, ints, from), grind (arith, ints, to))

-- a field that has the form of a number lies in the range of the form
pub number-between : (low high : ℤ) (r : Record) (n : ℕ) → form_fault (Number low high) (field r n) ≡ None → range_fault (Number low high) (field r n) ≡ None
    → IsIn low high (number_in r n)
number-between low high r n formed ranged =
    some-between low high (whole (field r n)) (holds-from_none _ _ formed) (holds-from_none _ _ ranged)

-- a whole number from a natural one on is natural
pub natural-between : (z : ℤ) (low high : ℕ) → IsIn (pos low) (pos high) z → (low ≤ unsigned_abs z) × (unsigned_abs z ≤ high)
natural-between (pos n) low high within = (omega (arith, ints, within.0), omega (arith, ints, within.1))
natural-between (negsuc n) low high within = absurd (omega (arith, ints, within.0))

-- records of a kind and a group are no more than a case takes
is-below-most : (n most : ℕ) (o : Option ℕ) → o ≡ Some most → is_below n o ≡ true → n < most
is-below-most n most None same below = absurd (cc)
is-below-most n most (Some m) same below = let here : m ≡ most = cc in let less = ltb-true n m below in omega (arith, here, less)

-- so a sound file has no more of them
pub count-kept : (kind : RecordKind) (most : ℕ) → most_records kind ≡ Some most → (group : List ℕ) → (rs : List Record) → first_fault rs ≡ None
    → count_in kind group rs ≤ most
count-kept kind most limited group rs e = by-one-more (λ xs. count_in kind group xs ≤ most) (omega arith) more rs e
  where
    split : (earlier : List Record) (r : Record) (k : RecordKind) → count_in kind group earlier ≤ most → SoundRecord earlier r k
        → (is_in_group kind group r ≡ true) ⊎ (is_in_group kind group r ≡ false) → count_in kind group earlier + cond (is_in_group kind group r) 1 0 ≤ most
    split earlier r k few sound (inr other) = rw other (omega (arith, few))
    split earlier r k few sound (inl counted) =
        let parts = and_parts (is_kind kind r) (bytes_eq group (group_of kind r)) counted in
        let same : group ≡ group_of kind r = (bytes_eq-Decides group (group_of kind r)).0 parts.1 in
        let this : k ≡ kind = one-kind k kind r sound.of_kind parts.0 in
        let room : has_room earlier r kind ≡ true = subst (λ (x : RecordKind). has_room earlier r x ≡ true) this sound.room in
        let less : count_in kind (group_of kind r) earlier < most = is-below-most (count_in kind (group_of kind r) earlier) most (most_records kind) limited room in
        let here : count_in kind group earlier < most = subst (λ (g : List ℕ). count_in kind g earlier < most) (sym same) less in
        rw counted (omega (arith, here))

    more : (earlier : List Record) (r : Record) (k : RecordKind) → count_in kind group earlier ≤ most → SoundRecord earlier r k → count_in kind group (earlier ++ (r ∷ [])) ≤ most
    more earlier r k few sound =
        subst (λ (n : ℕ). n ≤ most) (sym (length-filter_push (is_in_group kind group) earlier r))
        (split earlier r k few sound (cases_Bool (is_in_group kind group r)))

-- where records of a kind are counted by the name in their first field, a sound file has no more of them of a name
pub named-kept : (kind : RecordKind) (most : ℕ) → most_records kind ≡ Some most → ((r : Record) → group_of kind r ≡ field r 1) → (name : List ℕ) → (rs : List Record)
    → first_fault rs ≡ None → length (filter (λ r. bytes_eq (field r 1) name) (of_kind kind rs)) ≤ most
named-kept kind most limited by_name name rs e =
    let same : filter (λ r. bytes_eq (field r 1) name) (of_kind kind rs) ≡ filter (is_in_group kind name) rs =
    filter-filter (is_kind kind) (λ r. bytes_eq (field r 1) name) (is_in_group kind name)
    (λ r. ap (λ b. is_kind kind r && b) (ap (bytes_eq name) (by_name r) ∙ bytes_eq-sym name (field r 1))) rs in
    subst (λ (n : ℕ). n ≤ most) (sym (ap length same)) (count-kept kind most limited name rs e)

-- where `end` stands, and that the records before it are complete
pub record EndsAt (rs : List Record) (place : ℕ) : Type 0 where
  pub inside : place < length rs
  pub later : 2 ≤ place
  pub is_end : is_kind End (row_at rs place) ≡ true
  pub complete : is_complete (take place rs) ≡ true

-- a sound file has a place where `end` stands
pub ends-at : (rs : List Record) → first_fault rs ≡ None → (place : ℕ) × EndsAt rs place
ends-at rs e =
    let found = found-at (is_filed End [] []) rs [] (ended rs e) in
    let place : ℕ = found.0 in
    let within : place < length rs = found.1 in
    let is : is_kind End (row_at rs place) ≡ true = (and_parts _ _ (and_parts _ _ found.2).0).0 in
    let sound : SoundRecord (take place rs) (row_at rs place) End = sound-of rs e place within End is in
    (place, record { inside = within; later = later-place rs e place within End is refl; is_end = is; complete = holds-from_none _ _ sound.complete })

-- and every record of another kind stands before it
pub before-end : (rs : List Record) → first_fault rs ≡ None → (place : ℕ) → EndsAt rs place → (i : ℕ) → i < length rs → (kind : RecordKind)
    → is_kind kind (row_at rs i) ≡ true → (kind ≡ End → ⊥) → i < place
before-end rs e place ends i within kind is other = split (cases_order i place)
  where
    split : (i ≡ place) ⊎ ((i < place) ⊎ (place < i)) → i < place
    split (inl here) =
        let end : is_kind End (row_at rs i) ≡ true = ap (λ k. is_kind End (row_at rs k)) here ∙ ends.is_end in
        absurd (other (one-kind kind End (row_at rs i) is end))
    split (inr (inl less)) = less
    split (inr (inr more)) =
        let sound = sound-of rs e i within kind is in
        let none : is_filed End [] [] (row_at rs place) ≡ false = none-before (is_filed End [] []) rs [] i (omega (arith, within)) sound.going_on place more in
        let some : is_filed End [] [] (row_at rs place) ≡ true = and_from _ _ (and_from _ _ ends.is_end refl) refl in
        absurd (cc)

-- so a sound file has `core`, `house` and more
pub many-records : (rs : List Record) → first_fault rs ≡ None → 2 < length rs
many-records rs e = let ends = (ends-at rs e).1 in let far = ends.inside in let later = ends.later in omega (arith, far, later)
