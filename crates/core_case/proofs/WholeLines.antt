-- What sound records keep of positions and collateral.
use Rattle.std.proofs.Common.{◌≡◌, ◌≢◌, refl, ◌∙◌, ap, ℕ, zero, suc, ◌-◌, ◌^◌, ◌<◌, ◌⊎◌, inl, inr, List, [], length, take, ℤ, pos, negsuc, ◌≤ℤ◌, int_lt, arith, Bool, true, false, not, ◌||◌, if◌then◌else◌, Option, None, is_some, unsigned_abs}
use Rattle.std.proofs.lemmas.Int.{ints}
use Rattle.std.proofs.lemmas.Bool.{or_cases, false_from_ne_true}
use Rattle.std.proofs.lemmas.List.{get_or-map, length-map}
use Rattle.std.specs.Option.{unwrap_or}
use Rattle.std.specs.Ordering.{int_eq}
use Rattle.std.specs.List.{All, AllPairs}
use Rattle.core_sums.specs.Places.{row_at}
use Rattle.core_rows.specs.Names.{Record, field, place_of}
use Rattle.core_case.specs.declared.kinds.RecordKind.TheVariants.{Instrument, Position, Collateral}
use Rattle.core_case.specs.declared.faults.RecordFault.TheVariants.{OutOfRange, CollateralOfFuture}
use Rattle.core_book.specs.declared.parts.Kind.TheVariants as kinds
use Rattle.core_book.specs.declared.parts.Side.TheVariants as sides
use Rattle.core_case.specs.Kinds.{is_kind, number_in}
use Rattle.core_case.specs.Faults.{first_fault, of_kind, filed, is_filed, is_future, names_future}
use Rattle.core_book.specs.View.{instrument, no_instrument}
use Rattle.core_case.specs.Stated.{case_of, declared_names, instrument_of_record, line_of_record}
use Rattle.core_book.specs.WellFormed.{IsIn, IsLine}
use Rattle.core_case.proofs.Filters.{All-map_filter_at, AllPairs-map_filter_at, find-take}
use Rattle.core_rows.proofs.FirstStep.{holds-from_none, fails-from_none}
use Rattle.core_case.proofs.FiledKeys.{one-kind}
use Rattle.core_case.proofs.WholeRecords.{sound-of, number-between}
use Rattle.core_case.proofs.NamesSound.{names-differ}
use Rattle.core_case.proofs.NamesDeclared.{refers-declared, declared-before, declared-is, places-differ}
use Rattle.core_case.proofs.WholeNames.{as-declared}

-- a sign is 1 or -1
sign-is : (b : Bool) → ((if b then pos 1 else negsuc 0) ≡ pos 1) ⊎ ((if b then pos 1 else negsuc 0) ≡ negsuc 0)
sign-is true = inl refl
sign-is false = inr refl

-- the amount of what is not 0
int_eq-zero : (z : ℤ) → not (int_eq z (pos 0)) ≡ true → z ≢ pos 0
int_eq-zero z e same = let equal : not (int_eq z (pos 0)) ≡ false = ap (λ x. not (int_eq x (pos 0))) same in absurd (cc)

amount-in : (z : ℤ) → z ≢ pos 0 → IsIn (negsuc (10 ^ 9 - 1)) (pos (10 ^ 9)) z → IsIn (pos 1) (pos (10 ^ 9)) (pos (unsigned_abs z))
amount-in (pos zero) some within = absurd (some refl)
amount-in (pos (suc n)) some within = (omega (arith, ints), omega (arith, ints, within.1))
amount-in (negsuc n) some within = (omega (arith, ints), omega (arith, ints, within.0))

-- what is positive is not 0, and its sign is 1
above-zero : (z : ℤ) → IsIn (pos 1) (pos (10 ^ 9)) z → IsIn (pos 1) (pos (10 ^ 9)) (pos (unsigned_abs z)) × ((if int_lt (pos 0) z then pos 1 else negsuc 0) ≡ pos 1)
above-zero z within =
    let from : pos 1 ≤ℤ z = within.0 in
    let positive : int_lt (pos 0) z ≡ true = grind (arith, ints, from) in
    (amount-in z (λ same. omega (arith, ints, same, from)) (omega (arith, ints, from), within.1), ap (λ (b : Bool). if b then pos 1 else negsuc 0) positive)

-- a position or collateral, by its kind
abbrev LineKind : List Record → ℕ → Type 0
LineKind rs i = (is_kind Position (row_at rs i) ≡ true) ⊎ (is_kind Collateral (row_at rs i) ≡ true)

not-position : (r : Record) → is_kind Collateral r ≡ true → is_kind Position r ≡ false
not-position r is = false_from_ne_true (is_kind Position r) (λ other. let same : Position ≡ Collateral = one-kind Position Collateral r other is in absurd (cc))

-- the instrument of a line is filed before it, and so declared
line-filed : (rs : List Record) → first_fault rs ≡ None → (i : ℕ) → i < length rs → LineKind rs i → is_some (filed Instrument (field (row_at rs i) 1) [] (take i rs)) ≡ true
line-filed rs e i within (inl is) = (refers-declared (take i rs) (row_at rs i) (1, Instrument) [] (sound-of rs e i within Position is).names).0
line-filed rs e i within (inr is) = (refers-declared (take i rs) (row_at rs i) (1, Instrument) [] (sound-of rs e i within Collateral is).names).0

line-declared : (rs : List Record) → first_fault rs ≡ None → (i : ℕ) → i < length rs → LineKind rs i
    → place_of (field (row_at rs i) 1) (declared_names Instrument rs) < length (declared_names Instrument rs)
line-declared rs e i within kind = declared-before rs Instrument (field (row_at rs i) 1) i (omega (arith, within)) refl (line-filed rs e i within kind)

-- the instrument at a declared place is that of the first record filed under the name
instrument-at : (rs : List Record) (name : List ℕ) → place_of name (declared_names Instrument rs) < length (declared_names Instrument rs)
    → instrument (case_of rs) (place_of name (declared_names Instrument rs)) ≡ instrument_of_record (unwrap_or (filed Instrument name [] rs) [])
instrument-at rs name below =
    let within : place_of name (declared_names Instrument rs) < length (of_kind Instrument rs) = omega (arith, below, length-map (of_kind Instrument rs) (λ (r : Record). field r 1)) in
    get_or-map instrument_of_record (of_kind Instrument rs) (place_of name (declared_names Instrument rs)) [] no_instrument within
    ∙ ap instrument_of_record (declared-is rs Instrument name refl)

-- and of collateral it is a security
security-of : (rs : List Record) → first_fault rs ≡ None → (i : ℕ) → i < length rs → is_kind Collateral (row_at rs i) ≡ true
    → (instrument (case_of rs) (line_of_record rs (row_at rs i)).instrument).kind ≡ kinds.Security
security-of rs e i within is =
    let name : List ℕ = field (row_at rs i) 1 in
    let future : names_future (take i rs) name ≡ false = fails-from_none (names_future (take i rs) name) CollateralOfFuture (sound-of rs e i within Collateral is).security in
    let same : filed Instrument name [] rs ≡ filed Instrument name [] (take i rs) = find-take (is_filed Instrument name []) i rs (line-filed rs e i within (inr is)) in
    let not_future : is_future (unwrap_or (filed Instrument name [] rs) []) ≡ false = ap (λ (o : Option Record). is_future (unwrap_or o [])) same ∙ future in
    ap (λ x. x.kind) (instrument-at rs name (line-declared rs e i within (inr is)))
    ∙ ap (λ (b : Bool). if b then kinds.Future else kinds.Security) not_future

-- the line that a sound record states
position-sound : (rs : List Record) → first_fault rs ≡ None → (i : ℕ) → i < length rs → is_kind Position (row_at rs i) ≡ true → IsLine (case_of rs) (line_of_record rs (row_at rs i))
position-sound rs e i within is =
    let r : Record = row_at rs i in
    let sound = sound-of rs e i within Position is in
    let below = line-declared rs e i within (inl is) in
    let side : (line_of_record rs r).side ≡ sides.Position = ap (λ (b : Bool). if b then sides.Position else sides.Collateral) is in
    let some : number_in r 2 ≢ pos 0 = int_eq-zero (number_in r 2) (holds-from_none (not (int_eq (number_in r 2) (pos 0))) OutOfRange sound.not_zero) in
    record {
      known = omega (arith, below, as-declared rs Instrument instrument_of_record);
      sign = sign-is (int_lt (pos 0) (number_in r 2));
      amount = amount-in (number_in r 2) some (number-between (negsuc (10 ^ 9 - 1)) (pos (10 ^ 9)) r 2 (sound.formed 1 (omega arith)) (sound.ranged 1 (omega arith)));
      collateral = λ other. absurd (cc);
    }

collateral-sound : (rs : List Record) → first_fault rs ≡ None → (i : ℕ) → i < length rs → is_kind Collateral (row_at rs i) ≡ true → IsLine (case_of rs) (line_of_record rs (row_at rs i))
collateral-sound rs e i within is =
    let r : Record = row_at rs i in
    let sound = sound-of rs e i within Collateral is in
    let below = line-declared rs e i within (inr is) in
    let number = above-zero (number_in r 2) (number-between (pos 1) (pos (10 ^ 9)) r 2 (sound.formed 1 (omega arith)) (sound.ranged 1 (omega arith))) in
    record {
      known = omega (arith, below, as-declared rs Instrument instrument_of_record);
      sign = sign-is (int_lt (pos 0) (number_in r 2));
      amount = number.0;
      collateral = λ side. (security-of rs e i within is, number.1);
    }

-- no two lines are of the same instrument and side
lines-differ : (rs : List Record) → first_fault rs ≡ None → (i j : ℕ) → i < j → j < length rs → LineKind rs i → LineKind rs j
    → ((line_of_record rs (row_at rs i)).instrument ≢ (line_of_record rs (row_at rs j)).instrument) ⊎ ((line_of_record rs (row_at rs i)).side ≢ (line_of_record rs (row_at rs j)).side)
lines-differ rs e i j less within (inl one) (inl two) =
    inl (places-differ (field (row_at rs i) 1) (field (row_at rs j) 1) (declared_names Instrument rs) (names-differ rs e Position refl i j less within one two)
    (line-declared rs e i (omega (arith, less, within)) (inl one)))
lines-differ rs e i j less within (inr one) (inr two) =
    inl (places-differ (field (row_at rs i) 1) (field (row_at rs j) 1) (declared_names Instrument rs) (names-differ rs e Collateral refl i j less within one two)
    (line-declared rs e i (omega (arith, less, within)) (inr one)))
lines-differ rs e i j less within (inl one) (inr two) =
    let first : (line_of_record rs (row_at rs i)).side ≡ sides.Position = ap (λ (b : Bool). if b then sides.Position else sides.Collateral) one in
    let second : (line_of_record rs (row_at rs j)).side ≡ sides.Collateral = ap (λ (b : Bool). if b then sides.Position else sides.Collateral) (not-position (row_at rs j) two) in
    inr (λ same. absurd (cc))
lines-differ rs e i j less within (inr one) (inl two) =
    let first : (line_of_record rs (row_at rs i)).side ≡ sides.Collateral = ap (λ (b : Bool). if b then sides.Position else sides.Collateral) (not-position (row_at rs i) one) in
    let second : (line_of_record rs (row_at rs j)).side ≡ sides.Position = ap (λ (b : Bool). if b then sides.Position else sides.Collateral) two in
    inr (λ same. absurd (cc))

line-kind : (rs : List Record) (i : ℕ) → is_kind Position (row_at rs i) || is_kind Collateral (row_at rs i) ≡ true → LineKind rs i
line-kind rs i is = or_cases (is_kind Position (row_at rs i)) (is_kind Collateral (row_at rs i)) is

line-sound : (rs : List Record) → first_fault rs ≡ None → (i : ℕ) → i < length rs → LineKind rs i → IsLine (case_of rs) (line_of_record rs (row_at rs i))
line-sound rs e i within (inl is) = position-sound rs e i within is
line-sound rs e i within (inr is) = collateral-sound rs e i within is

pub lines-kept : (rs : List Record) → first_fault rs ≡ None
    → All (IsLine (case_of rs)) (case_of rs).lines × AllPairs (λ x y. (x.instrument ≢ y.instrument) ⊎ (x.side ≢ y.side)) (case_of rs).lines
lines-kept rs e = (
  All-map_filter_at (IsLine (case_of rs)) (line_of_record rs) (λ (r : Record). is_kind Position r || is_kind Collateral r) rs []
      (λ i within is. line-sound rs e i within (line-kind rs i is)),
  AllPairs-map_filter_at (λ x y. (x.instrument ≢ y.instrument) ⊎ (x.side ≢ y.side)) (line_of_record rs) (λ (r : Record). is_kind Position r || is_kind Collateral r) rs []
      (λ i j less within one two. lines-differ rs e i j less within (line-kind rs i one) (line-kind rs j two)),
)
