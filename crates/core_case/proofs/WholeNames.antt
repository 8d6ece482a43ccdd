-- What sound records keep of instruments, markets, pools, members and scenarios.
use Rattle.std.proofs.Common.{◌≡◌, ◌≢◌, refl, sym, ◌∙◌, ap, subst, ℕ, suc, ◌^◌, ◌<◌, ◌≤◌, ◌⊎◌, inl, inr, List, [], ◌∷◌, length, take, map, get_or, pos, unsigned_abs, arith, Bool, true, false, not, ◌&&◌, ◌||◌, nat_le, if◌then◌else◌, None, is_some}
use Rattle.std.proofs.lemmas.Bool.{cases_Bool, ltb-false, not-true, or_cases, or_parts}
use Rattle.std.proofs.lemmas.List.{get_or_past, length-map}
use Rattle.std.specs.List.{All, AllPairs}
use Rattle.std.specs.Str.{bytes_eq}
use Rattle.core_sums.specs.Places.{row_at}
use Rattle.core_rows.specs.Names.{Record, field, place_of}
use Rattle.core_rows.specs.Fields.{IsName, whole}
use Rattle.core_rows.proofs.FirstStep.{holds-from_none}
use Rattle.std.specs.Option.{unwrap_or}
use Rattle.core_case.specs.declared.kinds.RecordKind.{RecordKind}
use Rattle.core_case.specs.declared.kinds.RecordKind.TheVariants.{Market, Instrument, Pool, Member, Scenario}
use Rattle.core_case.specs.declared.forms.Form.{Form}
use Rattle.core_case.specs.declared.forms.Form.TheVariants.{Version, Number}
use Rattle.core_case.specs.declared.faults.RecordFault.TheVariants.{ExpiryOfSecurity}
use Rattle.core_book.specs.declared.parts.Kind.TheVariants as kinds
use Rattle.core_case.specs.Kinds.{HeadingView, is_kind, forms, expiry_forms, number_in, natural_in, key_length}
use Rattle.core_case.specs.Faults.{first_fault, heading_of, form_fault, range_fault, is_future, has_expiry, of_kind, key_of, filed, is_declared, is_keyed, house_name}
use Rattle.core_case.specs.Stated.{case_of, declared_names, market_names, holidays_of, instrument_of_record, pool_of_record, member_of_record}
use Rattle.core_book.specs.WellFormed.{IsInstrument, IsMember, IsPool}
use Rattle.core_case.proofs.Filters.{All-map_filter_at, AllPairs-map_filter_at, AllPairs-cons}
use Rattle.core_case.proofs.WholeRecords.{InForm, in-form, sound-of, number-between, natural-between}
use Rattle.core_case.proofs.NamesSound.{same-bytes, bytes-same, named, keys-differ, names-differ, at-most}
use Rattle.core_case.proofs.NamesDeclared.{refers-declared, declared-before, market-before, places-differ}

-- as many records of a kind as declared names, and as what is made of them
pub as-declared : {B : Type 0} (rs : List Record) (kind : RecordKind) (f : Record → B) → length (map f (of_kind kind rs)) ≡ length (declared_names kind rs)
as-declared rs kind f = length-map (of_kind kind rs) f ∙ sym (length-map (of_kind kind rs) (λ (r : Record). field r 1))

-- the names of records of a kind differ
pub all-names-differ : (rs : List Record) → first_fault rs ≡ None → (kind : RecordKind) → key_length kind ≡ 1 → AllPairs (λ x y. x ≢ y) (declared_names kind rs)
all-names-differ rs e kind alone = AllPairs-map_filter_at (λ x y. x ≢ y) (λ (r : Record). field r 1) (is_kind kind) rs [] (λ i j less within one two. names-differ rs e kind alone i j less within one two)

-- the expiry of an instrument, where the version has the field and where not
expiry-within : (h : HeadingView) (r : Record) → InForm h r Instrument → natural_in r 7 ≤ h.horizon
expiry-within h r form = by (cases_Bool (nat_le 2 h.version))
  where
    none : (r : Record) → length r ≡ 7 → natural_in r 7 ≡ 0
    none r size = ap (λ w. unsigned_abs (unwrap_or (whole w) (pos 0))) (get_or_past r 7 [] (omega (arith, size)))

    by : (nat_le 2 h.version ≡ true) ⊎ (nat_le 2 h.version ≡ false) → natural_in r 7 ≤ h.horizon
    by (inl later) =
        let form_is : expiry_forms h ≡ Number (pos 0) (pos h.horizon) ∷ [] = ap (λ (b : Bool). if b then Number (pos 0) (pos h.horizon) ∷ [] else []) later in
        let at : get_or (forms h r Instrument) 6 Version ≡ Number (pos 0) (pos h.horizon) = ap (λ (fs : List Form). get_or fs 0 Version) form_is in
        let within : 6 < length (forms h r Instrument) = omega (arith, ap (λ (fs : List Form). length fs) form_is) in
        (natural-between (number_in r 7) 0 h.horizon
        (number-between (pos 0) (pos h.horizon) r 7
        (subst (λ (f : Form). form_fault f (field r 7) ≡ None) at (form.formed 6 within))
        (subst (λ (f : Form). range_fault f (field r 7) ≡ None) at (form.ranged 6 within)))).1
    by (inr earlier) =
        let form_is : expiry_forms h ≡ [] = ap (λ (b : Bool). if b then Number (pos 0) (pos h.horizon) ∷ [] else []) earlier in
        let size : length r ≡ 7 = form.count ∙ ap (λ (fs : List Form). suc (suc (suc (suc (suc (suc (suc (length fs)))))))) form_is in
        omega (arith, none r size)

-- and of a security
no-expiry : (r : Record) → is_future r || not (has_expiry r) ≡ true → (instrument_of_record r).kind ≡ kinds.Security → (instrument_of_record r).expiry ≡ 0
no-expiry r e security = by (or_cases (is_future r) (not (has_expiry r)) e)
  where
    by : (is_future r ≡ true) ⊎ (not (has_expiry r) ≡ true) → natural_in r 7 ≡ 0
    by (inl future) =
        let kind : (instrument_of_record r).kind ≡ kinds.Future = ap (λ (b : Bool). if b then kinds.Future else kinds.Security) future in
        absurd (cc)
    by (inr none) =
        let most : natural_in r 7 ≤ 0 = ltb-false 0 (natural_in r 7) (not-true (has_expiry r) none) in
        omega (arith, most)

-- the instrument that a sound record states
pub instrument-sound : (rs : List Record) → first_fault rs ≡ None → (i : ℕ) → i < length rs → is_kind Instrument (row_at rs i) ≡ true
    → IsInstrument (case_of rs).horizon (instrument_of_record (row_at rs i))
instrument-sound rs e i within is =
    let r : Record = row_at rs i in
    let sound = sound-of rs e i within Instrument is in
    let delay = number-between (pos 1) (pos 20) r 5 (sound.formed 4 (omega arith)) (sound.ranged 4 (omega arith)) in
    let lag = number-between (pos 0) (pos 10) r 6 (sound.formed 5 (omega arith)) (sound.ranged 5 (omega arith)) in
    record {
      name = named (field r 1) (sound.formed 0 (omega arith));
      mult = number-between (pos 1) (pos (10 ^ 6)) r 4 (sound.formed 3 (omega arith)) (sound.ranged 3 (omega arith));
      delay = natural-between (number_in r 5) 1 20 delay;
      lag = (natural-between (number_in r 6) 0 10 lag).1;
      expiry = expiry-within (heading_of rs) r (in-form rs e i within Instrument is refl);
      security = no-expiry r (holds-from_none (is_future r || not (has_expiry r)) ExpiryOfSecurity sound.security);
    }

pub instruments-kept : (rs : List Record) → first_fault rs ≡ None
    → (length (case_of rs).instruments ≤ 32) × All (IsInstrument (case_of rs).horizon) (case_of rs).instruments
    × AllPairs (λ x y. x.name ≢ y.name) (case_of rs).instruments
instruments-kept rs e =
    let few = at-most Instrument 32 refl (λ r. refl) rs e in (
      omega (arith, few, length-map (of_kind Instrument rs) instrument_of_record),
      All-map_filter_at (IsInstrument (case_of rs).horizon) instrument_of_record (is_kind Instrument) rs [] (λ i within is. instrument-sound rs e i within is),
      AllPairs-map_filter_at (λ x y. x.name ≢ y.name) instrument_of_record (is_kind Instrument) rs []
          (λ i j less within one two. names-differ rs e Instrument refl i j less within one two),
    )

-- the market of each instrument
market-sound : (rs : List Record) → first_fault rs ≡ None → (i : ℕ) → i < length rs → is_kind Instrument (row_at rs i) ≡ true
    → place_of (field (row_at rs i) 3) (market_names rs) < length (case_of rs).holidays
market-sound rs e i within is =
    let sound = sound-of rs e i within Instrument is in
    let known : is_declared (take i rs) Market (field (row_at rs i) 3) ≡ true = (refers-declared (take i rs) (row_at rs i) (3, Market) [] sound.names).0 in
    let below = market-before rs (field (row_at rs i) 3) i (omega (arith, within)) known in
    omega (arith, below, length-map (market_names rs) (holidays_of rs))

pub markets-kept : (rs : List Record) → first_fault rs ≡ None
    → (length (case_of rs).markets ≡ length (case_of rs).instruments) × All (λ m. m < length (case_of rs).holidays) (case_of rs).markets
markets-kept rs e = (
  as-declared rs Instrument (λ (r : Record). place_of (field r 3) (market_names rs)) ∙ sym (as-declared rs Instrument instrument_of_record),
  All-map_filter_at (λ m. m < length (case_of rs).holidays) (λ (r : Record). place_of (field r 3) (market_names rs)) (is_kind Instrument) rs [] (λ i within is. market-sound rs e i within is),
)

pool-sound : (rs : List Record) → first_fault rs ≡ None → (i : ℕ) → i < length rs → is_kind Pool (row_at rs i) ≡ true
    → IsPool (pool_of_record (row_at rs i))
pool-sound rs e i within is =
    let sound = sound-of rs e i within Pool is in
    (named (field (row_at rs i) 1) (sound.formed 0 (omega arith)), number-between (pos 0) (pos (10 ^ 9)) (row_at rs i) 2 (sound.formed 1 (omega arith)) (sound.ranged 1 (omega arith)))

pub pools-kept : (rs : List Record) → first_fault rs ≡ None
    → (length (case_of rs).pools ≤ 16) × All IsPool (case_of rs).pools × AllPairs (λ x y. x.name ≢ y.name) (case_of rs).pools
pools-kept rs e =
    let few = at-most Pool 16 refl (λ r. refl) rs e in (
      omega (arith, few, length-map (of_kind Pool rs) pool_of_record),
      All-map_filter_at IsPool pool_of_record (is_kind Pool) rs [] (λ i within is. pool-sound rs e i within is),
      AllPairs-map_filter_at (λ x y. x.name ≢ y.name) pool_of_record (is_kind Pool) rs [] (λ i j less within one two. names-differ rs e Pool refl i j less within one two),
    )

scenario-sound : (rs : List Record) → first_fault rs ≡ None → (i : ℕ) → i < length rs → is_kind Scenario (row_at rs i) ≡ true → IsName (field (row_at rs i) 1)
scenario-sound rs e i within is = named (field (row_at rs i) 1) ((sound-of rs e i within Scenario is).formed 0 (omega arith))

pub few-scenarios : (rs : List Record) → first_fault rs ≡ None → length (case_of rs).scenarios ≤ 64
few-scenarios rs e =
    let few = at-most Scenario 64 refl (λ r. refl) rs e in
    omega (arith, few, length-map (of_kind Scenario rs) (λ (r : Record). field r 1))

pub scenario-names : (rs : List Record) → first_fault rs ≡ None → All IsName (case_of rs).scenarios
scenario-names rs e = All-map_filter_at IsName (λ (r : Record). field r 1) (is_kind Scenario) rs [] (λ i within is. scenario-sound rs e i within is)

pub scenarios-differ : (rs : List Record) → first_fault rs ≡ None → AllPairs (λ x y. x ≢ y) (case_of rs).scenarios
scenarios-differ rs e = all-names-differ rs e Scenario refl

-- a pool and an instrument that a member refers to
member-pool : (rs : List Record) → first_fault rs ≡ None → (i : ℕ) → i < length rs → is_kind Member (row_at rs i) ≡ true
    → place_of (field (row_at rs i) 1) (declared_names Pool rs) < length (declared_names Pool rs)
member-pool rs e i within is =
    let sound = sound-of rs e i within Member is in
    declared-before rs Pool (field (row_at rs i) 1) i (omega (arith, within)) refl
    (refers-declared (take i rs) (row_at rs i) (1, Pool) ((2, Instrument) ∷ []) sound.names).0

member-instrument : (rs : List Record) → first_fault rs ≡ None → (i : ℕ) → i < length rs → is_kind Member (row_at rs i) ≡ true
    → place_of (field (row_at rs i) 2) (declared_names Instrument rs) < length (declared_names Instrument rs)
member-instrument rs e i within is =
    let sound = sound-of rs e i within Member is in
    declared-before rs Instrument (field (row_at rs i) 2) i (omega (arith, within)) refl
    (refers-declared (take i rs) (row_at rs i) (2, Instrument) [] (refers-declared (take i rs) (row_at rs i) (1, Pool) ((2, Instrument) ∷ []) sound.names).1).0

member-sound : (rs : List Record) → first_fault rs ≡ None → (i : ℕ) → i < length rs → is_kind Member (row_at rs i) ≡ true → IsMember (case_of rs) (member_of_record rs (row_at rs i))
member-sound rs e i within is =
    let sound = sound-of rs e i within Member is in
    let in_pools = member-pool rs e i within is in
    let in_instruments = member-instrument rs e i within is in
    record {
      pool = omega (arith, in_pools, as-declared rs Pool pool_of_record);
      known = omega (arith, in_instruments, as-declared rs Instrument instrument_of_record);
      weight = number-between (pos 1) (pos (10 ^ 6)) (row_at rs i) 3 (sound.formed 2 (omega arith)) (sound.ranged 2 (omega arith));
    }

-- no two members are of the same pool and instrument
members-differ : (rs : List Record) → first_fault rs ≡ None → (i j : ℕ) → i < j → j < length rs → is_kind Member (row_at rs i) ≡ true → is_kind Member (row_at rs j) ≡ true
    → ((member_of_record rs (row_at rs i)).pool ≢ (member_of_record rs (row_at rs j)).pool) ⊎ ((member_of_record rs (row_at rs i)).instrument ≢ (member_of_record rs (row_at rs j)).instrument)
members-differ rs e i j less within one two = by (cases_Bool (bytes_eq (field (row_at rs i) 1) (field (row_at rs j) 1)))
  where
    keys : key_of Member (row_at rs i) ≢ key_of Member (row_at rs j)
    keys = keys-differ rs e Member refl i j less within one two

    inner : i < length rs
    inner = omega (arith, less, within)

    by : (bytes_eq (field (row_at rs i) 1) (field (row_at rs j) 1) ≡ true) ⊎ (bytes_eq (field (row_at rs i) 1) (field (row_at rs j) 1) ≡ false)
        → ((member_of_record rs (row_at rs i)).pool ≢ (member_of_record rs (row_at rs j)).pool) ⊎ ((member_of_record rs (row_at rs i)).instrument ≢ (member_of_record rs (row_at rs j)).instrument)
    by (inl same) =
        let pools : field (row_at rs i) 1 ≡ field (row_at rs j) 1 = same-bytes (field (row_at rs i) 1) (field (row_at rs j) 1) same in
        inr (places-differ (field (row_at rs i) 2) (field (row_at rs j) 2) (declared_names Instrument rs)
        (λ instruments. keys (ap (λ (w : List ℕ). (w, field (row_at rs i) 2)) pools ∙ ap (λ (w : List ℕ). (field (row_at rs j) 1, w)) instruments)) (member-instrument rs e i inner one))
    by (inr other) =
        inl (places-differ (field (row_at rs i) 1) (field (row_at rs j) 1) (declared_names Pool rs)
        (λ pools. let same : bytes_eq (field (row_at rs i) 1) (field (row_at rs j) 1) ≡ true = bytes-same (field (row_at rs i) 1) (field (row_at rs j) 1) pools in absurd (cc)) (member-pool rs e i inner one))

pub members-kept : (rs : List Record) → first_fault rs ≡ None
    → All (IsMember (case_of rs)) (case_of rs).members × AllPairs (λ x y. (x.pool ≢ y.pool) ⊎ (x.instrument ≢ y.instrument)) (case_of rs).members
members-kept rs e = (
  All-map_filter_at (IsMember (case_of rs)) (member_of_record rs) (is_kind Member) rs [] (λ i within is. member-sound rs e i within is),
  AllPairs-map_filter_at (λ x y. (x.pool ≢ y.pool) ⊎ (x.instrument ≢ y.instrument)) (member_of_record rs) (is_kind Member) rs []
      (λ i j less within one two. members-differ rs e i j less within one two),
)

-- no market has the name of the house, and no two the same name
not-house : (rs : List Record) → first_fault rs ≡ None → (i : ℕ) → i < length rs → is_kind Market (row_at rs i) ≡ true → house_name ≢ field (row_at rs i) 1
not-house rs e i within is same =
    let parts = or_parts (bytes_eq (field (row_at rs i) 1) house_name) (is_keyed Market && is_some (filed Market (field (row_at rs i) 1) [] (take i rs))) (sound-of rs e i within Market is).is_new in
    let house : bytes_eq (field (row_at rs i) 1) house_name ≡ true = bytes-same (field (row_at rs i) 1) house_name (sym same) in
    let other : bytes_eq (field (row_at rs i) 1) house_name ≡ false = parts.0 in
    cc

pub market-names-differ : (rs : List Record) → first_fault rs ≡ None → AllPairs (λ x y. x ≢ y) (market_names rs)
market-names-differ rs e =
    AllPairs-cons (λ x y. x ≢ y) house_name (declared_names Market rs)
    (All-map_filter_at (λ name. house_name ≢ name) (λ (r : Record). field r 1) (is_kind Market) rs [] (λ i within is. not-house rs e i within is))
    (all-names-differ rs e Market refl)
