-- What the parts of a book take from the records of a whole case.
use Rattle.std.proofs.Common.{◌≡◌, ◌≢◌, refl, sym, ◌∙◌, ap, subst, ℕ, ◌<◌, ◌≤◌, List, [], ◌∷◌, length, map, get_or, arith}
use Rattle.std.specs.List.{All, AllPairs}
use Rattle.std.proofs.lemmas.List.{get_or-map, length-map}
use Rattle.core_rows.specs.Names.{Record, field}
use Rattle.core_rows.specs.Fields.{IsName}
use Rattle.core_book.specs.WellFormed.{IsInstrument}
use Rattle.core_case.specs.Faults.{of_kind}
use Rattle.core_case.specs.Stated.{declared_names, instrument_of_record, names_in, pool_of_record}
use Rattle.core_case.specs.Whole.{IsWhole}
use Rattle.core_case.specs.declared.kinds.RecordKind.TheVariants.{Instrument, Pool, Scenario}

-- what records state has names that differ, so the records declare names that differ
names_apart : {A : Type 0} (f : Record → A) (name : A → List ℕ) (rows : List Record) → ((r : Record) → name (f r) ≡ field r 1)
    → AllPairs (λ x y. name x ≢ name y) (map f rows) → AllPairs (λ x y. x ≢ y) (names_in rows)
names_apart f name rows is apart = λ i j d before within same.
    let last : j < length rows = omega (arith, within, length-map rows (λ r. field r 1)) in
    let first : i < length rows = omega (arith, before, last) in
    let there : j < length (map f rows) = omega (arith, last, length-map rows f) in
    let at = λ (k : ℕ) (h : k < length rows). ap name (get_or-map f rows k [] (f []) h) ∙ is (get_or rows k []) ∙ sym (get_or-map (λ r. field r 1) rows k [] d h) in
    apart i j (f []) before there (at i first ∙ same ∙ sym (at j last))

pub instruments_apart : (rs : List Record) → IsWhole rs → AllPairs (λ x y. x ≢ y) (declared_names Instrument rs)
instruments_apart rs whole = names_apart instrument_of_record (λ x. x.name) (of_kind Instrument rs) (λ r. refl) whole.kept.instruments.2

pub pools_apart : (rs : List Record) → IsWhole rs → AllPairs (λ x y. x ≢ y) (declared_names Pool rs)
pools_apart rs whole = names_apart pool_of_record (λ x. x.name) (of_kind Pool rs) (λ r. refl) whole.kept.pools.2

-- pools and scenarios have names
pub pools_named : (rs : List Record) → IsWhole rs → All (λ r. IsName (field r 1)) (of_kind Pool rs)
pools_named rs whole = λ k d within.
    let there : k < length (map pool_of_record (of_kind Pool rs)) = omega (arith, within, length-map (of_kind Pool rs) pool_of_record) in
    subst IsName (ap (λ x. x.name) (get_or-map pool_of_record (of_kind Pool rs) k d (pool_of_record d) within)) (whole.kept.pools.1 k (pool_of_record d) there).0

pub scenarios_named : (rs : List Record) → IsWhole rs → All (λ r. IsName (field r 1)) (of_kind Scenario rs)
scenarios_named rs whole = λ k d within.
    let there : k < length (declared_names Scenario rs) = omega (arith, within, length-map (of_kind Scenario rs) (λ r. field r 1)) in
    subst IsName (get_or-map (λ r. field r 1) (of_kind Scenario rs) k d (field d 1) within) (whole.kept.scenarios.2 k (field d 1) there)

-- the second record is there
pub house_stands : (rs : List Record) → IsWhole rs → 2 ≤ length rs
house_stands [] whole = absurd (omega (arith, whole.kept.horizon.0))
house_stands (r ∷ []) whole = absurd (omega (arith, whole.kept.horizon.0))
house_stands (r ∷ s ∷ rs) whole = omega arith

-- no instrument expires after the last day that may be a closing day
pub instruments_short : (rs : List Record) → IsWhole rs → All (IsInstrument 20) (map instrument_of_record (of_kind Instrument rs))
instruments_short rs whole = λ k d within.
    let x = whole.kept.instruments.1 k d within in
    let expiry = x.expiry in
    let most = whole.kept.horizon.1 in
    record { name = x.name; mult = x.mult; delay = x.delay; lag = x.lag; expiry = omega (arith, expiry, most); security = x.security }
