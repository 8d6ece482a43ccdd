-- The places of declared names: a name that a sound record refers to stands among the declared ones, and different names
-- at different places.
use Rattle.std.proofs.Common.{◌≡◌, ◌≢◌, refl, sym, ◌∙◌, ap, subst, ℕ, suc, ◌<◌, ◌≤◌, ◌⊎◌, inl, inr, List, [], ◌∷◌, length, take, map, get_or, arith, Bool, true, false, ◌&&◌, None, is_some}
use Rattle.std.proofs.lemmas.Bool.{and_parts, or_cases}
use Rattle.std.proofs.lemmas.List.{get_or-take, length-take-le}
use Rattle.std.proofs.lemmas.List.Sums.{passes_at_first}
use Rattle.std.specs.Option.{unwrap_or}
use Rattle.std.specs.Str.{bytes_eq}
use Rattle.core_sums.specs.Places.{row_at}
use Rattle.core_rows.specs.Names.{Record, field, place_of}
use Rattle.core_case.specs.declared.kinds.RecordKind.{RecordKind}
use Rattle.core_case.specs.declared.kinds.RecordKind.TheVariants.{Market}
use Rattle.core_case.specs.declared.faults.RecordFault.TheVariants.{Undeclared}
use Rattle.core_case.specs.Kinds.{is_kind, key_length}
use Rattle.core_case.specs.Faults.{of_kind, key_of, key_of_length, is_filed, filed, name_step, is_declared, house_name}
use Rattle.core_rows.specs.Steps.{first_of}
use Rattle.core_case.specs.Stated.{declared_names, market_names}
use Rattle.core_case.proofs.Filters.{FoundAt, found-at, position-below, position-kept, first-kept}
use Rattle.core_rows.proofs.FirstStep.{holds-from_none, first_of-parts}
use Rattle.core_case.proofs.NamesSound.{same-bytes, bytes-same}

-- the first name that a sound record refers to is declared before, and so are the others
pub refers-declared : (earlier : List Record) (r : Record) (reference : ℕ × RecordKind) (others : List (ℕ × RecordKind))
    → first_of (map (name_step earlier r) (reference ∷ others)) ≡ None
    → (is_declared earlier reference.1 (field r reference.0) ≡ true) × (first_of (map (name_step earlier r) others) ≡ None)
refers-declared earlier r reference others e =
    let parts = first_of-parts (name_step earlier r reference) (map (name_step earlier r) others) e in
    (holds-from_none (is_declared earlier reference.1 (field r reference.0)) Undeclared parts.0, parts.1)

-- a name that a record declares stands among the declared names
pub declared-at : (rs : List Record) (kind : RecordKind) (name : List ℕ) (i : ℕ) → i < length rs → is_kind kind (row_at rs i) ≡ true → name ≡ field (row_at rs i) 1
    → place_of name (declared_names kind rs) < length (declared_names kind rs)
declared-at rs kind name i within is same = position-kept (is_kind kind) (λ (r : Record). field r 1) (bytes_eq name) rs i [] within is (bytes-same name (field (row_at rs i) 1) same)

-- what is filed under a name is of the kind and declares the name
filed-names : (kind : RecordKind) (name : List ℕ) (r : Record) → key_length kind ≡ 1 → is_filed kind name [] r ≡ true → (is_kind kind r ≡ true) × (name ≡ field r 1)
filed-names kind name r alone filed_here =
    let parts = and_parts (is_kind kind r && bytes_eq name (key_of kind r).0) (bytes_eq [] (key_of kind r).1) filed_here in
    let fronts = and_parts (is_kind kind r) (bytes_eq name (key_of kind r).0) parts.0 in
    (fronts.0, same-bytes name (key_of kind r).0 fronts.1 ∙ ap (λ n. (key_of_length n r).0) alone)

-- a name that is filed among the first records is declared
pub declared-before : (rs : List Record) (kind : RecordKind) (name : List ℕ) (j : ℕ) → j ≤ length rs → key_length kind ≡ 1 → is_some (filed kind name [] (take j rs)) ≡ true
    → place_of name (declared_names kind rs) < length (declared_names kind rs)
declared-before rs kind name j within alone some =
    let found : FoundAt (is_filed kind name []) (take j rs) [] = found-at (is_filed kind name []) (take j rs) [] some in
    let under : found.0 < length (take j rs) = found.1 in
    let size : length (take j rs) ≡ j = length-take-le j rs within in
    let here : is_filed kind name [] (row_at rs found.0) ≡ true =
    subst (λ (r : Record). is_filed kind name [] r ≡ true) (get_or-take j rs found.0 [] (omega (arith, under, size))) found.2 in
    let names = filed-names kind name (row_at rs found.0) alone here in
    declared-at rs kind name found.0 (omega (arith, under, size, within)) names.0 names.1

-- a market that is the house or filed among the first records is among the markets
pub market-before : (rs : List Record) (name : List ℕ) (j : ℕ) → j ≤ length rs → is_declared (take j rs) Market name ≡ true
    → place_of name (market_names rs) < length (market_names rs)
market-before rs name j within known = by (or_cases (bytes_eq name house_name) (is_some (filed Market name [] (take j rs))) known)
  where
    by : (bytes_eq name house_name ≡ true) ⊎ (is_some (filed Market name [] (take j rs)) ≡ true) → place_of name (market_names rs) < length (market_names rs)
    by (inl house) = position-below (bytes_eq name) (market_names rs) 0 [] (omega arith) house
    by (inr some) =
        let below : place_of name (declared_names Market rs) < length (declared_names Market rs) = declared-before rs Market name j within refl some in
        let here : bytes_eq name (get_or (declared_names Market rs) (place_of name (declared_names Market rs)) []) ≡ true = passes_at_first (bytes_eq name) (declared_names Market rs) [] below in
        position-below (bytes_eq name) (market_names rs) (suc (place_of name (declared_names Market rs))) [] (omega (arith, below)) here

-- different names stand at different places
pub places-differ : (x y : List ℕ) (names : List (List ℕ)) → x ≢ y → place_of x names < length names → place_of x names ≢ place_of y names
places-differ x y names differ below same =
    let first : x ≡ get_or names (place_of x names) [] = same-bytes x (get_or names (place_of x names) []) (passes_at_first (bytes_eq x) names [] below) in
    let under : place_of y names < length names = omega (arith, below, same) in
    let second : y ≡ get_or names (place_of y names) [] = same-bytes y (get_or names (place_of y names) []) (passes_at_first (bytes_eq y) names [] under) in
    differ (first ∙ ap (λ k. get_or names k []) same ∙ sym second)

-- the record at a declared place is the first filed under the name
pub declared-is : (rs : List Record) (kind : RecordKind) (name : List ℕ) → key_length kind ≡ 1
    → get_or (of_kind kind rs) (place_of name (declared_names kind rs)) [] ≡ unwrap_or (filed kind name [] rs) []
declared-is rs kind name alone = first-kept (is_kind kind) (λ (r : Record). field r 1) (bytes_eq name) (is_filed kind name []) same rs []
  where
    right-true : (b : Bool) → b && true ≡ b
    right-true true = refl
    right-true false = refl

    same : (r : Record) → is_filed kind name [] r ≡ is_kind kind r && bytes_eq name (field r 1)
    same r = ap (λ n. is_kind kind r && bytes_eq name (key_of_length n r).0 && bytes_eq [] (key_of_length n r).1) alone ∙ right-true (is_kind kind r && bytes_eq name (field r 1))
