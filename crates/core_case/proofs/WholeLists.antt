-- The lists of the case that a sound file states: tiers by instrument, prices by scenario and instrument, and some scenario.
use Rattle.std.proofs.Common.{◌≡◌, refl, sym, ◌∙◌, ap, subst, ℕ, suc, ◌+◌, ◌^◌, ◌<◌, ◌≤◌, arith, ℤ, pos, negsuc, Bool, true, List, [], ◌∷◌, ◌++◌, length, length-drop, map, filter, take, drop, get_or, replicate, Option, None, is_some}
use Rattle.std.proofs.lemmas.Int.{ints}
use Rattle.std.proofs.lemmas.Bool.{and_parts, ltb-true}
use Rattle.std.proofs.lemmas.List.{length-map, length-append, length-replicate, length-take-le, get_or-map, get_or-take, get_or-drop, get_or-append-add, get_or-replicate}
use Rattle.std.proofs.lemmas.List.Elements.{All-cons, All-map, All-filter}
use Rattle.std.proofs.lemmas.List.Sums.{AllPass-from_list_all}
use Rattle.std.specs.Option.{unwrap_or}
use Rattle.std.specs.List.{All, find, list_all}
use Rattle.std.specs.Str.{bytes_eq}
use Rattle.core_sums.specs.Places.{row_at}
use Rattle.core_rows.specs.Names.{Record, field}
use Rattle.core_rows.specs.Fields.{whole}
use Rattle.core_case.specs.declared.kinds.RecordKind.{RecordKind}
use Rattle.core_case.specs.declared.kinds.RecordKind.TheVariants.{Instrument, Limit, Tier, Scenario, Path}
use Rattle.core_case.specs.declared.forms.Form.{Form}
use Rattle.core_case.specs.declared.forms.Form.TheVariants.{Version, Name, Number}
use Rattle.core_case.specs.Kinds.{is_kind, number_in, cost_form}
use Rattle.core_book.specs.WellFormed.{IsIn, IsTier, AreTiers, AreIn, ArePaths}
use Rattle.core_case.specs.Faults.{first_fault, form_fault, range_fault, heading_of, of_kind, is_filed, filed, has_limit, has_path, is_complete}
use Rattle.core_case.specs.Stated.{case_of, declared_names, instrument_of_record, numbers_from, limits_of, first_tier, tier_of_record, tiers_among, depth_of, prices_of}
use Rattle.core_case.proofs.Filters.{All-filter_at, passes-at, stood-at, found-at, find-take}
use Rattle.core_case.proofs.WholeRecords.{EndsAt, ends-at, before-end, in-form, named-kept, number-between}

-- the numbers of a record whose forms end with so many numbers of a range
number-at : (low high : ℤ) (front : List Form) (n : ℕ) (r : Record) (k : ℕ) → k < n
    → ((m : ℕ) → m < length (front ++ replicate n (Number low high)) → form_fault (get_or (front ++ replicate n (Number low high)) m Version) (field r (suc m)) ≡ None)
    → ((m : ℕ) → m < length (front ++ replicate n (Number low high)) → range_fault (get_or (front ++ replicate n (Number low high)) m Version) (field r (suc m)) ≡ None)
    → IsIn low high (number_in r (suc (length front + k)))
number-at low high front n r k less formed ranged =
    let form : get_or (front ++ replicate n (Number low high)) (length front + k) Version ≡ Number low high =
    get_or-append-add front (replicate n (Number low high)) k Version ∙ get_or-replicate n k (Number low high) Version less in
    let within : length front + k < length (front ++ replicate n (Number low high)) =
    omega (arith, less, length-append front (replicate n (Number low high)), length-replicate n (Number low high)) in
    number-between low high r (suc (length front + k))
    (subst (λ (f : Form). form_fault f (field r (suc (length front + k))) ≡ None) form (formed (length front + k) within))
    (subst (λ (f : Form). range_fault f (field r (suc (length front + k))) ≡ None) form (ranged (length front + k) within))

-- there are so many of them, and all lie in the range
numbers-sound : (low high : ℤ) (front : List Form) (n : ℕ) (r : Record) → length r ≡ suc (length (front ++ replicate n (Number low high)))
    → ((m : ℕ) → m < length (front ++ replicate n (Number low high)) → form_fault (get_or (front ++ replicate n (Number low high)) m Version) (field r (suc m)) ≡ None)
    → ((m : ℕ) → m < length (front ++ replicate n (Number low high)) → range_fault (get_or (front ++ replicate n (Number low high)) m Version) (field r (suc m)) ≡ None)
    → AreIn n low high (numbers_from (suc (length front)) r)
numbers-sound low high front n r count formed ranged = (long, each)
  where
    rest : length (drop (suc (length front)) r) ≡ n
    rest = omega (arith, count, length-drop (suc (length front)) r, length-append front (replicate n (Number low high)), length-replicate n (Number low high))

    long : length (numbers_from (suc (length front)) r) ≡ n
    long = length-map (drop (suc (length front)) r) (λ word. unwrap_or (whole word) (pos 0)) ∙ rest

    each : All (IsIn low high) (numbers_from (suc (length front)) r)
    each k d below =
        let less : k < n = omega (arith, below, long) in
        let within : k < length (drop (suc (length front)) r) = omega (arith, less, rest) in
        let place : suc (length front) + k ≡ suc (length front + k) = omega arith in
        let number : get_or (numbers_from (suc (length front)) r) k d ≡ number_in r (suc (length front + k)) =
        get_or-map (λ word. unwrap_or (whole word) (pos 0)) (drop (suc (length front)) r) k [] d within
        ∙ ap (λ word. unwrap_or (whole word) (pos 0)) (get_or-drop (suc (length front)) r k [] ∙ ap (field r) place) in
        subst (λ (z : ℤ). IsIn low high z) (sym number) (number-at low high front n r k less formed ranged)

-- a record of a kind at a place of the front of a list is among those of the kind there
among-front : {A : Type 0} (p test : A → Bool) (xs : List A) (front i : ℕ) (d : A) → front ≤ length xs → i < front → p (get_or xs i d) ≡ true
    → list_all test (filter p (take front xs)) ≡ true → test (get_or xs i d) ≡ true
among-front p test xs front i d within less pass all =
    let here : get_or (take front xs) i d ≡ get_or xs i d = get_or-take front xs i d less in
    let inside : i < length (take front xs) = omega (arith, less, length-take-le front xs within) in
    let kept = passes-at p (take front xs) i d inside (ap p here ∙ pass) in
    let sound : test (get_or (filter p (take front xs)) kept.0 d) ≡ true = AllPass-from_list_all test (filter p (take front xs)) all kept.0 d kept.1 in
    ap test (sym (kept.2 ∙ here)) ∙ sound

-- what is found in the front of a list is found in all of it
found-in-all : {A : Type 0} (p : A → Bool) (xs : List A) (front : ℕ) → is_some (find p (take front xs)) ≡ true → is_some (find p xs) ≡ true
found-in-all p xs front found = ap is_some (find-take p front xs found) ∙ found

-- what is complete has a scenario, limits and paths
record Complete (rs : List Record) : Type 0 where
  some : 0 < length (of_kind Scenario rs)
  limits : list_all (has_limit rs) (of_kind Instrument rs) ≡ true
  paths : list_all (λ k. list_all (has_path rs k) (of_kind Instrument rs)) (of_kind Scenario rs) ≡ true

-- the test for it says so
complete-parts : (rs : List Record) → is_complete rs ≡ true → Complete rs
complete-parts rs e =
    let parts = and_parts _ _ e in
    let first = and_parts _ _ parts.0 in
    record { some = ltb-true 0 (length (of_kind Scenario rs)) first.0; limits = first.1; paths = parts.1 }

-- the records before `end` are complete
complete-at : (rs : List Record) (place : ℕ) → EndsAt rs place → Complete (take place rs)
complete-at rs place ends = complete-parts (take place rs) ends.complete

-- a case has a scenario
pub some-scenario : (rs : List Record) → first_fault rs ≡ None → 1 ≤ length (case_of rs).scenarios
some-scenario rs e =
    let end = ends-at rs e in
    let place : ℕ = end.0 in
    let front : place ≤ length rs = let inside = end.1.inside in omega (arith, inside) in
    let stood = stood-at (is_kind Scenario) (take place rs) 0 [] (complete-at rs place end.1).some in
    let less : stood.0 < place = let inside = stood.1 in omega (arith, inside, length-take-le place rs front) in
    let pass : is_kind Scenario (row_at rs stood.0) ≡ true = ap (is_kind Scenario) (sym (get_or-take place rs stood.0 [] less)) ∙ stood.2 in
    let kept = passes-at (is_kind Scenario) rs stood.0 [] (omega (arith, less, front)) pass in
    let below = kept.1 in
    let names : length (declared_names Scenario rs) ≡ length (of_kind Scenario rs) = length-map (of_kind Scenario rs) (λ r. field r 1) in
    omega (arith, below, names)

-- each instrument has a limit
limit-there : (rs : List Record) → first_fault rs ≡ None → (i : ℕ) → i < length rs → is_kind Instrument (row_at rs i) ≡ true
    → is_some (filed Limit (field (row_at rs i) 1) [] rs) ≡ true
limit-there rs e i within is =
    let end = ends-at rs e in
    let place : ℕ = end.0 in
    let front : place ≤ length rs = let inside = end.1.inside in omega (arith, inside) in
    let less : i < place = before-end rs e place end.1 i within Instrument is (λ same. cc) in
    found-in-all (is_filed Limit (field (row_at rs i) 1) []) rs place
    (among-front (is_kind Instrument) (has_limit (take place rs)) rs place i [] front less is (complete-at rs place end.1).limits)

-- a limit record has an amount for each closing day
sound-limit : (rs : List Record) → first_fault rs ≡ None → (i : ℕ) → i < length rs → is_kind Limit (row_at rs i) ≡ true
    → AreIn (heading_of rs).horizon (pos 0) (pos (10 ^ 9)) (numbers_from 2 (row_at rs i))
sound-limit rs e i within is =
    let form = in-form rs e i within Limit is refl in
    numbers-sound (pos 0) (pos (10 ^ 9)) (Name ∷ []) (heading_of rs).horizon (row_at rs i) form.count form.formed form.ranged

-- what holds of each record of a kind holds of the one that is found by its key
filed-holds : (P : Record → Type 0) (kind : RecordKind) (first second : List ℕ) (rs : List Record) → is_some (filed kind first second rs) ≡ true
    → ((i : ℕ) → i < length rs → is_kind kind (row_at rs i) ≡ true → P (row_at rs i)) → P (unwrap_or (filed kind first second rs) [])
filed-holds P kind first second rs there each =
    let found = found-at (is_filed kind first second) rs [] there in
    let is : is_kind kind (row_at rs found.0) ≡ true = (and_parts _ _ (and_parts _ _ found.2).0).0 in
    subst (λ (o : Option Record). P (unwrap_or o [])) (sym found.3) (each found.0 found.1 is)

-- so each instrument has a limit for each closing day
limits-sound : (rs : List Record) → first_fault rs ≡ None → (i : ℕ) → i < length rs → is_kind Instrument (row_at rs i) ≡ true
    → AreIn (heading_of rs).horizon (pos 0) (pos (10 ^ 9)) (limits_of rs (field (row_at rs i) 1))
limits-sound rs e i within is =
    filed-holds (λ r. AreIn (heading_of rs).horizon (pos 0) (pos (10 ^ 9)) (numbers_from 2 r)) Limit (field (row_at rs i) 1) [] rs
    (limit-there rs e i within is) (sound-limit rs e)

-- what holds of the name of each record of a kind holds of all names that records of the kind declare
All-declared : (P : List ℕ → Type 0) (kind : RecordKind) (rs : List Record)
    → ((i : ℕ) → i < length rs → is_kind kind (row_at rs i) ≡ true → P (field (row_at rs i) 1)) → All P (declared_names kind rs)
All-declared P kind rs each = All-map P (λ r. field r 1) (of_kind kind rs) (All-filter_at (λ r. P (field r 1)) (is_kind kind) rs [] each)

-- a tier record has a cost, and an amount for each closing day
sound-tier : (rs : List Record) → first_fault rs ≡ None → (i : ℕ) → i < length rs → is_kind Tier (row_at rs i) ≡ true
    → IsTier (heading_of rs).horizon (tier_of_record (row_at rs i))
sound-tier rs e i within is =
    let form = in-form rs e i within Tier is refl in record {
      cost = number-between (pos 0) (pos (10 ^ 12)) (row_at rs i) 2 (form.formed 1 (omega arith)) (form.ranged 1 (omega arith));
      limits = numbers-sound (pos 0) (pos (10 ^ 9)) (Name ∷ cost_form ∷ []) (heading_of rs).horizon (row_at rs i) form.count form.formed form.ranged;
    }

-- so each instrument has one tier to four, of which the first costs nothing
tiers-sound : (rs : List Record) → first_fault rs ≡ None → (i : ℕ) → i < length rs → is_kind Instrument (row_at rs i) ≡ true
    → AreTiers (heading_of rs).horizon (depth_of rs (field (row_at rs i) 1))
tiers-sound rs e i within is =
    let name : List ℕ = field (row_at rs i) 1 in
    let few : length (filter (λ r. bytes_eq (field r 1) name) (of_kind Tier rs)) ≤ 3 = named-kept Tier 3 refl (λ r. refl) name rs e in
    let size : length (tiers_among (of_kind Tier rs) name) ≡ length (filter (λ r. bytes_eq (field r 1) name) (of_kind Tier rs)) = length-map _ tier_of_record in record {
      count = (omega arith, omega (arith, few, size));
      free = refl;
      each = All-cons (IsTier (heading_of rs).horizon) (first_tier rs name) (tiers_among (of_kind Tier rs) name)
          (record { cost = (omega (arith, ints), omega (arith, ints)); limits = limits-sound rs e i within is })
          (All-map (IsTier (heading_of rs).horizon) tier_of_record (filter (λ r. bytes_eq (field r 1) name) (of_kind Tier rs))
          (All-filter (λ r. bytes_eq (field r 1) name) (λ r. IsTier (heading_of rs).horizon (tier_of_record r)) (of_kind Tier rs)
          (All-filter_at (λ r. IsTier (heading_of rs).horizon (tier_of_record r)) (is_kind Tier) rs [] (sound-tier rs e))));
    }

-- so a case has tiers for each instrument
pub depth-kept : (rs : List Record) → first_fault rs ≡ None
    → (length (case_of rs).depth ≡ length (case_of rs).instruments) × All (AreTiers (case_of rs).horizon) (case_of rs).depth
depth-kept rs e = (
  length-map (declared_names Instrument rs) (depth_of rs) ∙ length-map (of_kind Instrument rs) (λ r. field r 1) ∙ sym (length-map (of_kind Instrument rs) instrument_of_record),
  All-map (AreTiers (heading_of rs).horizon) (depth_of rs) (declared_names Instrument rs)
      (All-declared (λ name. AreTiers (heading_of rs).horizon (depth_of rs name)) Instrument rs (tiers-sound rs e)),
)

-- each scenario and instrument has a path
path-there : (rs : List Record) → first_fault rs ≡ None → (k i : ℕ) → k < length rs → i < length rs → is_kind Scenario (row_at rs k) ≡ true
    → is_kind Instrument (row_at rs i) ≡ true → is_some (filed Path (field (row_at rs k) 1) (field (row_at rs i) 1) rs) ≡ true
path-there rs e k i of_scenario of_instrument is too =
    let end = ends-at rs e in
    let place : ℕ = end.0 in
    let front : place ≤ length rs = let inside = end.1.inside in omega (arith, inside) in
    let one : k < place = before-end rs e place end.1 k of_scenario Scenario is (λ same. cc) in
    let two : i < place = before-end rs e place end.1 i of_instrument Instrument too (λ same. cc) in
    found-in-all (is_filed Path (field (row_at rs k) 1) (field (row_at rs i) 1)) rs place
    (among-front (is_kind Instrument) (has_path (take place rs) (row_at rs k)) rs place i [] front two too
    (among-front (is_kind Scenario) (λ x. list_all (has_path (take place rs) x) (of_kind Instrument (take place rs))) rs place k [] front one is (complete-at rs place end.1).paths))

-- a path record has a price for each house day
sound-path : (rs : List Record) → first_fault rs ≡ None → (i : ℕ) → i < length rs → is_kind Path (row_at rs i) ≡ true
    → AreIn (suc (heading_of rs).last) (negsuc 999999999999) (pos (10 ^ 12)) (numbers_from 3 (row_at rs i))
sound-path rs e i within is =
    let form = in-form rs e i within Path is refl in
    numbers-sound (negsuc 999999999999) (pos (10 ^ 12)) (Name ∷ Name ∷ []) (suc (heading_of rs).last) (row_at rs i) form.count form.formed form.ranged

-- so each scenario and instrument has a price for each house day
prices-sound : (rs : List Record) → first_fault rs ≡ None → (k : ℕ) → k < length rs → is_kind Scenario (row_at rs k) ≡ true
    → (i : ℕ) → i < length rs → is_kind Instrument (row_at rs i) ≡ true
    → AreIn (suc (heading_of rs).last) (negsuc 999999999999) (pos (10 ^ 12)) (prices_of rs (field (row_at rs k) 1) (field (row_at rs i) 1))
prices-sound rs e k of_scenario is i of_instrument too =
    filed-holds (λ r. AreIn (suc (heading_of rs).last) (negsuc 999999999999) (pos (10 ^ 12)) (numbers_from 3 r)) Path (field (row_at rs k) 1) (field (row_at rs i) 1) rs
    (path-there rs e k i of_scenario of_instrument is too) (sound-path rs e)

-- so each scenario has a path for each instrument
paths-sound : (rs : List Record) → first_fault rs ≡ None → (k : ℕ) → k < length rs → is_kind Scenario (row_at rs k) ≡ true
    → ArePaths (case_of rs) (map (prices_of rs (field (row_at rs k) 1)) (declared_names Instrument rs))
paths-sound rs e k within is = (
  length-map (declared_names Instrument rs) (prices_of rs (field (row_at rs k) 1)) ∙ length-map (of_kind Instrument rs) (λ r. field r 1)
      ∙ sym (length-map (of_kind Instrument rs) instrument_of_record),
  All-map (AreIn (suc (heading_of rs).last) (negsuc 999999999999) (pos (10 ^ 12))) (prices_of rs (field (row_at rs k) 1)) (declared_names Instrument rs)
      (All-declared (λ name. AreIn (suc (heading_of rs).last) (negsuc 999999999999) (pos (10 ^ 12)) (prices_of rs (field (row_at rs k) 1) name)) Instrument rs
      (prices-sound rs e k within is)),
)

-- so a case has a price for each scenario, instrument and house day
pub prices-kept : (rs : List Record) → first_fault rs ≡ None
    → (length (case_of rs).prices ≡ length (case_of rs).scenarios)
    × All (ArePaths (case_of rs)) (case_of rs).prices
prices-kept rs e = (
  length-map (declared_names Scenario rs) (λ k. map (prices_of rs k) (declared_names Instrument rs)),
  All-map (ArePaths (case_of rs)) (λ k. map (prices_of rs k) (declared_names Instrument rs)) (declared_names Scenario rs)
      (All-declared (λ name. ArePaths (case_of rs) (map (prices_of rs name) (declared_names Instrument rs))) Scenario rs (paths-sound rs e)),
)
