-- The records of a certificate's numbers are good, each at its place.
use Rattle.std.proofs.Common.{◌≡◌, ◌∷◌, [], ℕ, suc, ◌+◌, ◌-◌, ◌*◌, ◌<◌, ◌≤◌, ℤ, pos, List, length, Bool, false, None, refl, ap, codes, decimal, arith}
use Rattle.std.specs.List.{list_any}
use Rattle.std.specs.Str.{bytes_eq}
use Rattle.std.specs.Ordering.{int_eq}
use Rattle.std.proofs.lemmas.Bool.{lt-ltb}
use Rattle.std.proofs.lemmas.List.{get_or-map, length-map}
use Rattle.core_sums.specs.Places.{row_at}
use Rattle.core_rows.specs.Names.{Record, place_of}
use Rattle.core_rows.specs.Fields.{IsName, number_text}
use Rattle.core_rows.specs.Written.{IsPlainRow}
use Rattle.core_rows.proofs.Plain.{decimal-plain, is_name-plain, number_text-plain, row-plain-more, row-plain-one, word-plain}
use Rattle.core_book.specs.View.{CaseView, instrument, instrument_of, is_tiered, line, no_instrument, no_line, no_pool, pool, tiers}
use Rattle.core_book.specs.WellFormed.{IsCase}
use Rattle.core_book.proofs.Depth.{few-depth}
use Rattle.core_book.specs.declared.parts.Side.{Side}
use Rattle.core_model.specs.Closing.{line_count}
use Rattle.core_model.specs.Fits.{IsWithin128}
use Rattle.core_cert.specs.declared.kinds.RecordKind.TheVariants.{Amount, Scenario, Limit, Pool, Full}
use Rattle.core_cert.specs.declared.forms.Form.TheVariants.{Name, SideWord, Number, NotZero}
use Rattle.core_cert.specs.declared.faults.RecordFault.TheVariants.{NotInCase, NoSuchLine}
use Rattle.core_cert.specs.Written.{side_word}
use Rattle.core_cert.specs.Faults.{instrument_names, line_fault, line_named, name_fault, pool_names, small_in, tier_in}
use Rattle.core_cert.proofs.Plainly.{plain_side}
use Rattle.core_cert.proofs.RoundTripBlocks.{IsGood}
use Rattle.core_cert.proofs.RoundTripFields.{AreFit, day-number, fit-day, fit-fields, fit-name, fit-not_zero, fit-side, number_in-kept}
use Rattle.core_cert.proofs.RoundTripTiers.{closing-at, ending, ending-fit, ending-plain, ending-tier, ending_forms, fourth-number, only-tier, third-number}
use Rattle.core_cert.proofs.NamesApart.{names-apart}
use Rattle.core_cert.proofs.RoundTripNames.{line-is, name-found, place-is}
use Rattle.core_cert.proofs.RoundTripSound.{no_fault}

-- the instrument of a line, and its name
line-known : (c : CaseView) → IsCase c → (l : ℕ) → l < line_count c → instrument_of c l < length c.instruments
line-known c kept l under = (kept.lines.0 l no_line under).known

pub instrument-name : (c : CaseView) → IsCase c → (i : ℕ) → i < length c.instruments → IsName (instrument c i).name
instrument-name c kept i under = (kept.instruments.1 i no_instrument under).name

pub pool-name : (c : CaseView) → IsCase c → (p : ℕ) → p < length c.pools → IsName (pool c p).name
pool-name c kept p under = (kept.pools.1 p no_pool under).0

scenario-name : (c : CaseView) → IsCase c → (k : ℕ) → k < length c.scenarios → IsName (row_at c.scenarios k)
scenario-name c kept k under = kept.scenarios.2 k [] under

-- a name of the case's instruments and pools by index
instrument-at : (c : CaseView) (i : ℕ) → i < length c.instruments → row_at (instrument_names c) i ≡ (instrument c i).name
instrument-at c i under = get_or-map (λ x. x.name) c.instruments i no_instrument [] under

pool-at : (c : CaseView) (p : ℕ) → p < length c.pools → row_at (pool_names c) p ≡ (pool c p).name
pool-at c p under = get_or-map (λ x. x.name) c.pools p no_pool [] under

instrument-below : (c : CaseView) (i : ℕ) → i < length c.instruments → i < length (instrument_names c)
instrument-below c i under = let size = length-map c.instruments (λ x. x.name) in omega (arith, under, size)

pool-below : (c : CaseView) (p : ℕ) → p < length c.pools → p < length (pool_names c)
pool-below c p under = let size = length-map c.pools (λ x. x.name) in omega (arith, under, size)

-- the case has the name
in-case : (names : List (List ℕ)) (i : ℕ) (name word : List ℕ) (rest : Record) → i < length names → row_at names i ≡ name → name_fault names (word ∷ name ∷ rest) ≡ None
in-case names i name word rest under is = no_fault (list_any (bytes_eq name) names) NotInCase (name-found names i name under is)

-- the instrument has a line of the side
in-line : (c : CaseView) (r : Record) (l : ℕ) → l < line_count c → line_named c r ≡ l → line_fault c r ≡ None
in-line c r l under is = no_fault _ NoSuchLine (lt-ltb (line_named c r) (line_count c) (omega (arith, under, is)))

-- a row of a word, a name, a day and a number
row-plain : (word name day number : List ℕ) → IsPlainRow (word ∷ []) → IsName name → (u : ℕ) → day ≡ decimal u → (z : ℤ) → number ≡ number_text z → IsPlainRow (word ∷ name ∷ day ∷ number ∷ [])
row-plain word name day number first is u day-is z number-is =
    row-plain-more word (name ∷ day ∷ number ∷ []) (first.plain 0 [] first.some)
    (row-plain-more name (day ∷ number ∷ []) (is_name-plain name is)
    (row-plain-more day (number ∷ []) (rw day-is (decimal-plain u)) (row-plain-one number (rw number-is (number_text-plain z)))))

-- the fields of a name, a day and a number
day-fields : (first last : ℕ) (name : List ℕ) (u : ℕ) (z : ℤ) → IsName name → first ≤ u → u ≤ last → u ≤ 40 → IsWithin128 z → int_eq z (pos 0) ≡ false
    → AreFit (Name ∷ Number first last ∷ NotZero ∷ []) (name ∷ decimal u ∷ number_text z ∷ [])
day-fields first last name u z is low high small kept other = (fit-name name is, (fit-day first last u low high small, (fit-not_zero z kept other, tt)))

-- a closing day is at most the greatest day
day-small : (c : CaseView) → IsCase c → (i : ℕ) → i < c.horizon → suc i ≤ 40
day-small c kept i under = let few = kept.horizon.1 in omega (arith, under, few)

-- a tier is at most the greatest number of tiers
tier-small : (c : CaseView) → IsCase c → (k : ℕ) → k < tiers c → suc k ≤ 40
tier-small c kept k under = let few = few-depth c kept in omega (arith, under, few)

-- the place of a closing day
day-place : (u : ℕ) (a b h i : ℕ) → a ≡ b → u ≡ suc i → a * h + (u - 1) ≡ b * h + i
day-place u a b h i same day = rw (same, day) (let one : suc i - 1 ≡ i = omega arith in ap (λ t. b * h + t) one)

-- the record of an amount
pub amount-good : (c : CaseView) → IsCase c → (l i k : ℕ) (z : ℤ) → l < line_count c → i < c.horizon → k < tiers c → IsWithin128 z → int_eq z (pos 0) ≡ false
    → IsGood c Amount (codes "amount" ∷ (instrument c (instrument_of c l)).name ∷ side_word (line c l).side ∷ decimal (suc i) ∷ ending (is_tiered c) (suc k) z)
    ((l * c.horizon + i) * tiers c + k) z
amount-good c kept l i k z under small within fits other = record {
  is = refl;
  fields = fit-fields (Name ∷ SideWord ∷ Number 1 c.horizon ∷ ending_forms tiered (tiers c)) (codes "amount") (name ∷ side_word side ∷ decimal (suc i) ∷ last) (
    fit-name name is-name,
    (
      fit-side side,
      (
        fit-day 1 c.horizon (suc i) (omega arith) (omega (arith, small)) few,
        ending-fit tiered (tiers c) (suc k) z (omega arith) (omega (arith, within)) tier-few fits other,
      ),
    ),
  );
  name = in-case (instrument_names c) j name (codes "amount") (side_word side ∷ decimal (suc i) ∷ last) (instrument-below c j known) (instrument-at c j known);
  line = in-line c r l under named;
  place = closing-at c (line_named c r) (small_in r 3) (tier_in c r 4) l i k named (day-number (suc i) few)
      (ending-tier tiered (suc k) z tier-few (only-tier (tiers c) k within));
  margin = λ before. refl;
  plain = row-plain-more (codes "amount") (name ∷ side_word side ∷ decimal (suc i) ∷ last) (word-plain (codes "amount") refl)
      (row-plain-more name (side_word side ∷ decimal (suc i) ∷ last) (is_name-plain name is-name)
      (row-plain-more (side_word side) (decimal (suc i) ∷ last) (plain_side side (side_word side) refl)
      (row-plain-more (decimal (suc i)) last (decimal-plain (suc i)) (ending-plain tiered (suc k) z))));
  number = fourth-number tiered (codes "amount") name (side_word side) (decimal (suc i)) (suc k) z fits;
}
  where
    j : ℕ
    j = instrument_of c l

    name : List ℕ
    name = (instrument c (instrument_of c l)).name

    side : Side
    side = (line c l).side

    tiered : Bool
    tiered = is_tiered c

    last : Record
    last = ending (is_tiered c) (suc k) z

    r : Record
    r = codes "amount" ∷ name ∷ side_word side ∷ decimal (suc i) ∷ ending (is_tiered c) (suc k) z

    known : instrument_of c l < length c.instruments
    known = line-known c kept l under

    is-name : IsName (instrument c (instrument_of c l)).name
    is-name = instrument-name c kept j known

    few : suc i ≤ 40
    few = day-small c kept i small

    tier-few : suc k ≤ 40
    tier-few = tier-small c kept k within

    named : line_named c r ≡ l
    named = line-is c kept l (codes "amount") (decimal (suc i) ∷ ending (is_tiered c) (suc k) z) under

-- the record of a line's weight
pub full-good : (c : CaseView) → IsCase c → (l : ℕ) (z : ℤ) → l < line_count c → IsWithin128 z → int_eq z (pos 0) ≡ false
    → IsGood c Full (codes "full" ∷ (instrument c (instrument_of c l)).name ∷ side_word (line c l).side ∷ number_text z ∷ []) l z
full-good c kept l z under fits other = record {
  is = refl;
  fields = fit-fields (Name ∷ SideWord ∷ NotZero ∷ []) (codes "full") (name ∷ side_word side ∷ number_text z ∷ [])
      (fit-name name is-name, (fit-side side, (fit-not_zero z fits other, tt)));
  name = in-case (instrument_names c) j name (codes "full") (side_word side ∷ number_text z ∷ []) (instrument-below c j known) (instrument-at c j known);
  line = in-line c r l under named;
  place = named;
  margin = λ before. refl;
  plain = row-plain-more (codes "full") (name ∷ side_word side ∷ number_text z ∷ []) (word-plain (codes "full") refl)
      (row-plain-more name (side_word side ∷ number_text z ∷ []) (is_name-plain name is-name)
      (row-plain-more (side_word side) (number_text z ∷ []) (plain_side side (side_word side) refl) (row-plain-one (number_text z) (number_text-plain z))));
  number = number_in-kept z fits;
}
  where
    j : ℕ
    j = instrument_of c l

    name : List ℕ
    name = (instrument c (instrument_of c l)).name

    side : Side
    side = (line c l).side

    r : Record
    r = codes "full" ∷ name ∷ side_word side ∷ number_text z ∷ []

    known : instrument_of c l < length c.instruments
    known = line-known c kept l under

    is-name : IsName (instrument c (instrument_of c l)).name
    is-name = instrument-name c kept j known

    named : line_named c r ≡ l
    named = line-is c kept l (codes "full") (number_text z ∷ []) under

-- the record of a limit's weight
pub limit-good : (c : CaseView) → IsCase c → (j i k : ℕ) (z : ℤ) → j < length c.instruments → i < c.horizon → k < tiers c → IsWithin128 z → int_eq z (pos 0) ≡ false
    → IsGood c Limit (codes "limit" ∷ (instrument c j).name ∷ decimal (suc i) ∷ ending (is_tiered c) (suc k) z) ((j * c.horizon + i) * tiers c + k) z
limit-good c kept j i k z under small within fits other = record {
  is = refl;
  fields = fit-fields (Name ∷ Number 1 c.horizon ∷ ending_forms tiered (tiers c)) (codes "limit") (name ∷ decimal (suc i) ∷ last) (
    fit-name name is-name,
    (
      fit-day 1 c.horizon (suc i) (omega arith) (omega (arith, small)) few,
      ending-fit tiered (tiers c) (suc k) z (omega arith) (omega (arith, within)) tier-few fits other,
    ),
  );
  name = in-case (instrument_names c) j name (codes "limit") (decimal (suc i) ∷ last) below known;
  line = refl;
  place = closing-at c (place_of name (instrument_names c)) (small_in r 2) (tier_in c r 3) j i k
      (place-is (instrument_names c) j name below (names-apart (λ x. x.name) c.instruments no_instrument kept.instruments.2) known) (day-number (suc i) few)
      (ending-tier tiered (suc k) z tier-few (only-tier (tiers c) k within));
  margin = λ before. refl;
  plain = row-plain-more (codes "limit") (name ∷ decimal (suc i) ∷ last) (word-plain (codes "limit") refl)
      (row-plain-more name (decimal (suc i) ∷ last) (is_name-plain name is-name)
      (row-plain-more (decimal (suc i)) last (decimal-plain (suc i)) (ending-plain tiered (suc k) z)));
  number = third-number tiered (codes "limit") name (decimal (suc i)) (suc k) z fits;
}
  where
    name : List ℕ
    name = (instrument c j).name

    tiered : Bool
    tiered = is_tiered c

    last : Record
    last = ending (is_tiered c) (suc k) z

    r : Record
    r = codes "limit" ∷ name ∷ decimal (suc i) ∷ ending (is_tiered c) (suc k) z

    is-name : IsName (instrument c j).name
    is-name = instrument-name c kept j under

    below : j < length (instrument_names c)
    below = instrument-below c j under

    known : row_at (instrument_names c) j ≡ name
    known = instrument-at c j under

    few : suc i ≤ 40
    few = day-small c kept i small

    tier-few : suc k ≤ 40
    tier-few = tier-small c kept k within

-- the record of a pool's weight
pub pool-good : (c : CaseView) → IsCase c → (p i : ℕ) (z : ℤ) → p < length c.pools → i < c.horizon → IsWithin128 z → int_eq z (pos 0) ≡ false
    → IsGood c Pool (codes "pool" ∷ (pool c p).name ∷ decimal (suc i) ∷ number_text z ∷ []) (p * c.horizon + i) z
pool-good c kept p i z under small fits other = record {
  is = refl;
  fields = fit-fields (Name ∷ Number 1 c.horizon ∷ NotZero ∷ []) (codes "pool") (name ∷ decimal (suc i) ∷ number_text z ∷ [])
      (day-fields 1 c.horizon name (suc i) z (pool-name c kept p under) (omega arith) (omega (arith, small)) few fits other);
  name = in-case (pool_names c) p name (codes "pool") (decimal (suc i) ∷ number_text z ∷ []) below known;
  line = refl;
  place = day-place (small_in (codes "pool" ∷ name ∷ decimal (suc i) ∷ number_text z ∷ []) 2) (place_of name (pool_names c)) p c.horizon i
      (place-is (pool_names c) p name below (names-apart (λ x. x.name) c.pools no_pool kept.pools.2) known) (day-number (suc i) few);
  margin = λ before. refl;
  plain = row-plain (codes "pool") name (decimal (suc i)) (number_text z) (row-plain-one (codes "pool") (word-plain (codes "pool") refl)) (pool-name c kept p under) (suc i) refl z refl;
  number = number_in-kept z fits;
}
  where
    name : List ℕ
    name = (pool c p).name

    below : p < length (pool_names c)
    below = pool-below c p under

    known : row_at (pool_names c) p ≡ name
    known = pool-at c p under

    few : suc i ≤ 40
    few = day-small c kept i small

-- the record of a scenario's weight
pub scenario-good : (c : CaseView) → IsCase c → (k t : ℕ) (z : ℤ) → k < length c.scenarios → t ≤ c.last → IsWithin128 z → int_eq z (pos 0) ≡ false
    → IsGood c Scenario (codes "scenario" ∷ row_at c.scenarios k ∷ decimal t ∷ number_text z ∷ []) (k * suc c.last + t) z
scenario-good c kept k t z under small fits other = record {
  is = refl;
  fields = fit-fields (Name ∷ Number 0 c.last ∷ NotZero ∷ []) (codes "scenario") (name ∷ decimal t ∷ number_text z ∷ [])
      (day-fields 0 c.last name t z (scenario-name c kept k under) (omega arith) small few fits other);
  name = in-case c.scenarios k name (codes "scenario") (decimal t ∷ number_text z ∷ []) under refl;
  line = refl;
  place = rw (place-is c.scenarios k name under kept.scenarios.3 refl, day-number t few) refl;
  margin = λ before. refl;
  plain = row-plain (codes "scenario") name (decimal t) (number_text z) (row-plain-one (codes "scenario") (word-plain (codes "scenario") refl)) (scenario-name c kept k under) t refl z refl;
  number = number_in-kept z fits;
}
  where
    name : List ℕ
    name = row_at c.scenarios k

    few : t ≤ 40
    few = let most = kept.last.1 in omega (arith, small, most)
