-- The text of a certificate that fits a case takes at most 4,194,304 bytes.
use Rattle.std.proofs.Common.{◌≡◌, ◌∷◌, ◌++◌, [], ℕ, suc, ◌+◌, ◌*◌, ◌<◌, ◌≤◌, ℤ, pos, List, Bool, true, false, length, arith, codes, decimal, length-append, lit<, refl, inl, inr, int_lt}
use Rattle.std.proofs.lemmas.Bool.{cases_Bool}
use Rattle.std.proofs.Math.Nat.{mul-le-mul}
use Rattle.std.specs.Prelude.{if◌then◌else◌}
use Rattle.std.proofs.lemmas.Fmt.{length-decimal-le_wide}
use Rattle.core_sums.specs.Places.{at, days_to, each, row_at}
use Rattle.core_rows.specs.Fields.{IsName, most_bytes, number_text, row_text}
use Rattle.core_rows.specs.Names.{Record}
use Rattle.core_rows.specs.Written.{rows_text}
use Rattle.core_book.specs.View.{CaseView, instrument, instrument_of, is_tiered, line, no_instrument, no_line, no_pool, pool, tiers}
use Rattle.core_book.specs.WellFormed.{IsCase}
use Rattle.core_book.proofs.Depth.{few-depth}
use Rattle.core_model.specs.Closing.{Plan}
use Rattle.core_model.specs.Layout.{closing_place, limit_weight, plan_of, pool_place, pool_weight}
use Rattle.core_model.specs.declared.cert.Weights.{Weights}
use Rattle.core_model.specs.declared.cert.Cert.{Cert}
use Rattle.core_model.specs.declared.cert.Cert.TheVariants.{Closes, Cannot}
use Rattle.core_model.specs.Fits.{Fits, IsWithin128, WeightsFit}
use Rattle.core_cert.specs.Written.{amount_on, amount_record, amount_records, cert_text, constraint_records, day_record, each_tier, first_record, floored, full_of, full_record, full_records, inner_records, instrument_limits, limit_on, limit_record, limit_records, line_amounts, line_fields, pool_days, pool_on, pool_records, scenario_days, scenario_on, scenario_records, side_word, tier_fields, version_word, word_record}
use Rattle.core_model.proofs.FewLines.{lines-few}
use Rattle.core_cert.proofs.Printed.{rows_text-append, rows_text-cons, rows_text-none}
use Rattle.core_sums.proofs.Within128.{at-kept}
use Rattle.core_cert.proofs.Size.{below-short, days-short, number_text-short, numbered-short, row_text-five, row_text-four, row_text-six, row_text-two, side_word-short}

-- a day takes at most two digits
decimal-short : (day : ℕ) → day < 100 → length (decimal day) ≤ 2
decimal-short day low = length-decimal-le_wide 2 day (lit< tt) (omega (arith, low)) (omega (arith, low))

-- and a tier one
tier-short : (tier : ℕ) → tier < 10 → length (decimal tier) ≤ 1
tier-short tier low = length-decimal-le_wide 1 tier (lit< tt) (omega (arith, low)) (omega (arith, low))

-- the bytes of the row of an amount and of a limit, with and without a tier
amount_row-short : (tiered : Bool) (name side day tier number : List ℕ) → length name ≤ 12 → length side ≤ 10 → length day ≤ 2 → length tier ≤ 1 → length number ≤ 40
    → length (row_text (codes "amount" ∷ name ∷ side ∷ day ∷ ((if tiered then tier ∷ [] else []) ++ (number ∷ [])))) ≤ 77
amount_row-short true name side day tier number a b d e f = omega (arith, row_text-six (codes "amount") name side day tier number, a, b, d, e, f)
amount_row-short false name side day tier number a b d e f = omega (arith, row_text-five (codes "amount") name side day number, a, b, d, f)

limit_row-short : (tiered : Bool) (name day tier number : List ℕ) → length name ≤ 12 → length day ≤ 2 → length tier ≤ 1 → length number ≤ 40
    → length (row_text (codes "limit" ∷ name ∷ day ∷ ((if tiered then tier ∷ [] else []) ++ (number ∷ [])))) ≤ 65
limit_row-short true name day tier number a d e f = omega (arith, row_text-five (codes "limit") name day tier number, a, d, e, f)
limit_row-short false name day tier number a d e f = omega (arith, row_text-four (codes "limit") name day number, a, d, f)

-- each kind of record
word_record-short : (word : List ℕ) (z : ℤ) → length word ≤ 8 → IsWithin128 z → length (row_text (word_record word z)) ≤ 50
word_record-short word z short kept =
    let number = number_text-short z kept in
    omega (arith, row_text-two word (number_text z), short, number)

day_record-short : (word name : List ℕ) (day : ℕ) (z : ℤ) → length word ≤ 8 → IsName name → day < 100 → IsWithin128 z
    → length (rows_text (day_record word name day z)) ≤ 66
day_record-short word name day z short good low kept =
    let number = number_text-short z kept in
    let digits = decimal-short day low in
    let named = good.short in
    numbered-short (word ∷ name ∷ decimal day ∷ []) z 66 (omega (arith, row_text-four word name (decimal day) (number_text z), short, named, digits, number))

amount_record-short : (c : CaseView) (l day tier : ℕ) (z : ℤ) → IsName (instrument c (instrument_of c l)).name → day < 100 → tier < 10 → IsWithin128 z
    → length (rows_text (amount_record c l day tier z)) ≤ 77
amount_record-short c l day tier z good low small kept =
    numbered-short ((codes "amount" ∷ line_fields c l) ++ (decimal day ∷ tier_fields c tier)) z 77
    (amount_row-short (is_tiered c) (instrument c (instrument_of c l)).name (side_word (line c l).side) (decimal day) (decimal tier) (number_text z)
    good.short (side_word-short (line c l).side) (decimal-short day low) (tier-short tier small) (number_text-short z kept))

limit_record-short : (c : CaseView) (i day tier : ℕ) (z : ℤ) → IsName (instrument c i).name → day < 100 → tier < 10 → IsWithin128 z
    → length (rows_text (limit_record c i day tier z)) ≤ 65
limit_record-short c i day tier z good low small kept =
    numbered-short (codes "limit" ∷ (instrument c i).name ∷ decimal day ∷ tier_fields c tier) z 65
    (limit_row-short (is_tiered c) (instrument c i).name (decimal day) (decimal tier) (number_text z)
    good.short (decimal-short day low) (tier-short tier small) (number_text-short z kept))

full_record-short : (c : CaseView) (l : ℕ) (z : ℤ) → IsName (instrument c (instrument_of c l)).name → IsWithin128 z
    → length (rows_text (full_record c l z)) ≤ 75
full_record-short c l z good kept =
    let number = number_text-short z kept in
    let named = good.short in
    let side = side_word-short (line c l).side in
    numbered-short (codes "full" ∷ line_fields c l) z 75
    (omega (arith, row_text-four (codes "full") (instrument c (instrument_of c l)).name (side_word (line c l).side) (number_text z), named, side, number))

-- the instrument of a line is one of the case's
line-named : (c : CaseView) → IsCase c → (l : ℕ) → l < length c.lines → IsName (instrument c (instrument_of c l)).name
line-named c kept l below = (kept.instruments.1 (instrument_of c l) no_instrument (kept.lines.0 l no_line below).known).name

-- what each closing day and tier gives
closings-short : (c : CaseView) (b : ℕ) (f : ℕ → ℕ → List Record) → IsCase c
    → ((u j : ℕ) → u < 100 → j < 10 → length (rows_text (f u j)) ≤ b)
    → length (rows_text (each (days_to c.horizon) (λ u. each_tier c (f u)))) ≤ c.horizon * (tiers c * b)
closings-short c b f kept short = days-short c.horizon (tiers c * b) (λ u. each_tier c (f u)) (λ u from to.
    days-short (tiers c) b (f u) (λ j first last. short u j (omega (arith, to, kept.horizon.1)) (omega (arith, last, few-depth c kept))))

closings-most : (h t b n : ℕ) → n ≤ h * (t * b) → h ≤ 20 → t ≤ 4 → n ≤ 20 * (4 * b)
closings-most h t b n all days tiers =
    let inner : t * b ≤ 4 * b = mul-le-mul tiers (omega arith) in
    let whole : h * (t * b) ≤ 20 * (4 * b) = mul-le-mul days inner in
    omega (arith, all, whole)

-- all records of each kind
amounts-short : (c : CaseView) (a : Plan) → IsCase c → ((l u j : ℕ) → IsWithin128 (a.amount l u j)) → length (rows_text (amount_records c a)) ≤ 394240
amounts-short c a kept fits =
    let few = lines-few c kept in
    let all = below-short (length c.lines) 6160 (line_amounts c a) of_line in
    omega (arith, few, all)
  where
    of_line : (l : ℕ) → l < length c.lines → length (rows_text (line_amounts c a l)) ≤ 6160
    of_line l below =
        let days = closings-short c 77 (amount_on c a l) kept (λ u j low small. amount_record-short c l u j (a.amount l u j) (line-named c kept l below) low small (fits l u j)) in
        closings-most c.horizon (tiers c) 77 (length (rows_text (line_amounts c a l))) days kept.horizon.1 (few-depth c kept)

scenarios-short : (c : CaseView) (w : Weights) → IsCase c → WeightsFit c w → length (rows_text (scenario_records c w)) ≤ 173184
scenarios-short c w kept fits =
    let all = below-short (length c.scenarios) 2706 (scenario_days c w) of_scenario in
    omega (arith, all, kept.scenarios.1)
  where
    of_scenario : (k : ℕ) → k < length c.scenarios → length (rows_text (scenario_days c w k)) ≤ 2706
    of_scenario k below =
        let days = below-short (suc c.last) 66 (scenario_on c w k)
        (λ t under. day_record-short (codes "scenario") (row_at c.scenarios k) t (at w.scenario (k * suc c.last + t)) (omega arith)
        (kept.scenarios.2 k [] below) (omega (arith, under, kept.last.1)) (at-kept w.scenario (k * suc c.last + t) fits.scenario.1)) in
        omega (arith, days, kept.last.1)

limits-short : (c : CaseView) (w : Weights) → IsCase c → WeightsFit c w → length (rows_text (limit_records c w)) ≤ 166400
limits-short c w kept fits =
    let all = below-short (length c.instruments) 5200 (instrument_limits c w) of_instrument in
    omega (arith, all, kept.instruments.0)
  where
    of_instrument : (i : ℕ) → i < length c.instruments → length (rows_text (instrument_limits c w i)) ≤ 5200
    of_instrument i below =
        let days = closings-short c 65 (limit_on c w i) kept (λ u j low small.
        limit_record-short c i u j (limit_weight c w i u j) (kept.instruments.1 i no_instrument below).name low small (at-kept w.limit (closing_place c i u j) fits.limit.1)) in
        closings-most c.horizon (tiers c) 65 (length (rows_text (instrument_limits c w i))) days kept.horizon.1 (few-depth c kept)

pools-short : (c : CaseView) (w : Weights) → IsCase c → WeightsFit c w → length (rows_text (pool_records c w)) ≤ 21120
pools-short c w kept fits =
    let all = below-short (length c.pools) 1320 (pool_days c w) of_pool in
    omega (arith, all, kept.pools.0)
  where
    of_pool : (p : ℕ) → p < length c.pools → length (rows_text (pool_days c w p)) ≤ 1320
    of_pool p below =
        let days = days-short c.horizon 66 (pool_on c w p) (λ u from to.
        day_record-short (codes "pool") (pool c p).name u (pool_weight c w p u) (omega arith) (kept.pools.1 p no_pool below).0
        (omega (arith, to, kept.horizon.1)) (at-kept w.pool (pool_place c p u) fits.pool.1)) in
        omega (arith, days, kept.horizon.1)

fulls-short : (c : CaseView) (w : Weights) → IsCase c → WeightsFit c w → length (rows_text (full_records c w)) ≤ 4800
fulls-short c w kept fits =
    let few = lines-few c kept in
    let all = below-short (length c.lines) 75 (full_of c w) (λ l below. full_record-short c l (at w.full l) (line-named c kept l below) (at-kept w.full l fits.full.1)) in
    omega (arith, few, all)

constraints-short : (c : CaseView) (w : Weights) → IsCase c → WeightsFit c w → length (rows_text (constraint_records c w)) ≤ 192320
constraints-short c w kept fits =
    let limits = limits-short c w kept fits in
    let pools = pools-short c w kept fits in
    let fulls = fulls-short c w kept fits in
    rw (rows_text-append (limit_records c w ++ pool_records c w) (full_records c w), rows_text-append (limit_records c w) (pool_records c w))
    (omega (
      arith,
      limits,
      pools,
      fulls,
      length-append (rows_text (limit_records c w) ++ rows_text (pool_records c w)) (rows_text (full_records c w)),
      length-append (rows_text (limit_records c w)) (rows_text (pool_records c w)),
    ))

-- the bytes of rows, one by one and part by part
size-cons : (r : Record) (rs : List Record) → length (rows_text (r ∷ rs)) ≡ length (row_text r) + length (rows_text rs)
size-cons r rs = rw (rows_text-cons r rs) (length-append (row_text r) (rows_text rs))

size-append : (rs ss : List Record) → length (rows_text (rs ++ ss)) ≡ length (rows_text rs) + length (rows_text ss)
size-append rs ss = rw (rows_text-append rs ss) (length-append (rows_text rs) (rows_text ss))

size-none : length (rows_text []) ≡ 0
size-none = rw rows_text-none refl

-- a number that is floored stays within the width
floored-kept : (z : ℤ) → IsWithin128 z → IsWithin128 (floored z)
floored-kept z kept = elim (cases_Bool (int_lt (pos 0) z)) [
  | inl above ↦ rw above kept
  | inr low ↦ rw low (omega arith)
]

-- the records between the first and the last
inner-short : (c : CaseView) (cert : Cert) → IsCase c → Fits c cert → length (rows_text (inner_records c cert)) ≤ 759944
inner-short c (Closes x loss w) kept fits =
    let amounts = amounts-short c (plan_of c x) kept (λ l u j. at-kept x.amounts (closing_place c l u j) fits.0.amounts.1) in
    let scenarios = scenarios-short c w kept fits.2 in
    let constraints = constraints-short c w kept fits.2 in
    let closes = word_record-short (codes "closes") x.den (omega arith) fits.0.den in
    let lost = word_record-short (codes "loss") loss (omega arith) fits.1 in
    let margin = word_record-short (codes "margin") (floored loss) (omega arith) (floored-kept loss fits.1) in
    let weights = word_record-short (codes "weights") w.den (omega arith) fits.2.den in
    closed (word_record (codes "closes") x.den) (word_record (codes "loss") loss) (word_record (codes "margin") (floored loss)) (word_record (codes "weights") w.den)
    (amount_records c (plan_of c x)) (scenario_records c w) (constraint_records c w) closes lost margin weights amounts scenarios constraints
  where
    closed : (a b d e : Record) (rs ss ts : List Record) → length (row_text a) ≤ 50 → length (row_text b) ≤ 50 → length (row_text d) ≤ 50 → length (row_text e) ≤ 50
        → length (rows_text rs) ≤ 394240 → length (rows_text ss) ≤ 173184 → length (rows_text ts) ≤ 192320
        → length (rows_text (a ∷ (rs ++ (b ∷ d ∷ e ∷ []) ++ ss ++ ts))) ≤ 759944
    closed a b d e rs ss ts one two three four many more most = simp (size-cons, size-append, size-none) (omega (arith, one, two, three, four, many, more, most))
inner-short c (Cannot w) kept fits =
    let constraints = constraints-short c w kept fits in
    let weights = word_record-short (codes "weights") w.den (omega arith) fits.den in
    refused (codes "cannot" ∷ []) (word_record (codes "weights") w.den) (constraint_records c w) (omega arith) weights constraints
  where
    refused : (a b : Record) (rs : List Record) → length (row_text a) ≤ 50 → length (row_text b) ≤ 50 → length (rows_text rs) ≤ 192320
        → length (rows_text (a ∷ b ∷ rs)) ≤ 759944
    refused a b rs one two many = simp size-cons (omega (arith, one, two, many))

-- the first record
first-short : (tiered : Bool) → length (row_text (codes "cert" ∷ version_word tiered ∷ [])) ≤ 7
first-short true = omega arith
first-short false = omega arith

-- the whole text
pub cert_text-short : (c : CaseView) (cert : Cert) → IsCase c → Fits c cert → length (cert_text c cert) ≤ most_bytes
cert_text-short c cert kept fits = whole (inner_records c cert) (inner-short c cert kept fits)
  where
    whole : (rs : List Record) → length (rows_text rs) ≤ 759944
        → length (rows_text (first_record c ∷ (rs ++ ((codes "end" ∷ []) ∷ [])))) ≤ most_bytes
    whole rs short = let version = first-short (is_tiered c) in simp (size-cons, size-append, size-none) (omega (arith, short, version))
