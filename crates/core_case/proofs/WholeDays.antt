-- The days of the case that a sound file states: the start, the closing days, the house days, the holidays, the cash.
use Rattle.std.proofs.Common.{◌≡◌, refl, sym, ◌∙◌, ap, ℕ, suc, ◌-◌, ◌^◌, ◌<◌, ◌≤◌, arith, ℤ, pos, negsuc, ◌≤ℤ◌, unsigned_abs, Bool, true, false, cond, ◌&&◌, List, [], ◌∷◌, length, filter, take, get_or, Some, None}
use Rattle.std.proofs.lemmas.Int.{ints}
use Rattle.std.proofs.lemmas.List.{length-map}
use Rattle.std.proofs.lemmas.List.Elements.{All-map, All-filter, All-head, All-tail, filter_agree}
use Rattle.std.specs.Option.{unwrap_or}
use Rattle.std.specs.Ordering.{int_eq}
use Rattle.std.specs.List.{All, find}
use Rattle.std.specs.Str.{bytes_eq}
use Rattle.core_sums.specs.Places.{row_at, below}
use Rattle.core_sums.proofs.Lists.{length-below}
use Rattle.core_rows.specs.Names.{Record, field}
use Rattle.core_rows.specs.Fields.{day_of}
use Rattle.core_case.specs.declared.kinds.RecordKind.TheVariants.{House, Market, Holiday, Cash}
use Rattle.core_case.specs.Kinds.{is_kind, number_in}
use Rattle.core_book.specs.WellFormed.{IsIn, IsStart, IsHoliday, AreIn}
use Rattle.core_case.specs.Faults.{first_fault, first_date, last_start, last_holiday, heading_of, of_kind, is_in_group, count_in}
use Rattle.core_case.specs.Stated.{case_of, day_in, holidays_of, market_names, declared_names, cash_on}
use Rattle.core_case.proofs.SoundRecord.{SoundRecord}
use Rattle.core_rows.proofs.FirstStep.{holds-from_none}
use Rattle.core_case.proofs.Filters.{All-filter_at}
use Rattle.core_case.proofs.WholeRecords.{house-sound, many-records, in-form, count-kept, named-kept, some-between, number-between, natural-between}

-- the second record of a sound file is a sound `house`
house : (rs : List Record) → first_fault rs ≡ None → SoundRecord (take 1 rs) (row_at rs 1) House
house rs e = let many = many-records rs e in house-sound rs e (omega (arith, many))

-- the start
pub start-kept : (rs : List Record) → first_fault rs ≡ None → IsStart (case_of rs).start
start-kept rs e =
    let sound = house rs e in
    some-between first_date last_start (day_of (field (row_at rs 1) 1)) (holds-from_none _ _ (sound.formed 0 (omega arith))) (holds-from_none _ _ (sound.ranged 0 (omega arith)))

-- the closing days
closing : (rs : List Record) → first_fault rs ≡ None → IsIn (pos 1) (pos 20) (number_in (row_at rs 1) 2)
closing rs e = let sound = house rs e in number-between (pos 1) (pos 20) (row_at rs 1) 2 (sound.formed 1 (omega arith)) (sound.ranged 1 (omega arith))

-- there are 1 to 20 of them
pub horizon-kept : (rs : List Record) → first_fault rs ≡ None → (1 ≤ (case_of rs).horizon) × ((case_of rs).horizon ≤ 20)
horizon-kept rs e = natural-between (number_in (row_at rs 1) 2) 1 20 (closing rs e)

-- the house days: numbers in order are natural numbers in order
natural-order : (y z : ℤ) (high : ℕ) → pos 1 ≤ℤ y → IsIn y (pos high) z → (unsigned_abs y ≤ unsigned_abs z) × (unsigned_abs z ≤ high)
natural-order (pos m) (pos n) high from within = (omega (arith, ints, within.0), omega (arith, ints, within.1))
natural-order (pos m) (negsuc n) high from within = absurd (omega (arith, ints, within.0))
natural-order (negsuc m) z high from within = absurd (omega (arith, ints, from))

-- the last house day is no earlier than the last closing day, and at most 40
pub last-kept : (rs : List Record) → first_fault rs ≡ None → ((case_of rs).horizon ≤ (case_of rs).last) × ((case_of rs).last ≤ 40)
last-kept rs e =
    let sound = house rs e in
    let within = number-between (number_in (row_at rs 1) 2) (pos 40) (row_at rs 1) 3 (sound.formed 2 (omega arith)) (sound.ranged 2 (omega arith)) in
    natural-order (number_in (row_at rs 1) 2) (number_in (row_at rs 1) 3) 40 (closing rs e).0 within

-- the holidays of a market are no more than a case takes
few-holidays : (rs : List Record) → first_fault rs ≡ None → (market : List ℕ) → length (holidays_of rs market) ≤ 400
few-holidays rs e market =
    let few : length (filter (λ r. bytes_eq (field r 1) market) (of_kind Holiday rs)) ≤ 400 = named-kept Holiday 400 refl (λ r. refl) market rs e in
    let size : length (holidays_of rs market) ≡ length (filter (λ r. bytes_eq (field r 1) market) (of_kind Holiday rs)) = length-map _ (λ r. day_in r 2) in
    omega (arith, few, size)

-- each of them is a date in its range
sound-holiday : (rs : List Record) → first_fault rs ≡ None → (i : ℕ) → i < length rs → is_kind Holiday (row_at rs i) ≡ true → IsHoliday (day_in (row_at rs i) 2)
sound-holiday rs e i within is =
    let form = in-form rs e i within Holiday is refl in
    some-between first_date last_holiday (day_of (field (row_at rs i) 2)) (holds-from_none _ _ (form.formed 1 (omega arith))) (holds-from_none _ _ (form.ranged 1 (omega arith)))

-- and so are all of a market
sound-holidays : (rs : List Record) → first_fault rs ≡ None → (market : List ℕ) → All IsHoliday (holidays_of rs market)
sound-holidays rs e market =
    All-map IsHoliday (λ r. day_in r 2) (filter (λ r. bytes_eq (field r 1) market) (of_kind Holiday rs))
    (All-filter (λ r. bytes_eq (field r 1) market) (λ r. IsHoliday (day_in r 2)) (of_kind Holiday rs)
    (All-filter_at (λ r. IsHoliday (day_in r 2)) (is_kind Holiday) rs [] (sound-holiday rs e)))

-- a test and what always passes is the test
and-true : (b : Bool) → (b && true) ≡ b
and-true true = refl
and-true false = refl

-- the markets are no more than a case takes
pub few-markets : (rs : List Record) → first_fault rs ≡ None → length (of_kind Market rs) ≤ 8
few-markets rs e =
    let same : of_kind Market rs ≡ filter (is_in_group Market []) rs = filter_agree (is_kind Market) (is_in_group Market []) (λ r. sym (and-true (is_kind Market r))) rs in
    let few : count_in Market [] rs ≤ 8 = count-kept Market 8 refl [] rs e in
    let size : length (of_kind Market rs) ≡ count_in Market [] rs = ap length same in
    omega (arith, few, size)

-- so the holidays of the case are those of 1 to 9 markets, few of each and in their range
pub holidays-kept : (rs : List Record) → first_fault rs ≡ None
    → (1 ≤ length (case_of rs).holidays) × (length (case_of rs).holidays ≤ 9) × All (λ hs. (length hs ≤ 400) × All IsHoliday hs) (case_of rs).holidays
holidays-kept rs e =
    let few : length (of_kind Market rs) ≤ 8 = few-markets rs e in
    let names : length (declared_names Market rs) ≡ length (of_kind Market rs) = length-map (of_kind Market rs) (λ r. field r 1) in
    let size : length (case_of rs).holidays ≡ suc (length (declared_names Market rs)) = length-map (market_names rs) (holidays_of rs) in (
      omega (arith, size),
      omega (arith, few, names, size),
      All-map (λ hs. (length hs ≤ 400) × All IsHoliday hs) (holidays_of rs) (market_names rs) (λ k d within. (few-holidays rs e (get_or (market_names rs) k d), sound-holidays rs e (get_or (market_names rs) k d))),
    )

-- what holds of each of a list, and of what stands for none, holds of the first that passes, or of what stands for none
All-find : {A : Type 0} (P : A → Type 0) (q : A → Bool) (xs : List A) (d : A) → All P xs → P d → P (unwrap_or (find q xs) d)
All-find P q [] d each none = none
All-find {A} P q (x ∷ xs) d each none = by (q x) (All-find P q xs d (All-tail P x xs each) none)
  where
    by : (b : Bool) → P (unwrap_or (find q xs) d) → P (unwrap_or (cond b (Some x) (find q xs)) d)
    by true rest = All-head P x xs each
    by false rest = rest

-- the cash of a day
sound-cash : (rs : List Record) → first_fault rs ≡ None → (i : ℕ) → i < length rs → is_kind Cash (row_at rs i) ≡ true
    → IsIn (negsuc (10 ^ 15 - 1)) (pos (10 ^ 15)) (number_in (row_at rs i) 2)
sound-cash rs e i within is =
    let form = in-form rs e i within Cash is refl in
    number-between (negsuc (10 ^ 15 - 1)) (pos (10 ^ 15)) (row_at rs i) 2 (form.formed 1 (omega arith)) (form.ranged 1 (omega arith))

-- also where no record gives it
cash-within : (rs : List Record) → first_fault rs ≡ None → (t : ℕ) → IsIn (negsuc (10 ^ 15 - 1)) (pos (10 ^ 15)) (cash_on rs t)
cash-within rs e t =
    All-find (λ r. IsIn (negsuc (10 ^ 15 - 1)) (pos (10 ^ 15)) (number_in r 2)) (λ r. int_eq (number_in r 1) (pos t)) (of_kind Cash rs) []
    (All-filter_at (λ r. IsIn (negsuc (10 ^ 15 - 1)) (pos (10 ^ 15)) (number_in r 2)) (is_kind Cash) rs [] (sound-cash rs e))
    (omega (arith, ints), omega (arith, ints))

-- so the case has cash in its range for each house day
pub cash-kept : (rs : List Record) → first_fault rs ≡ None → AreIn (suc (case_of rs).last) (negsuc 999999999999999) (pos (10 ^ 15)) (case_of rs).cash
cash-kept rs e = (
  length-map (below (suc (heading_of rs).last)) (cash_on rs) ∙ length-below (suc (heading_of rs).last),
  All-map (IsIn (negsuc 999999999999999) (pos (10 ^ 15))) (cash_on rs) (below (suc (heading_of rs).last)) (λ k d within. cash-within rs e (get_or (below (suc (heading_of rs).last)) k d)),
)
