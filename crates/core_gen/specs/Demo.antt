-- The demo case of n futures: the prices of all fall in four scenarios, in the last the most. i is
-- an instrument and k a scenario, both from 1, and t a house day from 0.
use Rattle.std.specs.Prelude.{ℕ, ◌-◌, ◌*◌, List, [], ◌∷◌, ◌++◌, map, replicate, codes, decimal}
use Rattle.core_sums.specs.Places.{below, days_to, each}
use Rattle.core_rows.specs.Names.{Record}
use Rattle.core_rows.specs.Written.{rows_text}

-- the letter I or K and a number
abbrev pub instrument_name : ℕ → List ℕ
instrument_name i = 73 ∷ decimal i

abbrev pub scenario_name : ℕ → List ℕ
scenario_name k = 75 ∷ decimal k

-- from 1000 on a price falls by k a day
abbrev pub demo_price : ℕ → ℕ → ℕ
demo_price k t = 1000 - k * t

abbrev pub demo_prices : ℕ → List ℕ
demo_prices k = map (demo_price k) (below 7)

-- the first three records
abbrev pub heading_records : List Record
heading_records =
    (codes "core" ∷ codes "1" ∷ [])
    ∷ (codes "house" ∷ codes "2024-01-01" ∷ decimal 5 ∷ decimal 6 ∷ [])
    ∷ (codes "market" ∷ codes "MKT" ∷ [])
    ∷ []

-- an instrument of multiplier i, its limits, and a long position in it
abbrev pub instr_record : ℕ → Record
instr_record i =
    codes "instr" ∷ instrument_name i ∷ codes "future" ∷ codes "MKT"
    ∷ decimal i ∷ decimal 1 ∷ decimal 1 ∷ []

abbrev pub limit_record : ℕ → Record
limit_record i = codes "limit" ∷ instrument_name i ∷ replicate 5 (decimal 10)

abbrev pub position_record : ℕ → Record
position_record i = codes "position" ∷ instrument_name i ∷ decimal 30 ∷ []

abbrev pub instrument_records : ℕ → List Record
instrument_records i = instr_record i ∷ limit_record i ∷ position_record i ∷ []

-- a scenario, and the path in it of each of n instruments
abbrev pub scenario_record : ℕ → Record
scenario_record k = codes "scenario" ∷ scenario_name k ∷ []

abbrev pub path_record : ℕ → ℕ → Record
path_record k i = codes "path" ∷ scenario_name k ∷ instrument_name i ∷ map decimal (demo_prices k)

abbrev pub path_records : ℕ → ℕ → List Record
path_records n k = each (days_to n) (λ i. path_record k i ∷ [])

abbrev pub scenario_records : ℕ → ℕ → List Record
scenario_records n k = scenario_record k ∷ path_records n k

abbrev pub end_record : Record
end_record = codes "end" ∷ []

abbrev pub demo_records : ℕ → List Record
demo_records n =
    heading_records
    ++ each (days_to n) instrument_records
    ++ each (days_to 4) (scenario_records n)
    ++ (end_record ∷ [])

abbrev pub demo_text : ℕ → List ℕ
demo_text n = rows_text (demo_records n)
