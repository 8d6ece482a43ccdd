-- How many records a text has.
use Rattle.std.proofs.Common.{◌≡◌, ap, ℕ, zero, suc, ◌+◌, ◌<◌, ◌≤◌, List, [], ◌∷◌, length, arith, Bool, true, false, if◌then◌else◌, Option, Some, None}
use Rattle.csv.specs.Reading.{is_bom, strip_bom, records_from, records_next, default_config}
use Rattle.csv.specs.Machine.{Read, next_record}
use Rattle.csv.specs.declared.parser.Config.{Config}
use Rattle.csv.specs.declared.parser.State.{State}
use Rattle.csv.specs.declared.parser.State.TheVariants as st
use Rattle.core_rows.specs.Names.{Record}
use Rattle.core_rows.specs.Fields.{most_bytes, records}

-- one read gives at most one record more than the reads after it
next-count : (more : State → List ℕ → List Record) (n : ℕ) (read : Option Read) → ((s : State) (xs : List ℕ) → length (more s xs) ≤ n)
    → length (records_next more read) ≤ suc n
next-count more n None below = omega arith
next-count more n (Some p) below = omega (arith, below p.1 p.2)

-- so many reads give at most so many records
pub records_from-count : (config : Config) (n : ℕ) (s : State) (xs : List ℕ) → length (records_from config n s xs) ≤ n
unfolding records_from
records_from-count config zero s xs = omega arith
records_from-count config (suc n) s xs = next-count (records_from config n) n (next_record config s [] [] xs) (records_from-count config n)

-- a byte order mark is let go
bom-shorter : (b : Bool) (a c d : ℕ) (rest : List ℕ) → length (if b then rest else a ∷ c ∷ d ∷ rest) ≤ length (a ∷ c ∷ d ∷ rest)
bom-shorter true a c d rest = omega arith
bom-shorter false a c d rest = omega arith

-- a text is no longer without its mark
strip_bom-shorter : (xs : List ℕ) → length (strip_bom xs) ≤ length xs
unfolding strip_bom
strip_bom-shorter [] = omega arith
strip_bom-shorter (a ∷ []) = omega arith
strip_bom-shorter (a ∷ b ∷ []) = omega arith
strip_bom-shorter (a ∷ b ∷ c ∷ rest) = bom-shorter (is_bom a b c) a b c rest

-- a text has at most one record more than bytes
records-count : (bytes : List ℕ) → length (records bytes) ≤ length bytes + 1
records-count bytes =
    let few : length (records bytes) ≤ length (strip_bom bytes) + 1 =
    records_from-count default_config (length (strip_bom bytes) + 1) st.StartRecord (strip_bom bytes) in
    omega (arith, few, strip_bom-shorter bytes)

-- the records of a text of the greatest length can be numbered
pub few-records : (bytes : List ℕ) (rows : List Record) → length bytes ≤ most_bytes → rows ≡ records bytes → length rows < 2147483648
few-records bytes rows short are = omega (arith, short, ap length are, records-count bytes)
