-- The text of records that are printed one after the other, and which of them are plain.
use Rattle.std.proofs.Common.{◌≡◌, ◌∙◌, sym, ap, ℕ, suc, zero, ◌-◌, ◌*◌, ◌≤◌, arith, List, [], ◌∷◌, ◌++◌, map, append_assoc, append-nil, decimal}
use Rattle.std.specs.List.{All}
use Rattle.std.proofs.lemmas.List.Elements.{All-append, All-cons, All-nil}
use Rattle.std.proofs.lemmas.List.{length-append}
use Rattle.core_sums.specs.Places.{below, days_to, each}
use Rattle.core_sums.proofs.Joined.{each-append, each-days_to-more}
use Rattle.core_rows.specs.Names.{Record}
use Rattle.core_rows.specs.Fields.{row_text}
use Rattle.core_rows.specs.Written.{IsPlainField, IsPlainRow, rows_text}
use Rattle.core_rows.proofs.Plain.{decimal-plain}
use Rattle.core_gen.specs.Demo.{demo_price, demo_prices, instrument_name, scenario_name}

-- the prices one by one
pub seven-prices : (k : ℕ)
    → (1000 ∷ (1000 - k) ∷ (1000 - k * 2) ∷ (1000 - k * 3) ∷ (1000 - k * 4)
    ∷ (1000 - k * 5) ∷ (1000 - k * 6) ∷ [])
    ≡ demo_prices k
unfolding below
seven-prices k =
    let first : 1000 ≡ 1000 - k * 0 = omega arith in
    let second : 1000 - k ≡ 1000 - k * 1 = omega arith in
    let rest = map (demo_price k) (2 ∷ 3 ∷ 4 ∷ 5 ∷ 6 ∷ []) in
    ap (λ (p : ℕ). p ∷ (1000 - k) ∷ rest) first ∙ ap (λ (p : ℕ). (1000 - k * 0) ∷ p ∷ rest) second

-- the text that was there, and after it the text of records
abbrev pub Adds : List ℕ → List Record → List ℕ → Type 0
Adds before rs after = after ≡ before ++ rows_text rs

-- records, and after them others
pub both : (start middle end : List ℕ) (rs ss : List Record)
    → Adds start rs middle → Adds middle ss end → Adds start (rs ++ ss) end
both start middle end rs ss one two =
    two ∙ ap (λ t. t ++ rows_text ss) one
    ∙ append_assoc start (rows_text rs) (rows_text ss)
    ∙ ap (λ t. start ++ t) (sym (each-append rs ss row_text))

-- the records of no day, and of one day more
pub no-day : (start : List ℕ) (f : ℕ → List Record) → Adds start (each (days_to 0) f) start
unfolding days_to each
no-day start f = sym (append-nil start)

pub day-more : (start now next : List ℕ) (u : ℕ) (f : ℕ → List Record) → 1 ≤ u
    → Adds start (each (days_to (u - 1)) f) now → Adds now (f u) next
    → Adds start (each (days_to u) f) next
day-more start now next zero f low before here = absurd (omega (arith, low))
day-more start now next (suc v) f low before here =
    let same : suc v - 1 ≡ v = omega arith in
    both start now next (each (days_to v) f) (f (suc v)) (rw same at before) here
    ∙ ap (λ rs. start ++ rows_text rs) (sym (each-days_to-more v f))

-- numbers are plain, and so are they after plain words
numbers-plain : (numbers : List ℕ) → All IsPlainField (map decimal numbers)
numbers-plain [] = All-nil IsPlainField
numbers-plain (n ∷ ns) =
    All-cons IsPlainField (decimal n) (map decimal ns) (decimal-plain n) (numbers-plain ns)

pub numbered-plain : (words : Record) (numbers : List ℕ)
    → IsPlainRow words → IsPlainRow (words ++ map decimal numbers)
numbered-plain words numbers plain =
    let size = length-append words (map decimal numbers) in
    let filled = plain.some in
    record {
      some = omega (arith, size, filled);
      plain = All-append IsPlainField words (map decimal numbers) plain.plain (numbers-plain numbers);
    }

-- the names are plain
pub instrument-plain : (i : ℕ) → IsPlainField (instrument_name i)
instrument-plain i = record { some = omega arith; plain = (decimal-plain i).plain }

pub scenario-plain : (k : ℕ) → IsPlainField (scenario_name k)
scenario-plain k = record { some = omega arith; plain = (decimal-plain k).plain }
