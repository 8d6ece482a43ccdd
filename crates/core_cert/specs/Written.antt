-- The records of a certificate, in their one order, and their text. A number that is 0 has no record.
use Rattle.std.specs.Prelude.{◌≡◌, ℕ, suc, List, [], ◌∷◌, ◌++◌, length, codes, decimal, ℤ, pos, Bool, true, false, ◌&&◌, nat_le, if◌then◌else◌}
use Rattle.std.specs.Int.{int_max}
use Rattle.std.specs.Ordering.{int_eq}
use Rattle.std.specs.List.{All, list_all}
use Rattle.core_sums.specs.Places.{below, days_to, each, row_at}
use Rattle.core_rows.specs.Names.{Record}
use Rattle.core_rows.specs.Fields.{number_text}
use Rattle.core_rows.specs.Written.{is_plain_byte, rows_text}
use Rattle.core_book.specs.View.{CaseView, instrument, line, pool, tiers, is_tiered, instrument_of}
use Rattle.core_book.specs.declared.parts.Side.{Side}
use Rattle.core_book.specs.declared.parts.Side.TheVariants.{Position, Collateral}
use Rattle.core_model.specs.declared.cert.Weights.{Weights}
use Rattle.core_model.specs.declared.cert.Cert.{Cert}
use Rattle.core_model.specs.declared.cert.Cert.TheVariants.{Closes, Cannot}
use Rattle.core_model.specs.Closing.{Plan, line_count}
use Rattle.core_model.specs.Layout.{plan_of, scenario_weight, limit_weight, pool_weight, full_weight}

-- a word of at least one byte, each a letter, a digit or a hyphen
abbrev pub is_plain_word : List ℕ → Bool
is_plain_word word = nat_le 1 (length word) && list_all is_plain_byte word

-- the version of the format: 2 for a case of which an instrument has more than one tier, else 1
abbrev pub version_word : Bool → List ℕ
version_word true = codes "2"
version_word false = codes "1"

-- the word of a side
abbrev pub side_word : Side → List ℕ
side_word Position = codes "position"
side_word Collateral = codes "collateral"

-- the fields that name a line
abbrev pub line_fields : CaseView → ℕ → Record
line_fields c l = (instrument c (instrument_of c l)).name ∷ side_word (line c l).side ∷ []

-- the field that names a tier, which version 1 has not
abbrev pub tier_fields : CaseView → ℕ → Record
tier_fields c j = if is_tiered c then decimal j ∷ [] else []

-- a record that ends with a number, none where the number is 0
abbrev pub numbered : Record → ℤ → List Record
numbered fields z = if int_eq z (pos 0) then [] else (fields ++ (number_text z ∷ [])) ∷ []

-- the loss floored at nought
abbrev pub floored : ℤ → ℤ
floored loss = int_max loss (pos 0)

-- an amount of a line on a day in a tier
abbrev pub amount_record : CaseView → ℕ → ℕ → ℕ → ℤ → List Record
amount_record c l u j z = numbered ((codes "amount" ∷ line_fields c l) ++ (decimal u ∷ tier_fields c j)) z

-- a weight of a line
abbrev pub full_record : CaseView → ℕ → ℤ → List Record
full_record c l z = numbered (codes "full" ∷ line_fields c l) z

-- a weight of an instrument's limit on a day in a tier
abbrev pub limit_record : CaseView → ℕ → ℕ → ℕ → ℤ → List Record
limit_record c i u j z =
    numbered (codes "limit" ∷ (instrument c i).name ∷ decimal u ∷ tier_fields c j) z

-- a number of a name on a day
abbrev pub day_record : List ℕ → List ℕ → ℕ → ℤ → List Record
day_record word name day z = numbered (word ∷ name ∷ decimal day ∷ []) z

-- what f gives for each tier, joined in order
abbrev pub each_tier : CaseView → (ℕ → List Record) → List Record
each_tier c f = each (days_to (tiers c)) f

-- the amount that a calendar closes of a line on a day in a tier, all of the day, all of the line, and all by line
abbrev pub amount_on : CaseView → Plan → ℕ → ℕ → ℕ → List Record
amount_on c a l u j = amount_record c l u j (a.amount l u j)

abbrev pub day_amounts : CaseView → Plan → ℕ → ℕ → List Record
day_amounts c a l u = each_tier c (amount_on c a l u)

abbrev pub line_amounts : CaseView → Plan → ℕ → List Record
line_amounts c a l = each (days_to c.horizon) (day_amounts c a l)

abbrev pub amount_records : CaseView → Plan → List Record
amount_records c a = each (below (line_count c)) (line_amounts c a)

-- the weight of a scenario on a day, all of a scenario by house day, and all by scenario
abbrev pub scenario_on : CaseView → Weights → ℕ → ℕ → List Record
scenario_on c w k t = day_record (codes "scenario") (row_at c.scenarios k) t (scenario_weight c w k t)

abbrev pub scenario_days : CaseView → Weights → ℕ → List Record
scenario_days c w k = each (below (suc c.last)) (scenario_on c w k)

abbrev pub scenario_records : CaseView → Weights → List Record
scenario_records c w = each (below (length c.scenarios)) (scenario_days c w)

-- the weight of an instrument's limit on a day in a tier, all of the day, all of the instrument, and all by
-- instrument
abbrev pub limit_on : CaseView → Weights → ℕ → ℕ → ℕ → List Record
limit_on c w i u j = limit_record c i u j (limit_weight c w i u j)

abbrev pub day_limits : CaseView → Weights → ℕ → ℕ → List Record
day_limits c w i u = each_tier c (limit_on c w i u)

abbrev pub instrument_limits : CaseView → Weights → ℕ → List Record
instrument_limits c w i = each (days_to c.horizon) (day_limits c w i)

abbrev pub limit_records : CaseView → Weights → List Record
limit_records c w = each (below (length c.instruments)) (instrument_limits c w)

-- the weight of a pool's cap on a closing day, all of a pool, and all by pool
abbrev pub pool_on : CaseView → Weights → ℕ → ℕ → List Record
pool_on c w p u = day_record (codes "pool") (pool c p).name u (pool_weight c w p u)

abbrev pub pool_days : CaseView → Weights → ℕ → List Record
pool_days c w p = each (days_to c.horizon) (pool_on c w p)

abbrev pub pool_records : CaseView → Weights → List Record
pool_records c w = each (below (length c.pools)) (pool_days c w)

-- the weight of a line's full closing, and all by line
abbrev pub full_of : CaseView → Weights → ℕ → List Record
full_of c w l = full_record c l (full_weight w l)

abbrev pub full_records : CaseView → Weights → List Record
full_records c w = each (below (line_count c)) (full_of c w)

-- a record of a word and a number
abbrev pub word_record : List ℕ → ℤ → Record
word_record word z = word ∷ number_text z ∷ []

-- the weights that a certificate of either form has
abbrev pub constraint_records : CaseView → Weights → List Record
constraint_records c w = limit_records c w ++ pool_records c w ++ full_records c w

-- the records of a calendar, its loss and its weights, and those of weights that refuse
abbrev pub closing_records : CaseView → Plan → ℤ → Weights → List Record
closing_records c a loss w =
    word_record (codes "closes") a.den ∷ (amount_records c a
    ++ (word_record (codes "loss") loss
    ∷ word_record (codes "margin") (floored loss)
    ∷ word_record (codes "weights") w.den
    ∷ [])
    ++ scenario_records c w ++ constraint_records c w)

abbrev pub refusing_records : CaseView → Weights → List Record
refusing_records c w = (codes "cannot" ∷ []) ∷ word_record (codes "weights") w.den ∷ constraint_records c w

-- the records between the first and the last
abbrev pub inner_records : CaseView → Cert → List Record
inner_records c (Closes calendar loss weights) = closing_records c (plan_of c calendar) loss weights
inner_records c (Cannot weights) = refusing_records c weights

-- the first record
abbrev pub first_record : CaseView → Record
first_record c = codes "cert" ∷ version_word (is_tiered c) ∷ []

-- all records
abbrev pub cert_records : CaseView → Cert → List Record
cert_records c cert = first_record c ∷ (inner_records c cert ++ ((codes "end" ∷ []) ∷ []))

-- the text of a certificate
abbrev pub cert_text : CaseView → Cert → List ℕ
cert_text c cert = rows_text (cert_records c cert)
