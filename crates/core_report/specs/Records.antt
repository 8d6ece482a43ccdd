-- The records of a report. The texts of the house days' dates are handed in as a list, by day.
use Rattle.std.specs.Prelude.{ℕ, suc, ◌+◌, ◌/◌, ◌%◌, min, ℤ, pos, unsigned_abs, List, [], ◌∷◌, ◌++◌, length, get_or, map, codes, decimal, if◌then◌else◌, Option, Some, None}
use Rattle.std.specs.Ordering.{int_eq}
use Rattle.core_sums.specs.Sums.{total}
use Rattle.core_sums.specs.Places.{below, days_to, each, row_at}
use Rattle.fractions.specs.Fraction.{Fraction, reduce}
use Rattle.core_rows.specs.Names.{Record}
use Rattle.core_rows.specs.Fields.{number_text}
use Rattle.core_book.specs.View.{CaseView, instrument, pool, tiers, limit, counts}
use Rattle.core_model.specs.declared.cert.Weights.{Weights}
use Rattle.core_model.specs.Closing.{Plan, line_count, cash_of, worst_loss}
use Rattle.core_model.specs.Layout.{limit_weight, pool_weight, full_weight}
use Rattle.core_model.specs.Check.{tier_closings, pool_terms, bound_terms}
use Rattle.core_cert.specs.Written.{line_fields, tier_fields, floored}
use Rattle.core_replay.specs.Ledger.{paid_on}
use Rattle.core_report.specs.declared.top.Loss.{Loss}

-- the record that there is, or none
abbrev pub listed : Option Record → List Record
listed None = []
listed (Some row) = row ∷ []

-- a numerator over a denominator in lowest terms, as two fields; 0 is 0 over 1
abbrev pub ratio_fields : ℤ → ℤ → Record
ratio_fields z d = let r : Fraction = reduce z (unsigned_abs d) in number_text r.num ∷ decimal r.den ∷ []

-- a number that is not negative over a denominator, rounded up: one more where something is left over
abbrev pub rounded_up : ℤ → ℤ → ℕ
rounded_up z d = unsigned_abs z / unsigned_abs d + min 1 (unsigned_abs z % unsigned_abs d)

-- a record of some fields, a numerator over a denominator and more fields; none where the numerator is 0
abbrev pub unless_zero : Record → ℤ → ℤ → Record → List Record
unless_zero fields z d more = if int_eq z (pos 0) then [] else (fields ++ ratio_fields z d ++ more) ∷ []

-- what f gives by closing day for each number below a count, and for each of these tier by tier
abbrev pub by_day : CaseView → ℕ → (ℕ → ℕ → List Record) → List Record
by_day c count f = each (days_to c.horizon) (λ u. each (below count) (f u))

abbrev pub by_day_and_tier : CaseView → ℕ → (ℕ → ℕ → ℕ → List Record) → List Record
by_day_and_tier c count f = by_day c count (λ u n. each (days_to (tiers c)) (f u n))

-- a record of a word and a numerator over a denominator
abbrev pub ratio_record : List ℕ → ℤ → ℤ → Record
ratio_record word z d = word ∷ ratio_fields z d

-- a loss over a denominator, its margin, and the margin rounded up
abbrev pub loss_records : ℤ → ℤ → List Record
loss_records loss d =
    ratio_record (codes "loss") loss d
    ∷ ratio_record (codes "margin") (floored loss) d
    ∷ (codes "charge" ∷ decimal (rounded_up (floored loss) d) ∷ [])
    ∷ []

-- what is closed of a line on a day in a tier
abbrev pub close_fields : CaseView → List (List ℕ) → ℕ → ℕ → ℕ → Record
close_fields c dates u l j = codes "close" ∷ row_at dates u ∷ (line_fields c l ++ tier_fields c j)

abbrev pub close_record : CaseView → List (List ℕ) → Plan → ℕ → ℕ → ℕ → List Record
close_record c dates a u l j = unless_zero (close_fields c dates u l j) (a.amount l u j) a.den []

abbrev pub close_records : CaseView → List (List ℕ) → Plan → List Record
close_records c dates a = by_day_and_tier c (line_count c) (close_record c dates a)

-- what is closed of an instrument on a day that is not its expiry in a tier, and its limit
abbrev pub limit_fields : CaseView → List (List ℕ) → ℕ → ℕ → ℕ → Record
limit_fields c dates u i j = codes "limit" ∷ row_at dates u ∷ (instrument c i).name ∷ tier_fields c j

abbrev pub limit_record : CaseView → List (List ℕ) → Plan → ℕ → ℕ → ℕ → List Record
limit_record c dates a u i j =
    if counts c i u
    then unless_zero (limit_fields c dates u i j) (total (tier_closings c a i u j)) a.den
    (number_text (limit c i u j) ∷ [])
    else []

abbrev pub limit_records : CaseView → List (List ℕ) → Plan → List Record
limit_records c dates a = by_day_and_tier c (length c.instruments) (limit_record c dates a)

-- the weighted closings of a pool's members on a day, of those whose expiry it is not, and the cap
abbrev pub pool_fields : CaseView → List (List ℕ) → ℕ → ℕ → Record
pool_fields c dates u p = codes "pool" ∷ row_at dates u ∷ (pool c p).name ∷ []

abbrev pub pool_record : CaseView → List (List ℕ) → Plan → ℕ → ℕ → List Record
pool_record c dates a u p =
    unless_zero (pool_fields c dates u p) (total (pool_terms c a p u)) a.den (number_text (pool c p).cap ∷ [])

abbrev pub pool_records : CaseView → List (List ℕ) → Plan → List Record
pool_records c dates a = by_day c (length c.pools) (pool_record c dates a)

-- what is paid in a scenario on a day, and its cash, and these by house day
abbrev pub ledger_record : CaseView → List (List ℕ) → ℕ → (ℕ → ℤ) → (ℕ → ℤ) → ℤ → ℕ → Record
ledger_record c dates k paid cash d t =
    codes "ledger" ∷ row_at c.scenarios k ∷ row_at dates t ∷ (ratio_fields (paid t) d ++ ratio_fields (cash t) d)

abbrev pub ledger_records : CaseView → List (List ℕ) → ℕ → (ℕ → ℤ) → (ℕ → ℤ) → ℤ → List Record
ledger_records c dates k paid cash d = map (ledger_record c dates k paid cash d) (below (suc c.last))

-- a loss of a rank from 1, and those of a list in its order
abbrev pub top_record : CaseView → List (List ℕ) → ℤ → ℕ → Loss → Record
top_record c dates d rank x =
    codes "top" ∷ decimal rank ∷ row_at c.scenarios x.scenario ∷ row_at dates x.day ∷ ratio_fields x.loss d

abbrev pub no_loss : Loss
no_loss = record { loss = pos 0; scenario = 0; day = 0 }

abbrev pub loss_at : List Loss → ℕ → Loss
loss_at top n = get_or top n no_loss

abbrev pub top_records : CaseView → List (List ℕ) → ℤ → List Loss → List Record
top_records c dates d top = map (λ n. top_record c dates d (suc n) (loss_at top n)) (below (length top))

-- the report of a calendar, with the ledger of a scenario and the losses of a list
abbrev pub closes_records : CaseView → List (List ℕ) → Plan → ℕ → List Loss → List Record
closes_records c dates a scenario top =
    (codes "report" ∷ codes "closes" ∷ [])
    ∷ (loss_records (worst_loss c a) a.den
    ++ close_records c dates a
    ++ limit_records c dates a
    ++ pool_records c dates a
    ++ ledger_records c dates scenario (paid_on c a scenario) (cash_of c a scenario) a.den
    ++ top_records c dates a.den top
    ++ ((codes "end" ∷ []) ∷ []))

-- a weight of a line, of a limit and of a pool's cap
abbrev pub full_weight_record : CaseView → Weights → ℕ → List Record
full_weight_record c w l = unless_zero (codes "full" ∷ line_fields c l) (full_weight w l) w.den []

abbrev pub full_weight_records : CaseView → Weights → List Record
full_weight_records c w = each (below (line_count c)) (full_weight_record c w)

abbrev pub limit_weight_record : CaseView → List (List ℕ) → Weights → ℕ → ℕ → ℕ → List Record
limit_weight_record c dates w u i j =
    unless_zero (limit_fields c dates u i j) (limit_weight c w i u j) w.den []

abbrev pub limit_weight_records : CaseView → List (List ℕ) → Weights → List Record
limit_weight_records c dates w = by_day_and_tier c (length c.instruments) (limit_weight_record c dates w)

abbrev pub pool_weight_record : CaseView → List (List ℕ) → Weights → ℕ → ℕ → List Record
pool_weight_record c dates w u p = unless_zero (pool_fields c dates u p) (pool_weight c w p u) w.den []

abbrev pub pool_weight_records : CaseView → List (List ℕ) → Weights → List Record
pool_weight_records c dates w = by_day c (length c.pools) (pool_weight_record c dates w)

-- the report of weights that refuse every calendar: by how much the book is short, and the weights
abbrev pub cannot_records : CaseView → List (List ℕ) → Weights → List Record
cannot_records c dates w =
    (codes "report" ∷ codes "cannot" ∷ [])
    ∷ ratio_record (codes "short") (total (bound_terms c w)) w.den
    ∷ (full_weight_records c w
    ++ limit_weight_records c dates w
    ++ pool_weight_records c dates w
    ++ ((codes "end" ∷ []) ∷ []))
