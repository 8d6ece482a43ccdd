-- The texts of worked reports, and the order of losses.
use Rattle.std.proofs.Common.{◌≡◌, refl, ℕ, ℤ, pos, negsuc, List, [], ◌∷◌, codes}
use Rattle.std.specs.Fmt.{digits}
use Rattle.std.specs.declared.cmp.Ordering.TheVariants.{Less}
use Rattle.core_sums.specs.Sums.{sum_below, total, greatest_to}
use Rattle.core_sums.specs.Places.{has, least_below, below, days_to, each}
use Rattle.core_days.specs.Days.{working_dates, open_days, open_day_before}
use Rattle.core_book.specs.View.{CaseView}
use Rattle.core_book.specs.declared.parts.Kind.TheVariants.{Future}
use Rattle.core_model.specs.Layout.{plan_of}
use Rattle.core_model.proofs.WorkedCases.{numbers, crossing, deep, expiring, instrument_of, tier_of, one_position}
use Rattle.fractions.specs.Gcd.{gcd}
use Rattle.fractions.specs.Fraction.{reduce}
use Rattle.core_rows.specs.Written.{rows_text}
use Rattle.core_report.specs.declared.top.Loss.{Loss}
use Rattle.core_report.specs.Ranking.{ranking}
use Rattle.core_report.specs.Records.{closes_records, cannot_records, limit_records, close_records}

abbrev loss_of : ℤ → ℕ → ℕ → Loss
loss_of z k t = record { loss = z; scenario = k; day = t }

-- the dates from Monday 2024-01-01 on
abbrev week : List (List ℕ)
week = codes "2024-01-01" ∷ codes "2024-01-02" ∷ codes "2024-01-03" ∷ codes "2024-01-04" ∷ codes "2024-01-05" ∷ codes "2024-01-08" ∷ codes "2024-01-09" ∷ []

-- four and five ninths of a security that two scenarios value against each other
crossing-report : rows_text (closes_records crossing week (plan_of crossing (record { den = pos 9; amounts = numbers (4 ∷ 5 ∷ []) })) 0
    (loss_of (pos 48) 0 3 ∷ loss_of (pos 48) 1 3 ∷ loss_of (pos 0) 0 0 ∷ loss_of (pos 0) 1 0 ∷ loss_of (negsuc 11) 1 1 ∷ []))
    ≡ codes "report,closes\nloss,16,3\nmargin,16,3\ncharge,6\nclose,2024-01-02,IND,position,4,9\nclose,2024-01-03,IND,position,5,9\nlimit,2024-01-02,IND,4,9,1\nlimit,2024-01-03,IND,5,9,1\nledger,A,2024-01-01,0,1,0,1\nledger,A,2024-01-02,32,9,32,9\nledger,A,2024-01-03,10,9,14,3\nledger,A,2024-01-04,-10,1,-16,3\ntop,1,A,2024-01-04,16,3\ntop,2,B,2024-01-04,16,3\ntop,3,A,2024-01-01,0,1\ntop,4,B,2024-01-01,0,1\ntop,5,B,2024-01-02,-4,3\nend\n"
unfolding sum_below total greatest_to has least_below below days_to each working_dates open_days open_day_before gcd reduce digits
crossing-report = refl

-- ten of a future in two tiers
deep-report : rows_text (closes_records deep week (plan_of deep (record { den = pos 1; amounts = numbers (6 ∷ 4 ∷ []) })) 0
    (loss_of (pos 112) 0 2 ∷ loss_of (pos 0) 0 0 ∷ loss_of (pos 0) 0 1 ∷ []))
    ≡ codes "report,closes\nloss,112,1\nmargin,112,1\ncharge,112\nclose,2024-01-02,IND,position,1,6,1\nclose,2024-01-02,IND,position,2,4,1\nlimit,2024-01-02,IND,1,6,1,6\nlimit,2024-01-02,IND,2,4,1,10\nledger,DOWN,2024-01-01,0,1,0,1\nledger,DOWN,2024-01-02,0,1,0,1\nledger,DOWN,2024-01-03,-112,1,-112,1\ntop,1,DOWN,2024-01-03,112,1\ntop,2,DOWN,2024-01-01,0,1\ntop,3,DOWN,2024-01-02,0,1\nend\n"
unfolding sum_below total greatest_to has least_below below days_to each working_dates open_days open_day_before gcd reduce digits
deep-report = refl

-- on its expiry a future closes without a limit
expiring-closes : rows_text (close_records expiring week (plan_of expiring (record { den = pos 1; amounts = numbers (10 ∷ []) }))) ≡ codes "close,2024-01-02,IND,position,10,1\n"
unfolding below days_to each gcd reduce digits
expiring-closes = refl

expiring-limits : limit_records expiring week (plan_of expiring (record { den = pos 1; amounts = numbers (10 ∷ []) })) ≡ []
unfolding below days_to each
expiring-limits = refl

-- a hundred of a future with a limit of ten on each of five days
abbrev tight : CaseView
tight = one_position 5 6 (instrument_of Future 1 0) (tier_of 0 (10 ∷ 10 ∷ 10 ∷ 10 ∷ 10 ∷ []) ∷ []) 100
    (codes "FLAT" ∷ []) (numbers (100 ∷ 100 ∷ 100 ∷ 100 ∷ 100 ∷ 100 ∷ 100 ∷ []) ∷ []) (numbers (0 ∷ 0 ∷ 0 ∷ 0 ∷ 0 ∷ 0 ∷ 0 ∷ []))

tight-report : rows_text (cannot_records tight week (record {
  den = pos 2;
  scenario = numbers (0 ∷ 0 ∷ 0 ∷ 0 ∷ 0 ∷ 0 ∷ 0 ∷ []);
  limit = numbers (2 ∷ 2 ∷ 2 ∷ 2 ∷ 2 ∷ []);
  pool = [];
  full = numbers (2 ∷ []);
})) ≡ codes "report,cannot\nshort,50,1\nfull,IND,position,1,1\nlimit,2024-01-02,IND,1,1\nlimit,2024-01-03,IND,1,1\nlimit,2024-01-04,IND,1,1\nlimit,2024-01-05,IND,1,1\nlimit,2024-01-08,IND,1,1\nend\n"
unfolding sum_below total below days_to each gcd reduce digits
tight-report = refl

-- of equal losses that of the earlier scenario comes first, though its day is later, and then that of the earlier day
equal-by-scenario : ranking (loss_of (pos 48) 0 3) (loss_of (pos 48) 1 2) ≡ Less
equal-by-scenario = refl

equal-by-day : ranking (loss_of (pos 48) 0 2) (loss_of (pos 48) 0 3) ≡ Less
equal-by-day = refl

greater-first : ranking (loss_of (pos 49) 1 3) (loss_of (pos 48) 0 2) ≡ Less
greater-first = refl
