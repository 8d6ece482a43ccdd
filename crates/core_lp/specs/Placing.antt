-- The certificate that numbers of a case's programme give. Those of the columns are a calendar and its loss, those
-- of the rows are weights, and each stands at the place that its column or row names.
use Rattle.std.specs.Prelude.{◌≡◌, ℕ, zero, suc, ◌<◌, ℤ, pos, ◌-ℤ◌, ◌*ℤ◌, neg_ℤ, ◌≤ℤ◌, Bool, false, ◌&&◌, ◌==◌}
use Rattle.std.specs.Prelude.{List, length, map, unsigned_abs}
use Rattle.std.specs.List.{All}
use Rattle.core_sums.specs.Places.{below, at}
use Rattle.core_sums.specs.Widths.{IsWithin128}
use Rattle.fractions.specs.Fraction.{Fraction}
use Rattle.fractions.specs.Common.{common_den}
use Rattle.core_book.specs.View.{CaseView, line}
use Rattle.core_book.specs.declared.parts.Side.{Side}
use Rattle.core_book.specs.declared.parts.Side.TheVariants.{Position, Collateral}
use Rattle.core_model.specs.declared.cert.Calendar.{Calendar}
use Rattle.core_model.specs.declared.cert.Weights.{Weights}
use Rattle.core_model.specs.declared.cert.Cert.{Cert}
use Rattle.core_model.specs.declared.cert.Cert.TheVariants.{Closes, Cannot}
use Rattle.core_model.specs.Layout.{amount_count, scenario_count, limit_count, pool_count, row_at_place}
use Rattle.core_model.specs.Layout.{day_at_place, tier_at_place, pool_at_place, pool_day_at_place}
use Rattle.core_model.specs.Layout.{scenario_at_place, house_day_at_place}
use Rattle.core_model.specs.Closing.{line_count, fixed}
use Rattle.core_dict.specs.Dictionary.{Dictionary}
use Rattle.core_duals.specs.Lists.{primal_of, duals_of, farkas_of, over_common, CommonLeaves}
use Rattle.core_duals.specs.declared.scaled.Scaled.{Scaled}
use Rattle.core_lp.specs.declared.names.Col.TheVariants as col
use Rattle.core_lp.specs.declared.certificate.Parts.{Parts}
use Rattle.core_lp.specs.declared.certificate.Parts.TheVariants as parts
use Rattle.core_lp.specs.declared.names.RowName.{RowName}
use Rattle.core_lp.specs.declared.names.RowName.TheVariants as row
use Rattle.core_lp.specs.CaseProgramme.{columns, row_names}
use Rattle.core_lp.specs.ByName.{beside, of_column}

-- ---- numbers by name and by place
-- whether two rows have one name
abbrev pub same_row : RowName → RowName → Bool
same_row (row.Full l) (row.Full m) = l == m
same_row (row.Back l) (row.Back m) = l == m
same_row (row.Limit i u j) (row.Limit h v k) = (i == h) && (u == v) && (j == k)
same_row (row.Pool p u) (row.Pool q v) = (p == q) && (u == v)
same_row (row.Loss k t) (row.Loss h s) = (k == h) && (t == s)
same_row _ _ = false

-- the number of a row
abbrev pub of_row : CaseView → (ℕ → ℤ) → RowName → ℤ
of_row c f name = beside same_row name (row_names c) f

-- n numbers by place
abbrev pub by_place : ℕ → (ℕ → ℤ) → List ℤ
by_place n f = map f (below n)

-- numerators over a denominator
pub record Numerators : Type 0 where
  pub den : ℤ
  pub list : List ℤ

-- those of fractions, over their least common denominator
abbrev pub in_common : List Fraction → Numerators
in_common qs = record { den = pos (common_den qs); list = over_common qs }

-- ---- the calendar, from the values of the columns
abbrev pub calendar_placed : CaseView → Numerators → Calendar
calendar_placed c primal = record {
  den = primal.den;
  amounts = by_place (amount_count c) (λ n.
      of_column c (at primal.list) (col.Close (row_at_place c n) (day_at_place c n) (tier_at_place c n)));
}

-- the fixed cash of day 0 over the denominator, and the loss: the loss column less that
abbrev pub fixed_placed : CaseView → Numerators → ℤ
fixed_placed c primal = fixed c 0 *ℤ primal.den

abbrev pub loss_placed : CaseView → Numerators → ℤ
loss_placed c primal = of_column c (at primal.list) col.Loss -ℤ fixed_placed c primal

-- ---- the weights, from numbers f of the rows
-- of a scenario on a day: that of its loss row; of day 0 the first scenario has a number and the others none
abbrev pub scenario_placed : CaseView → ℤ → (ℕ → ℤ) → ℕ → ℕ → ℤ
scenario_placed c first f k (suc t) = of_row c f (row.Loss k (suc t))
scenario_placed c first f zero zero = first
scenario_placed c first f (suc k) zero = pos 0

-- of a line: a position's back row less its full row, and of collateral minus its full row
abbrev pub full_placed : CaseView → (ℕ → ℤ) → ℕ → Side → ℤ
full_placed c f l Position = of_row c f (row.Back l) -ℤ of_row c f (row.Full l)
full_placed c f l Collateral = neg_ℤ (of_row c f (row.Full l))

-- all of them over a denominator
abbrev pub weights_placed : CaseView → ℤ → (ℕ → ℕ → ℤ) → (ℕ → ℤ) → Weights
weights_placed c den scenario f = record {
  den = den;
  scenario = by_place (scenario_count c) (λ n. scenario (scenario_at_place c n) (house_day_at_place c n));
  limit = by_place (limit_count c)
      (λ n. of_row c f (row.Limit (row_at_place c n) (day_at_place c n) (tier_at_place c n)));
  pool = by_place (pool_count c) (λ n. of_row c f (row.Pool (pool_at_place c n) (pool_day_at_place c n)));
  full = by_place (line_count c) (λ l. full_placed c f l (line c l).side);
}

-- those of costs, of which the first is that of the loss column, and the others are those of the rows' slacks
abbrev pub dual_weights : CaseView → Numerators → Weights
dual_weights c duals =
    weights_placed c duals.den (scenario_placed c (at duals.list 0) (λ i. at duals.list (suc i)))
    (λ i. at duals.list (suc i))

-- and those of the coefficients of the rows' slacks, with no scenario's
abbrev pub farkas_weights : CaseView → Numerators → Weights
farkas_weights c farkas = weights_placed c farkas.den (λ k t. pos 0) (at farkas.list)

-- ---- the certificate
-- where there is a solution, from values and costs
abbrev pub closes_placed : CaseView → Numerators → Numerators → Cert
closes_placed c primal duals =
    Closes (calendar_placed c primal) (loss_placed c primal) (dual_weights c duals)

-- and where there is none, from a row's coefficients
abbrev pub cannot_placed : CaseView → Numerators → Cert
cannot_placed c farkas = Cannot (farkas_weights c farkas)

-- the product or the difference of the loss is above a greatest number
pub data LossLeaves (most : ℕ) (c : CaseView) (primal : Numerators) : Type 0 where
  Product : most < unsigned_abs (fixed_placed c primal) → LossLeaves most c primal
  Difference : most < unsigned_abs (loss_placed c primal) → LossLeaves most c primal

-- ---- the certificate of a last dictionary
-- without a negative value
abbrev pub closes_cert : CaseView → Dictionary → Cert
closes_cert c d = closes_placed c (in_common (primal_of d)) (in_common (duals_of d))

-- with a row that has a negative value and no negative entry
abbrev pub cannot_cert : CaseView → Dictionary → ℕ → Cert
cannot_cert c d r = cannot_placed c (in_common (farkas_of d r))

-- one of its lists leaves, or the loss
pub data ClosesLeaves (most : ℕ) (c : CaseView) (d : Dictionary) : Type 0 where
  Primal : CommonLeaves most (primal_of d) → ClosesLeaves most c d
  Duals : CommonLeaves most (duals_of d) → ClosesLeaves most c d
  Loss : LossLeaves most c (in_common (primal_of d)) → ClosesLeaves most c d

-- its one list leaves
abbrev pub CannotLeaves : ℕ → Dictionary → ℕ → Type 0
CannotLeaves most d r = CommonLeaves most (farkas_of d r)

-- ---- the certificate of given numbers
-- the numerators of a list over one denominator
abbrev pub numerators_of : Scaled → Numerators
numerators_of s = record { den = s.den; list = s.nums }

-- of the numbers of a last dictionary
abbrev pub placed : CaseView → Parts → Cert
placed c (parts.Optimal primal duals) = closes_placed c (numerators_of primal) (numerators_of duals)
placed c (parts.Cannot farkas) = cannot_placed c (numerators_of farkas)

-- the loss of a calendar leaves; a certificate that refuses has none
abbrev pub PlacedLeaves : ℕ → CaseView → Parts → Type 0
PlacedLeaves most c (parts.Optimal primal duals) = LossLeaves most c (numerators_of primal)
PlacedLeaves most c (parts.Cannot farkas) = ⊥

-- so many numbers that 128 bits keep, over a denominator of 1 at least
pub record AreNumerators (n : ℕ) (x : Numerators) : Type 0 where
  pub above : pos 1 ≤ℤ x.den
  pub den : IsWithin128 x.den
  pub count : length x.list ≡ n
  pub kept : All IsWithin128 x.list

-- and none of them is negative
pub record ArePositive (n : ℕ) (x : Numerators) : Type 0 where
  pub numerators : AreNumerators n x
  pub signs : All (λ z. pos 0 ≤ℤ z) x.list

-- the numbers of a case's programme: one for each column, for the loss column and each row, or for each row
abbrev pub ArePartsOf : CaseView → Parts → Type 0
ArePartsOf c (parts.Optimal primal duals) =
    AreNumerators (length (columns c)) (numerators_of primal)
    × ArePositive (suc (length (row_names c))) (numerators_of duals)
ArePartsOf c (parts.Cannot farkas) = ArePositive (length (row_names c)) (numerators_of farkas)
