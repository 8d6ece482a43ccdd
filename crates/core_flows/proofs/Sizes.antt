-- How large a tier's cost, the products of 64 bits and the fixed cash of a case are.
use Rattle.std.proofs.Common.{◌≡◌, sym, ◌∙◌, ap, ℕ, zero, suc, ◌+◌, ◌-◌, ◌*◌, ◌^◌, ◌<◌, ◌≤◌, inl, inr, length, ℤ, pos, ◌+ℤ◌, ◌*ℤ◌, arith, rules, Bool, true, false, unsigned_abs, FitsSigned, w64, if◌then◌else◌}
use Rattle.std.proofs.lemmas.Int.{ints, unsigned_abs-mul, fits_signed_from_abs}
use Rattle.std.proofs.lemmas.Bool.{cases_lt}
use Rattle.std.proofs.lemmas.List.{get_or_past}
use mir.Syntax.{w128}
use Rattle.std.proofs.Math.Nat.{mul-le-mul}
use Rattle.core_sums.specs.Sums.{sum_below}
use Rattle.core_sums.specs.Places.{row_at}
use Rattle.core_sums.proofs.SumLaws.{sum_below-more}
use Rattle.core_sums.proofs.Within128.{abs-within}
use Rattle.core_book.specs.View.{CaseView, cost, cash, pays, no_tier}
use Rattle.core_book.specs.WellFormed.{IsCase}
use Rattle.core_book.proofs.Depth.{depth-kept}
use Rattle.core_model.specs.Closing.{is_by}
use Rattle.core_flows.specs.Units.{last_paid, marked_to}
use Rattle.core_flows.proofs.Telescope.{day_before-le}

-- the cost of a tier; one that the instrument does not have costs nothing
pub cost-within : (c : CaseView) (i j : ℕ) → IsCase c → i < length c.instruments → unsigned_abs (cost c i j) ≤ 10 ^ 12
cost-within c i j kept known = elim (cases_lt (j - 1) (length (row_at c.depth i))) [
  | inl has ↦
      let here = ((depth-kept c i kept known).each (j - 1) no_tier has).cost in
      abs-within (cost c i j) (10 ^ 12) (omega (arith, ints, here.0)) here.1
  | inr past ↦
      let none : cost c i j ≡ pos 0 = ap (λ x. x.cost) (get_or_past (row_at c.depth i) (j - 1) no_tier past) in
      omega (arith, ints, none)
]

-- the day up to which marks are paid is a house day
pub marked-within : (c : CaseView) (i u t : ℕ) → u ≤ c.last → marked_to c i u t ≤ c.last
marked-within c i u t within = by_test (is_by (pays c i u) t)
  where
    by_test : (b : Bool) → (if b then u else last_paid c i t) ≤ c.last
    by_test true = within
    by_test false = day_before-le (λ v. is_by (pays c i v) t) c.last

-- the fixed cash of so many days
pub cash-sum-within : (c : CaseView) (n : ℕ) → IsCase c → n ≤ suc c.last → unsigned_abs (sum_below n (cash c)) ≤ n * 10 ^ 15
unfolding sum_below
cash-sum-within c zero kept within = omega arith
cash-sum-within c (suc n) kept within =
    let rest = cash-sum-within c n kept (omega (arith, within)) in
    let here = kept.cash.1 n (pos 0) (omega (arith, kept.cash.0, within)) in
    let one : unsigned_abs (cash c n) ≤ 10 ^ 15 = abs-within (cash c n) (10 ^ 15) (omega (arith, ints, here.0)) here.1 in
    omega (arith, ints, rest, one)

-- what 128 bits keep
pub product-fits : (x y : ℤ) → FitsSigned w64 x → FitsSigned w64 y → FitsSigned w128 (x *ℤ y)
product-fits x y first second =
    let left : unsigned_abs x ≤ 2 ^ 63 = abs-of x first in
    let right : unsigned_abs y ≤ 2 ^ 63 = abs-of y second in
    let bound : unsigned_abs x * unsigned_abs y ≤ 2 ^ 63 * 2 ^ 63 = mul-le-mul left right in
    let small : unsigned_abs (x *ℤ y) < 2 ^ 127 = omega (arith, unsigned_abs-mul x y, bound) in
    fits_signed_from_abs w128 (x *ℤ y) small
  where
    abs-of : (z : ℤ) → FitsSigned w64 z → unsigned_abs z ≤ 2 ^ 63
    abs-of z fits = search (rules, fits)

-- and the fixed cash of the house days
pub cash-sum-fits : (c : CaseView) (n : ℕ) → IsCase c → n ≤ suc c.last → FitsSigned w128 (sum_below n (cash c))
cash-sum-fits c n kept within =
    let last = kept.last.1 in
    let bound = cash-sum-within c n kept within in
    let few : n * 10 ^ 15 ≤ 41 * 10 ^ 15 = omega (arith, within, last) in
    let small : unsigned_abs (sum_below n (cash c)) < 2 ^ 127 = omega (arith, bound, few) in
    fits_signed_from_abs w128 (sum_below n (cash c)) small

-- the fixed cash of one day more
pub cash-sum-more : (c : CaseView) (n : ℕ) (s z : ℤ) → s ≡ sum_below n (cash c) → z ≡ cash c n → s +ℤ z ≡ sum_below (n + 1) (cash c)
cash-sum-more c n s z before here =
    ap (λ x. x +ℤ z) before ∙ ap (λ x. sum_below n (cash c) +ℤ x) here ∙ sym (sum_below-more n (cash c))
