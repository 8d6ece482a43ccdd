-- No limit of a case is negative.
use Rattle.std.proofs.Common.{sym, ℕ, ◌^◌, unsigned_abs, ◌-◌, ◌<◌, ◌≤◌, ◌⊎◌, inl, inr, ℤ, pos, ◌≤ℤ◌, List, []}
use Rattle.std.proofs.Common.{length, subst, arith}
use Rattle.std.proofs.lemmas.Int.{ints}
use Rattle.std.proofs.lemmas.Bool.{cases_lt}
use Rattle.std.proofs.lemmas.List.{get_or_past}
use Rattle.std.proofs.lemmas.List.Elements.{All-get_or}
use Rattle.std.specs.List.{All}
use Rattle.core_sums.specs.Places.{at, row_at}
use Rattle.core_book.specs.View.{CaseView, TierView, no_tier, tier, limit}
use Rattle.core_book.specs.WellFormed.{IsCase, IsTier, AreTiers, IsIn}
use Rattle.core_book.proofs.Depth.{depth-kept}
use Rattle.core_sums.proofs.Within128.{abs-within}

-- 0 is not negative
nought : pos 0 ≤ℤ pos 0
nought = omega (arith, ints)

-- of numbers that are in a range from 0 on none is negative, nor is what stands past their end
from_range : (high : ℤ) (xs : List ℤ) (n : ℕ) → All (IsIn (pos 0) high) xs → pos 0 ≤ℤ at xs n
from_range high xs n h = by (cases_lt n (length xs))
  where
    by : (n < length xs) ⊎ (length xs ≤ n) → pos 0 ≤ℤ at xs n
    by (inl l) = (All-get_or (IsIn (pos 0) high) xs n (pos 0) l h).0
    by (inr l) = subst (λ z. pos 0 ≤ℤ z) (sym (get_or_past xs n (pos 0) l)) nought

pub limit_not_negative : (c : CaseView) → IsCase c → (i u j : ℕ) → i < length c.instruments
    → pos 0 ≤ℤ limit c i u j
limit_not_negative c is i u j l = by (cases_lt (j - 1) (length (row_at c.depth i)))
  where
    same : i < length c.instruments → i < length c.depth
    same l = let e = is.depth.0 in omega (arith, l, e)

    tiers : AreTiers c.horizon (row_at c.depth i)
    tiers = All-get_or (AreTiers c.horizon) c.depth i [] (same l) is.depth.1

    by : (j - 1 < length (row_at c.depth i)) ⊎ (length (row_at c.depth i) ≤ j - 1) → pos 0 ≤ℤ limit c i u j
    by (inl m) =
        from_range _ (tier c i j).limits (u - 1)
        (All-get_or (IsTier c.horizon) (row_at c.depth i) (j - 1) no_tier m tiers.each).limits.1
    by (inr m) =
        subst (λ (t : TierView). pos 0 ≤ℤ at t.limits (u - 1))
        (sym (get_or_past (row_at c.depth i) (j - 1) no_tier m))
        (subst (λ z. pos 0 ≤ℤ z) (sym (get_or_past [] (u - 1) (pos 0) (omega arith))) nought)

-- and none is above 10^9
to_range : (high : ℤ) (xs : List ℤ) (n : ℕ) → pos 0 ≤ℤ high → All (IsIn (pos 0) high) xs → at xs n ≤ℤ high
to_range high xs n up h = by (cases_lt n (length xs))
  where
    by : (n < length xs) ⊎ (length xs ≤ n) → at xs n ≤ℤ high
    by (inl l) = (All-get_or (IsIn (pos 0) high) xs n (pos 0) l h).1
    by (inr l) = subst (λ z. z ≤ℤ high) (sym (get_or_past xs n (pos 0) l)) up

pub limit-small : (c : CaseView) → IsCase c → (i u j : ℕ) → i < length c.instruments → unsigned_abs (limit c i u j) ≤ 10 ^ 9
limit-small c is i u j l =
    abs-within (limit c i u j) (10 ^ 9) (let h = limit_not_negative c is i u j l in omega (arith, ints, h))
    (by (cases_lt (j - 1) (length (row_at c.depth i))))
  where
    by : (j - 1 < length (row_at c.depth i)) ⊎ (length (row_at c.depth i) ≤ j - 1) → limit c i u j ≤ℤ pos (10 ^ 9)
    by (inl m) =
        to_range (pos (10 ^ 9)) (tier c i j).limits (u - 1) (omega (arith, ints))
        (All-get_or (IsTier c.horizon) (row_at c.depth i) (j - 1) no_tier m (depth-kept c i is l).each).limits.1
    by (inr m) =
        subst (λ (t : TierView). at t.limits (u - 1) ≤ℤ pos (10 ^ 9))
        (sym (get_or_past (row_at c.depth i) (j - 1) no_tier m))
        (subst (λ z. z ≤ℤ pos (10 ^ 9)) (sym (get_or_past [] (u - 1) (pos 0) (omega arith))) (omega (arith, ints)))
