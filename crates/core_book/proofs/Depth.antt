-- How many tiers a case and its instruments have.
use Rattle.std.proofs.Common.{ℕ, zero, suc, ◌<◌, ◌≤◌, max, List, [], ◌∷◌, length, fold, arith, le_refl}
use Rattle.std.specs.List.{All}
use Rattle.core_sums.specs.Places.{row_at}
use Rattle.core_book.specs.View.{CaseView, TierView, tiers, tiers_of}
use Rattle.core_book.specs.WellFormed.{IsCase, AreTiers}

-- the tiers of an instrument keep what tiers keep
pub depth-kept : (c : CaseView) (i : ℕ) → IsCase c → i < length c.instruments → AreTiers c.horizon (row_at c.depth i)
depth-kept c i kept below = kept.depth.1 i [] (omega (arith, kept.depth.0, below))

-- an instrument has one tier at least, and four at most
pub some-tiers : (c : CaseView) (i : ℕ) → IsCase c → i < length c.instruments → 1 ≤ tiers_of c i
some-tiers c i kept below = (depth-kept c i kept below).count.0

pub few-tiers : (c : CaseView) (i : ℕ) → IsCase c → i < length c.instruments → tiers_of c i ≤ 4
few-tiers c i kept below = (depth-kept c i kept below).count.1

-- the greatest length of lists is at least what it begins with, and each length
greatest : ℕ → List (List TierView) → ℕ
greatest n xss = fold (λ m xs. max m (length xs)) n xss

from-start : (n : ℕ) (xss : List (List TierView)) → n ≤ greatest n xss
unfolding greatest
from-start n [] = le_refl n
from-start n (xs ∷ xss) = omega (arith, from-start (max n (length xs)) xss)

at-least : (n : ℕ) (xss : List (List TierView)) (i : ℕ) → i < length xss → length (row_at xss i) ≤ greatest n xss
unfolding greatest
at-least n [] i within = elim within [ ]
at-least n (xs ∷ xss) zero within = omega (arith, from-start (max n (length xs)) xss)
at-least n (xs ∷ xss) (suc i) within = at-least (max n (length xs)) xss i (omega (arith, within))

-- and at most what bounds them all
at-most : (n m : ℕ) (xss : List (List TierView)) → n ≤ m → All (λ xs. length xs ≤ m) xss → greatest n xss ≤ m
unfolding greatest
at-most n m [] start each = start
at-most n m (xs ∷ xss) start each =
    at-most (max n (length xs)) m xss (omega (arith, start, each 0 [] (omega arith))) (λ i d within. each (suc i) d (omega (arith, within)))

-- the case has one tier at least, as many as each instrument, and four at most
pub some-depth : (c : CaseView) → 1 ≤ tiers c
unfolding greatest
some-depth c = from-start 1 c.depth

pub within-depth : (c : CaseView) (i : ℕ) → IsCase c → i < length c.instruments → tiers_of c i ≤ tiers c
unfolding greatest
within-depth c i kept below = at-least 1 c.depth i (omega (arith, kept.depth.0, below))

pub few-depth : (c : CaseView) → IsCase c → tiers c ≤ 4
unfolding greatest
few-depth c kept = at-most 1 4 c.depth (omega arith) (λ i d within. (kept.depth.1 i d within).count.1)
