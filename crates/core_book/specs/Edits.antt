-- An edit of a case, and the case after it.
use Rattle.std.specs.Prelude.{ℕ, ◌-◌, ◌<◌, ◌≤◌, List, length, get_or, set, ℤ, pos}
use Rattle.core_sums.specs.Places.{row_at}
use Rattle.core_book.specs.View.{CaseView, TierView, no_tier, line, pool, tier, tiers_of}
use Rattle.core_book.specs.Limits.{most_amount, least_cash, most_cash}
use Rattle.core_book.specs.WellFormed.{IsIn}
use Rattle.core_book.specs.declared.edit.Edit.{Edit}
use Rattle.core_book.specs.declared.edit.Edit.TheVariants.{Limit, Cap, Line, Cash}

-- an edit speaks of what the case has, and its amount is in the range of what it replaces
abbrev pub IsEdit : CaseView → Edit → Type 0
IsEdit c (Limit i u j amount) =
    (i < length c.instruments) × (1 ≤ u) × (u ≤ c.horizon) × (1 ≤ j) × (j ≤ tiers_of c i)
    × IsIn (pos 0) most_amount amount
IsEdit c (Cap p amount) = (p < length c.pools) × IsIn (pos 0) most_amount amount
IsEdit c (Line l amount) = (l < length c.lines) × IsIn (pos 1) most_amount amount
IsEdit c (Cash t amount) = (t ≤ c.last) × IsIn least_cash most_cash amount

-- tiers by instrument: one of them, and another in its place
abbrev pub tier_at : List (List TierView) → ℕ → ℕ → TierView
tier_at depth i j = get_or (row_at depth i) (j - 1) no_tier

abbrev pub with_tier : List (List TierView) → ℕ → ℕ → TierView → List (List TierView)
with_tier depth i j x = set depth i (set (row_at depth i) (j - 1) x)

-- a tier with another limit on closing day u
abbrev pub with_limit : TierView → ℕ → ℤ → TierView
with_limit x u amount = record x { limits = set x.limits (u - 1) amount }

-- the case after an edit: that one number is replaced, and all else stays
abbrev pub applied : CaseView → Edit → CaseView
applied c (Limit i u j amount) =
    record c { depth = with_tier c.depth i j (with_limit (tier c i j) u amount) }
applied c (Cap p amount) = record c { pools = set c.pools p (record (pool c p) { cap = amount }) }
applied c (Line l amount) = record c { lines = set c.lines l (record (line c l) { amount = amount }) }
applied c (Cash t amount) = record c { cash = set c.cash t amount }
