-- Cases that differ in amounts, limits, caps and fixed cash alone.
use Rattle.std.specs.Prelude.{◌≡◌, [], map, pos}
use Rattle.core_book.specs.View.{CaseView, TierView}
use Rattle.core_book.specs.WellFormed.{IsCase}
use Rattle.core_book.specs.declared.parts.Line.{Line}
use Rattle.core_book.specs.declared.parts.Pool.{Pool}

-- a line without its amount; its sign stays
abbrev pub bare_line : Line → Line
bare_line x = record x { amount = pos 0 }

-- a tier without its limits
abbrev pub bare_tier : TierView → TierView
bare_tier x = record x { limits = [] }

-- a pool without its cap
abbrev pub bare_pool : Pool → Pool
bare_pool x = record x { cap = pos 0 }

-- a case without all these, and without its fixed cash
abbrev pub bare_case : CaseView → CaseView
bare_case c = record c {
  lines = map bare_line c.lines;
  depth = map (map bare_tier) c.depth;
  pools = map bare_pool c.pools;
  cash = [];
}

-- b is a case, and differs from c in these numbers alone
pub record IsNeighbour (c b : CaseView) : Type 0 where
  pub kept : IsCase b
  pub same : bare_case b ≡ bare_case c
