-- What the crate's laws say.
use Rattle.std.specs.Prelude.{◌≡◌, ℕ, length}
use Rattle.core_book.specs.View.{CaseView, line, tiers, tiers_of, cost, pays, counts, is_allowed}
use Rattle.core_book.specs.WellFormed.{IsCase}
use Rattle.core_book.specs.Edits.{IsEdit, applied}
use Rattle.core_book.specs.Neighbours.{bare_line, IsNeighbour}
use Rattle.core_book.specs.declared.edit.Edit.{Edit}

-- An edited case is a case, and a neighbour of the case.
abbrev pub EditedIsNeighbour : Type 0
EditedIsNeighbour = (c : CaseView) (edit : Edit) → IsCase c → IsEdit c edit → IsNeighbour c (applied c edit)

-- b has the days, instruments, members and prices of c, its lines but for their amounts, and its tiers but for
-- their limits; and what follows of them for each day is the same
pub record ClosesAlike (c b : CaseView) : Type 0 where
  pub horizon : b.horizon ≡ c.horizon
  pub last : b.last ≡ c.last
  pub instruments : b.instruments ≡ c.instruments
  pub members : b.members ≡ c.members
  pub scenarios : b.scenarios ≡ c.scenarios
  pub prices : b.prices ≡ c.prices
  pub pool_count : length b.pools ≡ length c.pools
  pub line_count : length b.lines ≡ length c.lines
  pub lines : (l : ℕ) → bare_line (line b l) ≡ bare_line (line c l)
  pub tiers : tiers b ≡ tiers c
  pub tiers_of : (i : ℕ) → tiers_of b i ≡ tiers_of c i
  pub costs : (i j : ℕ) → cost b i j ≡ cost c i j
  pub pays : (i v : ℕ) → pays b i v ≡ pays c i v
  pub counts : (i u : ℕ) → counts b i u ≡ counts c i u
  pub allowed : (l u j : ℕ) → is_allowed b l u j ≡ is_allowed c l u j

-- Neighbours do.
abbrev pub NeighboursCloseAlike : Type 0
NeighboursCloseAlike = (c b : CaseView) → IsNeighbour c b → ClosesAlike c b

-- And what is an edit of a case is one of each neighbour, so a list of edits may be made one after the other.
abbrev pub EditsStay : Type 0
EditsStay = (c b : CaseView) (edit : Edit) → IsNeighbour c b → IsEdit c edit → IsEdit b edit
