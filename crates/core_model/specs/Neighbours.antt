-- What a case and its neighbours share beyond their closings.
use Rattle.std.specs.Prelude.{◌≡◌, ℕ, ℤ}
use Rattle.core_book.specs.View.{CaseView}
use Rattle.core_book.specs.Neighbours.{IsNeighbour}
use Rattle.core_model.specs.declared.cert.Weights.{Weights}
use Rattle.core_model.specs.Bounds.{unit, AreWeights}

-- A unit of a line pays the same in neighbours.
abbrev pub NeighboursPayAlike : Type 0
NeighboursPayAlike = (c b : CaseView) → IsNeighbour c b → (l k u j t : ℕ) → unit b l k u j t ≡ unit c l k u j t

-- The weights of a case are weights of its neighbours: all that is asked of them speaks of what neighbours share.
abbrev pub NeighboursShareWeights : Type 0
NeighboursShareWeights =
    (c b : CaseView) (w : Weights) (losses : ℤ) → IsNeighbour c b → AreWeights c w losses → AreWeights b w losses
