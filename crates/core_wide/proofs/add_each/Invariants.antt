use Rattle.std.proofs.Common.{◌≡◌, ◌<◌, ℕ, ℤ, List, FitsSigned, Option, Some}
use mir.Syntax.{w128}
use Rattle.core_wide.specs.Steps.{summed}
use Rattle.core_wide.proofs.Stepping.{summed_to}
use Rattle.core_wide.proofs.add_each.Given as goal

-- the sum so far, whatever terms the steps add
abbrev pub invariant-loop-i : goal.invariant-loop-i
invariant-loop-i g l =
    (numbers terms : ℕ → List ℤ)
    → ((sum : ℤ) (i : ℕ) (r : Option ℤ) → FitsSigned w128 sum → i < l.count → goal.F-post g l.add sum i r → r ≡ summed sum (numbers i) (terms i))
    → summed_to l.start numbers terms l.i ≡ Some l.total
