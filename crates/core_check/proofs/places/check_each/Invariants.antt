use Rattle.std.proofs.Common.{◌≡◌, ◌<◌, ℕ, Bool, map, Option}
use Rattle.core_sums.specs.Places.{below}
use Rattle.core_model.specs.Check.{Test, places_of, verdict_of, Passed}
use Rattle.core_check.specs.Steps.{judged}
use Rattle.core_check.proofs.places.check_each.Given as goal

-- the places so far pass, whatever tests they are
abbrev pub invariant-loop-i : goal.invariant-loop-i
invariant-loop-i g l =
    (tests : ℕ → Test) → ((i : ℕ) (r : Option Bool) → i < l.count → goal.F-post g l.holds i r → r ≡ judged (tests i))
    → verdict_of (places_of l.condition l.first (map tests (below l.i))) ≡ Passed
