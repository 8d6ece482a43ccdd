-- What the answers of a check say.
use Rattle.std.specs.Prelude.{◌≡◌, ℕ, ◌<◌, Bool, true, false, List, map, Option, Some, None, Result, Ok, Err}
use Rattle.core_sums.specs.Places.{below}
use Rattle.core_model.specs.declared.condition.Condition.{Condition}
use Rattle.core_model.specs.Conditions.{number_of}
use Rattle.core_model.specs.Check.{Test, Place, places_of, Verdict, Passed, Failed, Wide, verdict_of}
use Rattle.core_check.specs.declared.fault.CheckFault.{CheckFault}
use Rattle.core_check.specs.declared.fault.CheckFault.TheVariants.{No, TooWide, NoMemory}
use Rattle.core_check.specs.Steps.{judged}

-- a fault names the first place that does not hold, or whose numbers leave 128 bits; want of memory says nothing
abbrev pub Refuses : Verdict → CheckFault → Type 0
Refuses v (No condition place) = v ≡ Failed condition place
Refuses v (TooWide condition place) = v ≡ Wide condition place
Refuses v NoMemory = Unit {0}

-- the answer that is a verdict
abbrev pub answer_of : Verdict → Result (Unit {0}) CheckFault
answer_of Passed = Ok tt
answer_of (Failed condition place) = Err (No condition place)
answer_of (Wide condition place) = Err (TooWide condition place)

-- and the answer to some places
abbrev pub answer : List Place → Result (Unit {0}) CheckFault
answer places = answer_of (verdict_of places)

-- the answer of one place: to a test that holds, that does not hold, and of which a number leaves
abbrev pub answer_at : Condition → ℕ → Option Bool → Result (Unit {0}) CheckFault
answer_at condition place (Some true) = Ok tt
answer_at condition place (Some false) = Err (No (number_of condition) place)
answer_at condition place None = Err (TooWide (number_of condition) place)

-- What is answered to a condition of so many places, each of which is judged by a test.
abbrev pub ChecksEach : (ℕ → Option Bool → Type 0) → Condition → ℕ → ℕ → Result (Unit {0}) CheckFault → Type 0
ChecksEach Judge condition first count result =
    (tests : ℕ → Test) → ((i : ℕ) (r : Option Bool) → i < count → Judge i r → r ≡ judged (tests i))
    → result ≡ answer (places_of condition first (map tests (below count)))
