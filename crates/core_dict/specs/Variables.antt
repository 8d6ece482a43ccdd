-- That each variable has one place, told of the two lists of them.
use Rattle.std.specs.Prelude.{◌≡◌, ℕ, zero, suc, ◌+◌, ◌<◌, ◌≤◌, ◌==◌, ◌||◌, Bool, true, false, List, length, get_or}
use Rattle.fractions.specs.Fraction.{zero_q}
use Rattle.core_dict.specs.Dictionary.{Dictionary, AreApart, AreNumbered}

-- whether v is among the first n numbers of f
abbrev pub is_among : ℕ → (ℕ → ℕ) → ℕ → Bool
is_among zero f v = false
is_among (suc n) f v = f n == v || is_among n f v

-- a dictionary of these variables whose fractions are all 0
abbrev pub of_variables : List ℕ → List ℕ → Dictionary
of_variables basic nonbasic = record {
  rows = length basic;
  cols = length nonbasic;
  basic = λ i. get_or basic i 0;
  nonbasic = λ j. get_or nonbasic j 0;
  value = λ i. zero_q;
  entry = λ i j. zero_q;
  cost = λ j. zero_q;
}

-- each variable from 1 to the number of places has one of them
pub record HaveVariables (basic nonbasic : List ℕ) : Type 0 where
  pub apart : AreApart (of_variables basic nonbasic)
  pub numbered : AreNumbered (of_variables basic nonbasic) (length nonbasic + length basic)
  pub placed : (v : ℕ) → 0 < v → v ≤ length nonbasic + length basic
      → is_among (length basic) (λ i. get_or basic i 0) v
      || is_among (length nonbasic) (λ j. get_or nonbasic j 0) v ≡ true
