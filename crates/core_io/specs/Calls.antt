-- The calls of a shelf or a sink in memory, some of which are to fail.
use Rattle.std.specs.Prelude.{ℕ, Bool, ◌==◌, List, [], ◌∷◌, ◌++◌}
use Rattle.std.specs.List.{list_any}
use Rattle.core_io.specs.Causes.{next_count}

-- how many calls were made, and the numbers, counted from 1, of those that fail
pub record CallsView : Type 0 where
  pub made : ℕ
  pub failing : List ℕ

-- no call was made, and none fails
abbrev pub no_calls : CallsView
no_calls = record { made = 0; failing = [] }

-- whether the next call fails
abbrev pub fails_next : CallsView → Bool
fails_next calls = list_any (λ call. call == next_count calls.made) calls.failing

-- one call later
abbrev pub after_call : CallsView → CallsView
after_call calls = record calls { made = next_count calls.made }

-- the call of that number fails too
abbrev pub with_failing : CallsView → ℕ → CallsView
with_failing calls call = record calls { failing = calls.failing ++ call ∷ [] }
