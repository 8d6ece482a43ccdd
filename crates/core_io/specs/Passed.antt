-- What passed through a shelf or a sink, in order.
use Rattle.std.specs.Prelude.{◌≡◌, ℕ, Bool, true, nat_lt, List, [], ◌∷◌, ◌++◌, length, take}

-- bytes that passed: of which name, from which place on, and whether there was room for any
pub record Passed : Type 0 where
  pub name : List ℕ
  pub at : ℕ
  pub has_room : Bool
  pub bytes : List ℕ

-- the first n bytes of a room passed
abbrev pub passed : List ℕ → ℕ → List ℕ → ℕ → Passed
passed name at room n = record { name = name; at = at; has_room = nat_lt 0 (length room); bytes = take n room }

-- the bytes of all pieces, one after the other
abbrev pub all_bytes : List Passed → List ℕ
all_bytes [] = []
all_bytes (piece ∷ pieces) = piece.bytes ++ all_bytes pieces

-- Reads of a name that gave these bytes in all: the first from 0 on, each other one from where those before it ended.
pub data InARow (name : List ℕ) : List Passed → List ℕ → Type 0 where
  none : InARow name [] []
  one_more : (reads : List Passed) (bytes : List ℕ) (read : Passed) → InARow name reads bytes
      → read.name ≡ name → read.at ≡ length bytes
      → InARow name (reads ++ read ∷ []) (bytes ++ read.bytes)

-- the last of them had room and gave none, so that these are the bytes up to the end
pub record ReadsWhole (name : List ℕ) (reads : List Passed) (bytes : List ℕ) : Type 0 where
  pub before : List Passed
  pub last : Passed
  pub are : reads ≡ before ++ last ∷ []
  pub in_a_row : InARow name before bytes
  pub same_name : last.name ≡ name
  pub at_their_end : last.at ≡ length bytes
  pub had_room : last.has_room ≡ true
  pub gave_none : last.bytes ≡ []
