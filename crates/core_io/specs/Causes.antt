-- When a count of faults rose, and what a read gives where the bytes are told.
use Rattle.std.specs.Prelude.{◌≡◌, ℕ, ◌+◌, ◌-◌, ◌^◌, ◌<◌, ◌≤◌, min, List, length, take, drop, ⊤, Option, Some, None}

-- a count after one more: it stands still at the last value of a u64
abbrev pub next_count : ℕ → ℕ
next_count count = min (count + 1) (2 ^ 64 - 1)

-- a count is greater than before, or at the last value of a u64
abbrev pub Rose : ℕ → ℕ → Type 0
Rose before now = next_count before ≤ now

-- a read of n bytes from `at` on gives the bytes that are there, and none only at their end or without room
pub record GivesFrom (bytes : List ℕ) (at n : ℕ) (into : List ℕ) : Type 0 where
  pub bytes_are : take n into ≡ take n (drop at bytes)
  pub none_only_at_end : n ≡ 0 → 0 < length into → length bytes ≤ at

-- the same where the bytes are told
abbrev pub GivesIfTold : Option (List ℕ) → ℕ → ℕ → List ℕ → Type 0
GivesIfTold None at n into = ⊤
GivesIfTold (Some bytes) at n into = GivesFrom bytes at n into
