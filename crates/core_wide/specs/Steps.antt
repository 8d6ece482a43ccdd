-- Sums that say when a number leaves 128 bits.
use Rattle.std.specs.Prelude.{◌≡◌, ℕ, ◌<◌, ℤ, ◌+ℤ◌, List, [], ◌∷◌, ◌++◌, true, false, if◌then◌else◌, FitsSigned, Option, Some, None}
use mir.Syntax.{w128}
use Rattle.core_sums.specs.Sums.{total, partial_sums}
use Rattle.core_sums.specs.Places.{below, each}
use Rattle.core_sums.specs.Widths.{most, leaves, any_leaves}

-- the number leaves 128 bits, or stays
abbrev pub Leaves : ℤ → Type 0
Leaves z = leaves most z ≡ true

abbrev pub Stays : ℤ → Type 0
Stays z = leaves most z ≡ false

-- A sum to which some terms are added one by one, or nothing where one of the sums on the way leaves, or one of the
-- numbers that the terms are made of.
unfoldable pub summed : ℤ → List ℤ → List ℤ → Option ℤ
summed start numbers terms = if any_leaves (numbers ++ partial_sums start terms) then None else Some (start +ℤ total terms)

-- the sum with one number, and with one that is a product
abbrev pub with_number : ℤ → ℤ → Option ℤ
with_number sum x = summed sum [] (x ∷ [])

abbrev pub with_product : ℤ → ℤ → Option ℤ
with_product sum x = summed sum (x ∷ []) (x ∷ [])

-- What so many steps answer one after the other, where each adds its terms to the sum.
abbrev pub AddsEach : (ℤ → ℕ → Option ℤ → Type 0) → ℤ → ℕ → Option ℤ → Type 0
AddsEach Step start count result =
    (numbers terms : ℕ → List ℤ)
    → ((sum : ℤ) (i : ℕ) (r : Option ℤ) → FitsSigned w128 sum → i < count → Step sum i r → r ≡ summed sum (numbers i) (terms i))
    → result ≡ summed start (each (below count) numbers) (each (below count) terms)
