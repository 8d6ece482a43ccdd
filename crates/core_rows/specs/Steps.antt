-- The first fault of a record, over the forms and the faults of any format: steps in order, the first of which that
-- fails gives the fault, and tests of the fields by their forms, from left to right.
use Rattle.std.specs.Prelude.{ℕ, suc, List, [], ◌∷◌, length, drop, Bool, true, false, ◌==◌, Option, Some, None}
use Rattle.std.specs.Option.{option_or}
use Rattle.core_rows.specs.Names.{Record}

-- a fault where the test fails
abbrev pub fault_unless : {X : Type 0} → Bool → X → Option X
fault_unless true fault = None
fault_unless false fault = Some fault

-- the first fault of a list of steps
unfoldable pub first_of : {X : Type 0} → List (Option X) → Option X
first_of [] = None
first_of (x ∷ xs) = option_or x (first_of xs)

-- the fault of a record that has not one field for each form, and one more
abbrev pub count_step : {F X : Type 0} → X → List F → Record → Option X
count_step fault fs r = fault_unless (length r == suc (length fs)) fault

-- a test of each field by its form
unfoldable pub by_form : {F X : Type 0} → (F → List ℕ → Option X) → List F → Record → List (Option X)
by_form test [] r = []
by_form test (f ∷ fs) [] = []
by_form test (f ∷ fs) (word ∷ r) = test f word ∷ by_form test fs r

-- the fault of a record's fields: of their number, else of their forms, else of their ranges
abbrev pub fields_fault : {F X : Type 0} → X → (F → List ℕ → Option X) → (F → List ℕ → Option X) → List F → Record → Option X
fields_fault miscounted form range fs r =
    first_of
    (count_step miscounted fs r
    ∷ first_of (by_form form fs (drop 1 r))
    ∷ first_of (by_form range fs (drop 1 r))
    ∷ [])
