-- The first faulty of the records of a text, and what a text states unless there is one. A format judges each record by
-- the sound ones before it and asks for an end; its faults and their codes are its own.
use Rattle.std.specs.Prelude.{◌≡◌, ℕ, zero, suc, List, [], ◌∷◌, ◌++◌, length, Bool, true, false, Option, Some, None, Result, Ok, Err}
use Rattle.core_rows.specs.Names.{Record}

-- How a format judges its records: the fault of a record after others, whether records end, and the faults of a text
-- that has no record and of one that has no end.
pub record Judge (X : Type 0) : Type 0 where
  pub fault_of : List Record → Record → Option X
  pub has_ended : List Record → Bool
  pub not_begun : X
  pub not_ended : X

-- a faulty record by its number, from 1, and its fault
abbrev pub Faulty : Type 0 → Type 0
Faulty X = ℕ × X

-- What is missing after so many sound records: the first, or the end. It has the number of the record that is missing.
abbrev pub missing_after : {X : Type 0} → ℕ → Bool → X → X → Option (Faulty X)
missing_after zero ended not_begun not_ended = Some (1, not_begun)
missing_after (suc n) true not_begun not_ended = None
missing_after (suc n) false not_begun not_ended = Some (suc (suc n), not_ended)

abbrev pub missing_end : {X : Type 0} → Judge X → List Record → Option (Faulty X)
missing_end j rs = missing_after (length rs) (j.has_ended rs) j.not_begun j.not_ended

-- the first fault of the records, where these came before
unfoldable pub first_fault_after : {X : Type 0} → Judge X → List Record → List Record → Option (Faulty X)
first_fault_after j earlier [] = missing_end j earlier
first_fault_after j earlier (r ∷ rs) =
    elim (j.fault_of earlier r) [ Some fault ↦ Some (suc (length earlier), fault) | None ↦ first_fault_after j (earlier ++ (r ∷ [])) rs ]

abbrev pub first_fault : {X : Type 0} → Judge X → List Record → Option (Faulty X)
first_fault j rs = first_fault_after j [] rs

-- what is stated where no record is faulty, else the number of the first faulty one and the code of its fault
abbrev pub unless_faulty : {V X : Type 0} → (X → ℕ) → Option (Faulty X) → V → Result V (ℕ × ℕ)
unless_faulty code None v = Ok v
unless_faulty code (Some faulty) v = Err (faulty.0, code faulty.1)

-- a number and a code are those of the faulty record
abbrev pub IsFaulty : {X : Type 0} → (X → ℕ) → ℕ → ℕ → Option (Faulty X) → Type 0
IsFaulty {X} code row number faulty = (fault : X) × (faulty ≡ Some (row, fault)) × (number ≡ code fault)
