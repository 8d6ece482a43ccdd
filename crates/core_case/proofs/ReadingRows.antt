-- The records of a case are read one by one: the register has those before a place, which are sound.
use Rattle.std.proofs.Common.{◌≡◌, sym, ◌∙◌, refl, ap, subst, ℕ, ◌+◌, ◌<◌, ◌≤◌, List, [], ◌∷◌, ◌++◌, length, get_or, take, arith, Option, Some, None}
use Rattle.std.proofs.lemmas.List.{take_all, length-take-le}
use Rattle.core_rows.specs.Names.{Record}
use Rattle.core_rows.specs.FirstFault.{Faulty, missing_end}
use Rattle.core_rows.proofs.FirstFault.{IsSoundTo, row-faulty, row-sound, rows-end, sound-first, take-next}
use Rattle.core_case.specs.Codes.{code_of}
use Rattle.core_case.specs.Faults.{fault_of, first_fault, judge}
use Rattle.core_case.specs.Refusals.{IsFault}
use Rattle.core_case.specs.declared.faults.RecordFault.{RecordFault}
use Rattle.core_case.specs.declared.read.CaseFault.{CaseFault}
use Rattle.core_case.specs.declared.read.CaseFault.TheVariants.{Bad}

-- the register has the records up to a place, all of them sound
pub record IsReadTo (rows register : List Record) (i : ℕ) : Type 0 where
  pub are : register ≡ take i rows
  pub sound : IsSoundTo judge rows i

pub read-none : (rows register : List Record) → register ≡ [] → IsReadTo rows register 0
read-none rows register none = record { are = none; sound = sound-first judge rows }

-- the record at hand is judged by those before it
judged : (rows register : List Record) (i : ℕ) (row : Record) (o : Option RecordFault) → IsReadTo rows register i → fault_of register row ≡ o → fault_of (take i rows) row ≡ o
judged rows register i row o read here = ap (λ rs. fault_of rs row) (sym read.are) ∙ here

-- a sound record at hand is one more
pub read-more : (rows register more : List Record) (i : ℕ) (row : Record) → i < length rows → row ≡ get_or rows i row → IsReadTo rows register i
    → fault_of register row ≡ None → more ≡ register ++ (row ∷ []) → IsReadTo rows more (i + 1)
read-more rows register more i row within at read here grown = record {
  are = grown ∙ ap (λ rs. rs ++ (row ∷ [])) read.are ∙ take-next rows i row within at;
  sound = row-sound judge rows i row within at read.sound (judged rows register i row None read here);
}

-- how many were read
pub rows-count : (rows register : List Record) (i : ℕ) → i < length rows → IsReadTo rows register i → length register ≡ i
rows-count rows register i within read = ap length read.are ∙ length-take-le i rows (omega (arith, within))

-- at the end all were read, and the first fault is that of a missing end
pub rows-all : (rows register : List Record) (i : ℕ) → length rows ≤ i → IsReadTo rows register i → (register ≡ rows) × (first_fault rows ≡ missing_end judge rows)
rows-all rows register i past read = (read.are ∙ take_all i rows past, rows-end judge rows i past read.sound)

-- the answer names the faulty record and the code of its fault
pub bad-is : (answer : CaseFault) (faulty : Option (Faulty RecordFault)) (number : ℕ) (fault : RecordFault) → answer ≡ Bad number (code_of fault)
    → faulty ≡ Some (number, fault) → IsFault answer faulty
bad-is answer faulty number fault is first = subst (λ (x : CaseFault). IsFault x faulty) (sym is) (fault, first, refl)

-- a faulty record at hand is the first of all
pub bad-row : (answer : CaseFault) (rows register : List Record) (i count : ℕ) (row : Record) (fault : RecordFault) → i < length rows → row ≡ get_or rows i row
    → IsReadTo rows register i → fault_of register row ≡ Some fault → count ≡ length register → answer ≡ Bad (count + 1) (code_of fault) → IsFault answer (first_fault rows)
bad-row answer rows register i count row fault within at read here size is =
    bad-is answer (first_fault rows) (count + 1) fault is
    (row-faulty judge rows i row fault within at read.sound (judged rows register i row (Some fault) read here)
    ∙ ap (λ n. Some (n + 1, fault)) (sym (size ∙ rows-count rows register i within read)))
