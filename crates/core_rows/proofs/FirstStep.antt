-- The first fault of a list of steps, step by step.
use Rattle.std.proofs.Common.{◌≡◌, refl, sym, ◌∙◌, ap, suc, List, [], ◌∷◌, length, Bool, true, false, not, Option, Some, None, eq-eqb}
use Rattle.std.proofs.lemmas.Bool.{ne_eqb}
use Rattle.std.specs.Option.{option_or}
use Rattle.core_rows.specs.Names.{Record}
use Rattle.core_rows.specs.Steps.{first_of, fault_unless, count_step}

-- a step that fails gives the first fault
pub first_of-fails : {X : Type 0} (fault : X) (step : Option X) (steps : List (Option X)) → Some fault ≡ step → Some fault ≡ first_of (step ∷ steps)
unfolding first_of
first_of-fails fault step steps e = ap (λ o. option_or o (first_of steps)) e

-- a step that passes leaves the fault to the others
pub first_of-passes : {X : Type 0} (answer step : Option X) (steps : List (Option X)) → None ≡ step → answer ≡ first_of steps → answer ≡ first_of (step ∷ steps)
unfolding first_of
first_of-passes answer step steps e rest = rest ∙ ap (λ o. option_or o (first_of steps)) e

-- the last step gives the fault
pub first_of-last : {X : Type 0} (answer step : Option X) → answer ≡ step → answer ≡ first_of (step ∷ [])
unfolding first_of
first_of-last answer None e = e
first_of-last answer (Some fault) e = e

-- where one of two or the other gives none, neither is there
pub neither : {X : Type 0} (x y : Option X) → option_or x y ≡ None → (x ≡ None) × (y ≡ None)
neither None y e = (refl, e)
neither (Some fault) y e = absurd (cc)

-- where no step of a list has a fault, the first has none, nor has any after it
pub first_of-parts : {X : Type 0} (x : Option X) (xs : List (Option X)) → first_of (x ∷ xs) ≡ None → (x ≡ None) × (first_of xs ≡ None)
unfolding first_of
first_of-parts x xs e = neither x (first_of xs) e

-- a test that gives no fault holds
pub holds-from_none : {X : Type 0} (b : Bool) (fault : X) → fault_unless b fault ≡ None → b ≡ true
holds-from_none true fault e = refl
holds-from_none false fault e = absurd (cc)

-- a test that is turned and gives no fault fails
pub fails-from_none : {X : Type 0} (b : Bool) (fault : X) → fault_unless (not b) fault ≡ None → b ≡ false
fails-from_none true fault e = absurd (cc)
fails-from_none false fault e = refl

-- a record of another number of fields fails
pub count-fails : {F X : Type 0} (fault : X) (fs : List F) (r : Record) → (length r ≡ suc (length fs) → ⊥) → Some fault ≡ count_step fault fs r
count-fails fault fs r differ = ap (λ b. fault_unless b fault) (sym (ne_eqb (length r) (suc (length fs)) differ))

-- a record of the number of fields passes
pub count-passes : {F X : Type 0} (fault : X) (fs : List F) (r : Record) → length r ≡ suc (length fs) → None ≡ count_step fault fs r
count-passes fault fs r e = ap (λ b. fault_unless b fault) (sym (eq-eqb (length r) (suc (length fs)) e))
