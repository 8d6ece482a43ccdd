-- The verdict on places one after the other.
use Rattle.std.proofs.Common.{◌≡◌, refl, sym, ◌∙◌, ap, ℕ, suc, ◌+◌, arith, Bool, true, false, List, [], ◌∷◌, ◌++◌, length, map, if◌then◌else◌, Option, Some, None, Result, Ok, Err}
use Rattle.std.proofs.lemmas.List.{map-append, length-map}
use Rattle.core_sums.specs.Places.{below}
use Rattle.core_sums.specs.Widths.{any_leaves}
use Rattle.core_sums.proofs.Lists.{length-below}
use Rattle.core_model.specs.declared.condition.Condition.{Condition}
use Rattle.core_model.specs.Conditions.{number_of}
use Rattle.core_model.specs.Check.{Test, Place, places_of, Verdict, Passed, Failed, Wide, verdict_of}
use Rattle.core_check.specs.declared.fault.CheckFault.{CheckFault}
use Rattle.core_check.specs.declared.fault.CheckFault.TheVariants.{No, TooWide, NoMemory}
use Rattle.core_check.specs.Steps.{judged}
use Rattle.core_check.specs.Answers.{Refuses, answer_of, answer, answer_at}
use Rattle.core_sums.proofs.Joined.{below-append}

-- places are numbered on behind others
pub places-append : (condition : Condition) (first : ℕ) (xs ys : List Test)
    → places_of condition first (xs ++ ys) ≡ places_of condition first xs ++ places_of condition (first + length xs) ys
unfolding places_of
places-append condition first [] ys = let same : first ≡ first + 0 = omega arith in ap (λ (n : ℕ). places_of condition n ys) same
places-append condition first (x ∷ xs) ys =
    let moved : suc first + length xs ≡ first + suc (length xs) = omega arith in
    let place : Place = record { condition = number_of condition; place = first; test = x } in
    ap (λ zs. place ∷ zs) (places-append condition (suc first) xs ys)
    ∙ ap (λ (n : ℕ). place ∷ (places_of condition (suc first) xs ++ places_of condition n ys)) moved

-- the verdict on a place and those behind it
pub verdict-first : (w h : Bool) (wide failed rest : Verdict) → (if w then wide else if h then rest else failed) ≡ Passed → (wide ≡ Passed → ⊥) → (failed ≡ Passed → ⊥)
    → (w ≡ false) × (h ≡ true) × (rest ≡ Passed)
verdict-first true h wide failed rest e not_wide not_failed = absurd (not_wide e)
verdict-first false true wide failed rest e not_wide not_failed = (refl, refl, e)
verdict-first false false wide failed rest e not_wide not_failed = absurd (not_failed e)

-- Places pass and those behind them decide, or the first decide.
pub verdict-on : (xs ys : List Place) → verdict_of xs ≡ Passed → verdict_of (xs ++ ys) ≡ verdict_of ys
unfolding verdict_of
verdict-on [] ys e = refl
verdict-on (x ∷ xs) ys e =
    let first = verdict-first (any_leaves x.test.numbers) x.test.holds (Wide x.condition x.place) (Failed x.condition x.place) (verdict_of xs) e (λ clash. cc) (λ clash. cc) in
    ap (λ b. if b then Wide x.condition x.place else if x.test.holds then verdict_of (xs ++ ys) else Failed x.condition x.place) first.0
    ∙ ap (λ b. if b then verdict_of (xs ++ ys) else Failed x.condition x.place) first.1
    ∙ verdict-on xs ys first.2

pub verdict-ends : (xs ys : List Place) (v : Verdict) → verdict_of xs ≡ v → (v ≡ Passed → ⊥) → verdict_of (xs ++ ys) ≡ v
unfolding verdict_of
verdict-ends [] ys v e fails = absurd (fails (sym e))
verdict-ends (x ∷ xs) ys v e fails = split (any_leaves x.test.numbers) x.test.holds (λ rest. verdict-ends xs ys v rest fails) e
  where
    split : (w h : Bool) → (verdict_of xs ≡ v → verdict_of (xs ++ ys) ≡ v)
        → (if w then Wide x.condition x.place else if h then verdict_of xs else Failed x.condition x.place) ≡ v
        → (if w then Wide x.condition x.place else if h then verdict_of (xs ++ ys) else Failed x.condition x.place) ≡ v
    split true h rest same = same
    split false true rest same = rest same
    split false false rest same = same

-- ---- answers

pub passed-of : (v : Verdict) → answer_of v ≡ Ok tt → v ≡ Passed
passed-of Passed e = refl
passed-of (Failed condition place) e = absurd (cc)
passed-of (Wide condition place) e = absurd (cc)

pub refused-of : (v : Verdict) (fault : CheckFault) → answer_of v ≡ Err fault → Refuses v fault
refused-of Passed fault e = absurd (cc)
refused-of (Failed condition place) (No c p) e = let same : No condition place ≡ No c p = cc in cc
refused-of (Failed condition place) (TooWide c p) e = absurd (cc)
refused-of (Failed condition place) NoMemory e = absurd (cc)
refused-of (Wide condition place) (No c p) e = absurd (cc)
refused-of (Wide condition place) (TooWide c p) e = let same : TooWide condition place ≡ TooWide c p = cc in cc
refused-of (Wide condition place) NoMemory e = absurd (cc)

-- the first places pass and the others answer, or the first answer
pub answer-on : (xs ys : List Place) → answer xs ≡ Ok tt → answer (xs ++ ys) ≡ answer ys
answer-on xs ys e = ap answer_of (verdict-on xs ys (passed-of (verdict_of xs) e))

pub answer-ends : (xs ys : List Place) (fault : CheckFault) → answer xs ≡ Err fault → answer (xs ++ ys) ≡ Err fault
answer-ends xs ys fault e =
    ap answer_of (verdict-ends xs ys (verdict_of xs) refl (λ passed. let clash : answer_of Passed ≡ Err fault = ap answer_of (sym passed) ∙ e in cc)) ∙ e

-- ---- the places of a condition

-- the answer to one place
answer-one : (condition : Condition) (place : ℕ) (x : Test) → answer_at condition place (judged x) ≡ answer (places_of condition place (x ∷ []))
unfolding judged places_of verdict_of
answer-one condition place x = by_test (any_leaves x.numbers) x.holds
  where
    by_test : (w h : Bool) → answer_at condition place (if w then None else Some h) ≡ answer_of (if w then Wide (number_of condition) place else if h then Passed else Failed (number_of condition) place)
    by_test true h = refl
    by_test false true = refl
    by_test false false = refl

-- the answer to one place, by the option that judges it
pub place-answers : (condition : Condition) (place : ℕ) (x : Test) (r : Option Bool) (answered : Result (Unit {0}) CheckFault) → r ≡ judged x → answered ≡ answer_at condition place r
    → answered ≡ answer (places_of condition place (x ∷ []))
place-answers condition place x r answered judges at = at ∙ ap (answer_at condition place) judges ∙ answer-one condition place x

abbrev pub tested : Condition → ℕ → (ℕ → Test) → ℕ → List Place
tested condition first tests i = places_of condition first (map tests (below i))

pub places-none : (condition : Condition) (first : ℕ) (tests : ℕ → Test) → verdict_of (tested condition first tests 0) ≡ Passed
unfolding below places_of verdict_of
places-none condition first tests = refl

-- one place more
tested-more : (condition : Condition) (first : ℕ) (tests : ℕ → Test) (i : ℕ) → tested condition first tests (i + 1) ≡ tested condition first tests i ++ places_of condition (first + i) (tests i ∷ [])
unfolding below
tested-more condition first tests i =
    let next : i + 1 ≡ suc i = omega arith in
    let long : length (map tests (below i)) ≡ i = length-map (below i) tests ∙ length-below i in
    ap (λ (n : ℕ). tested condition first tests n) next
    ∙ ap (places_of condition first) (map-append tests (below i) (i ∷ []))
    ∙ places-append condition first (map tests (below i)) (tests i ∷ [])
    ∙ ap (λ (n : ℕ). tested condition first tests i ++ places_of condition (first + n) (tests i ∷ [])) long

pub places-more : (condition : Condition) (first : ℕ) (tests : ℕ → Test) (i : ℕ) (r : Option Bool) (answered : Result (Unit {0}) CheckFault)
    → verdict_of (tested condition first tests i) ≡ Passed → r ≡ judged (tests i) → answered ≡ answer_at condition (first + i) r
    → answer (tested condition first tests (i + 1)) ≡ answered
places-more condition first tests i r answered before judges at =
    ap answer (tested-more condition first tests i)
    ∙ ap answer_of (verdict-on (tested condition first tests i) (places_of condition (first + i) (tests i ∷ [])) before)
    ∙ sym (place-answers condition (first + i) (tests i) r answered judges at)

-- where some places answer a fault, more do
pub places-end : (condition : Condition) (first : ℕ) (tests : ℕ → Test) (i k : ℕ) (fault : CheckFault) → answer (tested condition first tests i) ≡ Err fault
    → answer (tested condition first tests (i + k)) ≡ Err fault
places-end condition first tests i k fault e =
    ap (λ zs. answer (places_of condition first (map tests zs))) (below-append i k)
    ∙ ap (λ zs. answer (places_of condition first zs)) (map-append tests (below i) (map (λ j. i + j) (below k)))
    ∙ ap answer (places-append condition first (map tests (below i)) (map tests (map (λ j. i + j) (below k))))
    ∙ answer-ends (tested condition first tests i) (places_of condition (first + length (map tests (below i))) (map tests (map (λ j. i + j) (below k)))) fault e
