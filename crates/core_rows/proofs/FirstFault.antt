-- Records that are judged one by one.
use Rattle.std.proofs.Common.{◌≡◌, sym, ◌∙◌, refl, ap, subst, ℕ, zero, suc, ◌+◌, ◌<◌, ◌≤◌, List, [], ◌∷◌, ◌++◌, length, get_or, take, drop, arith, Option, Some, None, Err, Ok}
use Rattle.std.proofs.lemmas.List.{get_or_default, take_more, take_all, drop_all, length-take-le}
use Rattle.core_sums.specs.Places.{row_at}
use Rattle.core_rows.specs.Names.{Record}
use Rattle.core_rows.specs.FirstFault.{Judge, Faulty, IsFaulty, first_fault, first_fault_after, missing_end, unless_faulty}
use Rattle.core_rows.proofs.OneByOne.{left-is}

-- the first fault is that of the record at hand, else that of those after it
abbrev pub fault_or : {X : Type 0} → Judge X → List Record → Record → List Record → Option X → Option (Faulty X)
fault_or j earlier r rs (Some fault) = Some (suc (length earlier), fault)
fault_or j earlier r rs None = first_fault_after j (earlier ++ (r ∷ [])) rs

pub fault-here : {X : Type 0} (j : Judge X) (earlier : List Record) (r : Record) (rs : List Record) (o : Option X) → j.fault_of earlier r ≡ o
    → first_fault_after j earlier (r ∷ rs) ≡ fault_or j earlier r rs o
unfolding first_fault_after
fault-here j earlier r rs o e = ap (fault_or j earlier r rs) e

-- past the last record only the end is asked for
pub none-left : {X : Type 0} (j : Judge X) (earlier : List Record) → first_fault_after j earlier [] ≡ missing_end j earlier
unfolding first_fault_after
none-left j earlier = refl

-- where no record has a fault, the first of those left has none, nor have those after it
sound-parts : {X : Type 0} (j : Judge X) (earlier : List Record) (r : Record) (rs : List Record) (o : Option X) → fault_or j earlier r rs o ≡ None
    → (o ≡ None) × (first_fault_after j (earlier ++ (r ∷ [])) rs ≡ None)
sound-parts j earlier r rs None e = (refl, e)
sound-parts j earlier r rs (Some fault) e = cc

pub sound-next : {X : Type 0} (j : Judge X) (earlier : List Record) (r : Record) (rs : List Record) → first_fault_after j earlier (r ∷ rs) ≡ None
    → (j.fault_of earlier r ≡ None) × (first_fault_after j (earlier ++ (r ∷ [])) rs ≡ None)
sound-next j earlier r rs e = sound-parts j earlier r rs (j.fault_of earlier r) (sym (fault-here j earlier r rs (j.fault_of earlier r) refl) ∙ e)

-- the records before a place are sound: the first fault of all is that from the place on
pub record IsSoundTo {X : Type 0} (j : Judge X) (rows : List Record) (i : ℕ) : Type 0 where
  pub rest : first_fault j rows ≡ first_fault_after j (take i rows) (drop i rows)

pub sound-first : {X : Type 0} (j : Judge X) (rows : List Record) → IsSoundTo j rows 0
sound-first j rows = record { rest = refl }

-- what is known of the record at hand leaves the fault to it or to those after it
here-or : {X : Type 0} (j : Judge X) (rows : List Record) (i : ℕ) (row : Record) (o : Option X) → i < length rows → row ≡ get_or rows i row
    → IsSoundTo j rows i → j.fault_of (take i rows) row ≡ o → first_fault j rows ≡ fault_or j (take i rows) row (drop (i + 1) rows) o
here-or j rows i row o within at sound here =
    sound.rest ∙ ap (first_fault_after j (take i rows)) (left-is rows i row within at) ∙ fault-here j (take i rows) row (drop (i + 1) rows) o here

-- a faulty record at hand is the first of all
pub row-faulty : {X : Type 0} (j : Judge X) (rows : List Record) (i : ℕ) (row : Record) (fault : X) → i < length rows → row ≡ get_or rows i row
    → IsSoundTo j rows i → j.fault_of (take i rows) row ≡ Some fault → first_fault j rows ≡ Some (i + 1, fault)
row-faulty j rows i row fault within at sound here =
    let number : suc (length (take i rows)) ≡ i + 1 = omega (arith, length-take-le i rows (omega (arith, within))) in
    here-or j rows i row (Some fault) within at sound here ∙ ap (λ n. Some (n, fault)) number

-- those before it and a record are those before the next
pub take-next : (rows : List Record) (i : ℕ) (row : Record) → i < length rows → row ≡ get_or rows i row → take i rows ++ (row ∷ []) ≡ take (i + 1) rows
take-next rows i row within at = ap (λ r. take i rows ++ (r ∷ [])) at ∙ sym (take_more rows i row within)

-- a sound record at hand is one more of the sound ones
pub row-sound : {X : Type 0} (j : Judge X) (rows : List Record) (i : ℕ) (row : Record) → i < length rows → row ≡ get_or rows i row
    → IsSoundTo j rows i → j.fault_of (take i rows) row ≡ None → IsSoundTo j rows (i + 1)
row-sound j rows i row within at sound here = record {
  rest = here-or j rows i row None within at sound here ∙ ap (λ rs. first_fault_after j rs (drop (i + 1) rows)) (take-next rows i row within at);
}

-- past the last record the first fault is that of a missing end
pub rows-end : {X : Type 0} (j : Judge X) (rows : List Record) (i : ℕ) → length rows ≤ i → IsSoundTo j rows i → first_fault j rows ≡ missing_end j rows
rows-end j rows i past sound =
    sound.rest ∙ ap (first_fault_after j (take i rows)) (drop_all i rows past) ∙ none-left j (take i rows) ∙ ap (missing_end j) (take_all i rows past)

-- the faulty record refuses what the text would state
pub faulty-refuses : {V X : Type 0} (code : X → ℕ) (row number : ℕ) (faulty : Option (Faulty X)) (v : V) → IsFaulty code row number faulty
    → unless_faulty code faulty v ≡ Err (row, number)
faulty-refuses code row number faulty v is = ap (λ o. unless_faulty code o v) is.1 ∙ ap (λ n. Err (row, n)) (sym is.2)

-- what a text is said to state without a faulty record is what it states
pub sound-states : {V X : Type 0} (code : X → ℕ) (faulty : Option (Faulty X)) (v w : V) → unless_faulty code faulty v ≡ Ok w → (faulty ≡ None) × (v ≡ w)
sound-states code None v w e = (refl, cc)
sound-states code (Some faulty) v w e = absurd (cc)

-- the record at a place up to which all are sound, where no record is faulty
module _ {X : Type 0} (j : Judge X) (rows : List Record) (none : first_fault j rows ≡ None) where
  sound-here : (i : ℕ) → IsSoundTo j rows i → i < length rows → j.fault_of (take i rows) (row_at rows i) ≡ None
  sound-here i sound within =
      (sound-next j (take i rows) (row_at rows i) (drop (i + 1) rows)
      (ap (first_fault_after j (take i rows)) (sym (left-is rows i (row_at rows i) within (get_or_default rows i [] (row_at rows i) within))) ∙ sym sound.rest ∙ none)).0

  sound-to : (i : ℕ) → i ≤ length rows → IsSoundTo j rows i
  sound-to zero within = sound-first j rows
  sound-to (suc i) within =
      let inside : i < length rows = omega (arith, within) in
      let before : IsSoundTo j rows i = sound-to i (omega (arith, within)) in
      let next : i + 1 ≡ suc i = omega arith in
      subst (IsSoundTo j rows) next
      (row-sound j rows i (row_at rows i) inside (get_or_default rows i [] (row_at rows i) inside) before (sound-here i before inside))

  -- where no record is faulty, each is sound among those before it
  pub sound-at : (i : ℕ) → i < length rows → j.fault_of (take i rows) (row_at rows i) ≡ None
  sound-at i within = sound-here i (sound-to i (omega (arith, within))) within

  -- and none is missing
  pub none-missing : missing_end j rows ≡ None
  none-missing = sym (rows-end j rows (length rows) (omega arith) (sound-to (length rows) (omega arith))) ∙ none

  -- what holds of no records, and of one more sound record after those of which it holds, holds of all
  pub by-one-more : (P : List Record → Type 0) → P [] → ((earlier : List Record) (r : Record) → P earlier → j.fault_of earlier r ≡ None → P (earlier ++ (r ∷ []))) → P rows
  by-one-more P empty more = subst P (take_all (length rows) rows (omega arith)) (up-to (length rows) (omega arith))
    where
      up-to : (i : ℕ) → i ≤ length rows → P (take i rows)
      up-to zero within = empty
      up-to (suc i) within =
          let inside : i < length rows = omega (arith, within) in
          let next : i + 1 ≡ suc i = omega arith in
          subst P (take-next rows i (row_at rows i) inside (get_or_default rows i [] (row_at rows i) inside) ∙ ap (λ n. take n rows) next)
          (more (take i rows) (row_at rows i) (up-to i (omega (arith, within))) (sound-at i inside))
