-- The records that are read one after another, up to the end of a text, are all that the text has.
use Rattle.std.proofs.Common.{◌≡◌, ◌<◌, ◌≤◌, ℕ, zero, suc, List, [], ◌∷◌, length, Bool, true, false, Option, Some, None, refl, ap, ◌∙◌, arith}
use Rattle.std.specs.Prelude.{if◌then◌else◌, ◌==◌, ◌||◌}
use Rattle.std.proofs.lemmas.Grind.{common_steps}
use Rattle.csv.specs.Machine.{Read, ends_at_end, field_after, fields_after, in_field, is_end, next_record, start_field, start_record, step}
use Rattle.csv.specs.Reading.{Reached, default_config, records_from, records_next}
use Rattle.csv.specs.declared.parser.State.{State}
use Rattle.csv.specs.declared.parser.State.TheVariants as st
use Rattle.csv.specs.declared.parser.Action.{Action}
use Rattle.csv.specs.declared.parser.Action.TheVariants as act

-- where an action ends a record, the state is between two records
abbrev EndsBetween : State × Action → Type 0
EndsBetween p = is_end p.1 ≡ true → ends_at_end p.0 ≡ false

-- so does a choice of two that do
either_ends : (b : Bool) (x y : State × Action) → EndsBetween x → EndsBetween y → EndsBetween (if b then x else y)
either_ends true x y hx hy = hx
either_ends false x y hx hy = hy

-- inside a field
field_ends : (c : ℕ) → EndsBetween (in_field default_config c)
field_ends c = grind (arith, common_steps)

-- a byte that is skipped or copied ends nothing
skips : (s : State) → EndsBetween (s, act.Skip)
skips s e = cc e

copies : (s : State) → EndsBetween (s, act.Copy)
copies s e = cc e

-- at the start of a field, and of a record
start_ends : (c : ℕ) → EndsBetween (start_field default_config c)
start_ends c = either_ends (c == 34) (st.InQuoted, act.Skip) (in_field default_config c) (skips st.InQuoted) (field_ends c)

record_ends : (c : ℕ) → EndsBetween (start_record default_config c)
record_ends c = either_ends ((c == 13) || (c == 10)) (st.StartRecord, act.Skip) (start_field default_config c) (skips st.StartRecord) (start_ends c)

-- at each state
step_ends : (s : State) (c : ℕ) → EndsBetween (step default_config s c)
step_ends st.StartRecord c = record_ends c
step_ends st.StartField c = start_ends c
step_ends st.InField c = field_ends c
step_ends st.InQuoted c = either_ends (c == 34) (st.AfterQuote, act.Skip) (st.InQuoted, act.Copy) (skips st.AfterQuote) (copies st.InQuoted)
step_ends st.InEscape c = copies st.InQuoted
step_ends st.AfterQuote c = either_ends (c == 34) (st.InQuoted, act.Copy) (in_field default_config c) (copies st.InQuoted) (field_ends c)
step_ends st.InComment c = either_ends (c == 10) (st.StartRecord, act.Skip) (st.InComment, act.Skip) (skips st.StartRecord) (skips st.InComment)
step_ends st.AfterCr c = either_ends (c == 10) (st.StartRecord, act.Skip) (start_record default_config c) (skips st.StartRecord) (record_ends c)

-- at most n bytes are left after a read, which stopped between two records
abbrev Leaves : ℕ → Read → Type 0
Leaves n p = (length p.2 ≤ n) × (ends_at_end p.1 ≡ false)

-- a record that ends here, or one that is read on
either_leaves : (b : Bool) (q p : Read) (next : Option Read) (n : ℕ) → (b ≡ true → Leaves n q) → (next ≡ Some p → Leaves n p)
    → (if b then Some q else next) ≡ Some p → Leaves n p
either_leaves true q p next n here later e = let same : q ≡ p = cc in rw (← same) (here refl)
either_leaves false q p next n here later e = later e

-- a read leaves no more than it began with
shorter : (s : State) (fields : List (List ℕ)) (field xs : List ℕ) (p : Read) → next_record default_config s fields field xs ≡ Some p → Leaves (length xs) p
unfolding next_record
shorter s fields field [] p e = either_leaves (ends_at_end s) _ p None 0 (λ h. (omega arith, refl)) (λ h. cc h) e
shorter s fields field (c ∷ rest) p e =
    let a = step default_config s c in
    let h = either_leaves (is_end a.1) (fields_after a.1 fields field, a.0, rest) p _ (length rest) (λ h. (omega arith, step_ends s c h)) (shorter a.0 (fields_after a.1 fields field) (field_after a.1 c field) rest p) e in
    (omega arith, h.1)

-- from between two records, a read takes at least a byte
takes : (s : State) (xs : List ℕ) (p : Read) → ends_at_end s ≡ false → next_record default_config s [] [] xs ≡ Some p
    → (length p.2 < length xs) × (ends_at_end p.1 ≡ false)
unfolding next_record
takes s [] p between e = let none : Option.None ≡ Some p = rw between at e in cc none
takes s (c ∷ rest) p between e =
    let a = step default_config s c in
    let h = either_leaves (is_end a.1) (fields_after a.1 [] [], a.0, rest) p _ (length rest) (λ h. (omega arith, step_ends s c h)) (shorter a.0 (fields_after a.1 [] []) (field_after a.1 c []) rest p) e in
    (omega arith, h.1)

-- with more turns than bytes, no record is left out
pub all_read : (n : ℕ) (s : State) (xs : List ℕ) (rows : List (List (List ℕ))) (s2 : State) (ys : List ℕ) → ends_at_end s ≡ false → length xs < n
    → Reached default_config s xs rows s2 ys → next_record default_config s2 [] [] ys ≡ None → records_from default_config n s xs ≡ rows
unfolding Reached records_from
all_read zero s xs rows s2 ys between few h end = absurd (omega arith)
all_read (suc n) s xs [] s2 ys between few h end =
    let none : next_record default_config s [] [] xs ≡ None = rw (h.0, h.1) end in ap (records_next (records_from default_config n)) none
all_read (suc n) s xs (r ∷ rows) s2 ys between few h end =
    let less = takes s xs h.0 between h.1 in
    let later = all_read n h.0.1 h.0.2 rows s2 ys less.1 (omega arith) h.3 end in
    ap (records_next (records_from default_config n)) h.1 ∙ rw (later, h.2) refl
