-- Results: what holds of them at once, and what holds of their numbers.
use Rattle.std.proofs.Common.{◌≡◌, ◌≢◌, ℕ, ◌<◌, true, false, Result, Ok, Err, IfOk, OnOk, OnErr, ap₂, subst, inl}
use Rattle.fractions.specs.Fraction.{Fraction, zero_q, ◌-ℚ◌, ◌*ℚ◌}
use Rattle.fractions.specs.Leaves.{OverLeaves, LessTimesLeaves}
use Rattle.core_dict.specs.Rows.{width, entry_of, divided_entry, EntriesLeave, Quotient, Less}
use Rattle.core_dict.specs.Rows.{RowLeaves, Entries, Value, OwnRowLeaves, Entry, OwnValue}
use Rattle.core_dict.specs.declared.row.Row.{Row}
use Rattle.fractions.proofs.LessTimes.{no_leaving}

-- what holds anyway
pub on_err : {T F : Type 0} (r : Result T F) (P : Type 0) → P → OnErr r P
on_err (Ok x) P p = tt
on_err (Err e) P p = p

pub on_ok : {T F : Type 0} (r : Result T F) (P : Type 0) → P → OnOk r P
on_ok (Ok x) P p = p
on_ok (Err e) P p = tt

-- what follows from what is known of the value
pub if_ok : {T F : Type 0} (r : Result T F) (P Q : T → Type 0) → ((x : T) → P x → Q x) → IfOk r P → IfOk r Q
if_ok (Ok x) P Q f p = f x p
if_ok (Err e) P Q f p = tt

-- true is not false
pub apart : {A : Type 0} → false ≡ true → A
apart e = absurd cc

-- a difference of equal numbers
pub less_same : {a x q y b z : Fraction} → a ≡ x → q ≡ y → b ≡ z → a -ℚ q *ℚ b ≡ x -ℚ y *ℚ z
less_same e f h = ap₂ ◌-ℚ◌ e (ap₂ ◌*ℚ◌ f h)

-- leaves where they do
pub leaves_same : {most : ℕ} {a x q y b z : Fraction} → a ≡ x → q ≡ y → b ≡ z → LessTimesLeaves most a q b
    → LessTimesLeaves most x y z
leaves_same {most} {a} {x} {q} {y} {b} {z} e f h l =
    subst (λ (t : Fraction). LessTimesLeaves most t y z) e
    (subst (λ (t : Fraction). LessTimesLeaves most a t z) f (subst (λ (t : Fraction). LessTimesLeaves most a q t) h l))

-- entries none of whose operations leaves
pub no_entry : {most n : ℕ} {p : Fraction} {s : ℕ} {own a : ℕ → Fraction} → (OverLeaves most (a s) p → ⊥)
    → ((j : ℕ) → j < n → j ≢ s → LessTimesLeaves most (a j) (a s) (own j) → ⊥)
    → EntriesLeave most n p s own a → ⊥
no_entry quotient less (Quotient h) = quotient h
no_entry quotient less (Less j l e h) = less j l e h

-- and a row
pub no_row_leaves : {E : Type 0} {most : ℕ} {read : E → Fraction} {p : Fraction} {s : ℕ} {own before : Row E}
    → (EntriesLeave most (width before) p s (entry_of read own) (entry_of read before) → ⊥)
    → (LessTimesLeaves most (read before.value) (entry_of read before s) (read own.value) → ⊥)
    → RowLeaves most read p s own before → ⊥
no_row_leaves entries value (Entries h) = entries h
no_row_leaves entries value (Value h) = value h

-- and the pivot's own row
pub no_own_leaves : {E : Type 0} {most : ℕ} {read : E → Fraction} {s : ℕ} {before : Row E}
    → ((j : ℕ) → j < width before
    → OverLeaves most (divided_entry s (entry_of read before) j) (entry_of read before s) → ⊥)
    → (OverLeaves most (read before.value) (entry_of read before s) → ⊥) → OwnRowLeaves most read s before → ⊥
no_own_leaves entries value (Entry j l h) = entries j l h
no_own_leaves entries value (OwnValue h) = value h

-- a row that does not change leaves nowhere
pub unchanged_row : {E : Type 0} {most : ℕ} {read : E → Fraction} {p : Fraction} {s : ℕ} {own before : Row E}
    → entry_of read before s ≡ zero_q → RowLeaves most read p s own before → ⊥
unchanged_row {most = most} zero =
    no_row_leaves (no_entry (λ h. h.left_not_zero zero) (λ j l e h. no_leaving most _ _ _ (inl zero) h))
    (λ h. no_leaving most _ _ _ (inl zero) h)

-- what follows on an error
pub if_err : {T F : Type 0} (r : Result T F) (P Q : Type 0) → (P → Q) → OnErr r P → OnErr r Q
if_err (Ok x) P Q f p = tt
if_err (Err e) P Q f p = f p
