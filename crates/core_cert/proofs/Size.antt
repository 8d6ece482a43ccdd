-- How long the text of a certificate may be.
use Rattle.std.proofs.Common.{◌≡◌, ◌∷◌, ◌++◌, [], ℕ, zero, suc, ◌+◌, ◌*◌, ◌<◌, ◌≤◌, ℤ, pos, negsuc, List, length, arith, decimal, length-append, inl, inr, lit<, refl}
use Rattle.std.proofs.lemmas.Bool.{cases_Bool}
use Rattle.std.proofs.lemmas.Fmt.{length-decimal-le_wide}
use Rattle.std.specs.Ordering.{int_eq}
use Rattle.core_sums.specs.Places.{below, days_to, each}
use Rattle.core_rows.specs.Fields.{number_text, row_text}
use Rattle.core_rows.specs.Names.{Record}
use Rattle.core_rows.specs.Written.{rows_text}
use Rattle.core_book.specs.declared.parts.Side.{Side}
use Rattle.core_book.specs.declared.parts.Side.TheVariants.{Position, Collateral}
use Rattle.core_model.specs.Fits.{IsWithin128}
use Rattle.core_cert.specs.Written.{numbered, side_word}
use Rattle.core_cert.proofs.Printed.{rows_text-none, rows_text-one}
use Rattle.core_cert.proofs.Rising.{each-last}

-- a number takes at most 40 bytes
pub number_text-short : (z : ℤ) → IsWithin128 z → length (number_text z) ≤ 40
number_text-short (pos n) kept =
    let digits : length (decimal n) ≤ 39 = length-decimal-le_wide 39 n (lit< tt) (omega (arith, kept)) (omega (arith, kept)) in
    omega (arith, digits)
number_text-short (negsuc n) kept =
    let digits : length (decimal (suc n)) ≤ 39 = length-decimal-le_wide 39 (suc n) (lit< tt) (omega (arith, kept)) (omega (arith, kept)) in
    omega (arith, digits)

-- the bytes of rows of two, four, five and six fields
pub row_text-two : (a b : List ℕ) → length (row_text (a ∷ b ∷ [])) ≡ length a + length b + 2
row_text-two a b = simp length-append (omega arith)

pub row_text-four : (a b c d : List ℕ) → length (row_text (a ∷ b ∷ c ∷ d ∷ [])) ≡ length a + length b + length c + length d + 4
row_text-four a b c d = simp length-append (omega arith)

pub row_text-five : (a b c d e : List ℕ) → length (row_text (a ∷ b ∷ c ∷ d ∷ e ∷ [])) ≡ length a + length b + length c + length d + length e + 5
row_text-five a b c d e = simp length-append (omega arith)

pub row_text-six : (a b c d e f : List ℕ) → length (row_text (a ∷ b ∷ c ∷ d ∷ e ∷ f ∷ [])) ≡ length a + length b + length c + length d + length e + length f + 6
row_text-six a b c d e f = simp length-append (omega arith)

-- a record that ends with a number takes no more than its row would
pub numbered-short : (fields : Record) (z : ℤ) (n : ℕ) → length (row_text (fields ++ (number_text z ∷ []))) ≤ n
    → length (rows_text (numbered fields z)) ≤ n
numbered-short fields z n short = elim (cases_Bool (int_eq z (pos 0))) [
  | inl same ↦ rw (same, rows_text-none) (omega arith)
  | inr differs ↦ rw (differs, rows_text-one (fields ++ (number_text z ∷ []))) short
]

-- the word of a side takes at most ten bytes
pub side_word-short : (side : Side) → length (side_word side) ≤ 10
side_word-short Position = omega arith
side_word-short Collateral = omega arith

-- no rows take no bytes
each-none : (f : ℕ → List Record) → rows_text (each [] f) ≡ []
unfolding each
each-none f = refl

-- so many rows of so many bytes, by index and by day
pub below-short : (m b : ℕ) (f : ℕ → List Record) → ((i : ℕ) → i < m → length (rows_text (f i)) ≤ b) → length (rows_text (each (below m) f)) ≤ m * b
unfolding below
below-short zero b f short = rw (each-none f) (omega arith)
below-short (suc n) b f short =
    let before = below-short n b f (λ i under. short i (omega (arith, under))) in
    let here = short n (omega arith) in
    let joined = length-append (rows_text (each (below n) f)) (rows_text (f n)) in
    rw (each-last (below n) n f) (omega (arith, before, here, joined))

pub days-short : (m b : ℕ) (f : ℕ → List Record) → ((u : ℕ) → 1 ≤ u → u ≤ m → length (rows_text (f u)) ≤ b) → length (rows_text (each (days_to m) f)) ≤ m * b
unfolding days_to
days-short zero b f short = rw (each-none f) (omega arith)
days-short (suc n) b f short =
    let before = days-short n b f (λ u low under. short u low (omega (arith, under))) in
    let here = short (suc n) (omega arith) (omega arith) in
    let joined = length-append (rows_text (each (days_to n) f)) (rows_text (f (suc n))) in
    rw (each-last (days_to n) (suc n) f) (omega (arith, before, here, joined))
