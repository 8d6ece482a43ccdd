-- The fields of a printed record have the forms of its kind.
use Rattle.std.proofs.Common.{◌≡◌, ◌∷◌, ◌∙◌, [], ℕ, suc, ◌≤◌, min, ℤ, pos, negsuc, List, length, true, false, Some, None, refl, ap, decimal, arith}
use Rattle.std.specs.Prelude.{not, ◌&&◌, ◌==◌, nat_le, is_some, int_le, unsigned_abs, if◌then◌else◌}
use Rattle.std.specs.List.{list_all}
use Rattle.std.specs.Option.{option_or, unwrap_or}
use Rattle.std.specs.Ordering.{int_eq}
use Rattle.std.proofs.lemmas.Bool.{and_from, eq-eqb, le-leb}
use Rattle.std.proofs.lemmas.Int.{ints}
use Rattle.core_rows.specs.Names.{Record}
use Rattle.core_rows.specs.Fields.{IsName, is_name_byte, number_text, wide}
use Rattle.core_rows.proofs.Numbers.{number-read}
use Rattle.core_book.specs.declared.parts.Side.{Side}
use Rattle.core_book.specs.declared.parts.Side.TheVariants.{Position, Collateral}
use Rattle.core_model.specs.Fits.{IsWithin128}
use Rattle.core_cert.specs.declared.forms.Form.{Form}
use Rattle.core_cert.specs.declared.forms.Form.TheVariants.{Name, SideWord, Number, Numerator, NotZero}
use Rattle.core_cert.specs.declared.faults.RecordFault.TheVariants.{FieldCount, NotAName, NotANumber, OutOfRange}
use Rattle.core_cert.specs.Written.{side_word}
use Rattle.core_cert.specs.Faults.{fields_fault, form_fault, number_in, range_fault}
use Rattle.core_rows.specs.Steps.{by_form, count_step, fault_unless, first_of}
use Rattle.core_cert.proofs.RoundTripSound.{first_of-three, no_fault}

-- a word has a form, and words have forms
abbrev pub IsFit : Form → List ℕ → Type 0
IsFit form word = (form_fault form word ≡ None) × (range_fault form word ≡ None)

abbrev pub AreFit : List Form → Record → Type 0
AreFit [] [] = Unit {0}
AreFit [] (word ∷ words) = ⊥
AreFit (form ∷ fs) [] = ⊥
AreFit (form ∷ fs) (word ∷ words) = IsFit form word × AreFit fs words

-- there are as many
fit-size : (fs : List Form) (words : Record) → AreFit fs words → length words ≡ length fs
fit-size [] [] fit = refl
fit-size [] (word ∷ words) fit = absurd fit
fit-size (form ∷ fs) [] fit = absurd fit
fit-size (form ∷ fs) (word ∷ words) fit = ap suc (fit-size fs words fit.1)

-- no form and no range is faulty
fit-forms : (fs : List Form) (words : Record) → AreFit fs words → first_of (by_form form_fault fs words) ≡ None
unfolding first_of by_form
fit-forms [] words fit = refl
fit-forms (form ∷ fs) [] fit = refl
fit-forms (form ∷ fs) (word ∷ words) fit = ap (λ x. option_or x (first_of (by_form form_fault fs words))) fit.0.0 ∙ fit-forms fs words fit.1

fit-ranges : (fs : List Form) (words : Record) → AreFit fs words → first_of (by_form range_fault fs words) ≡ None
unfolding first_of by_form
fit-ranges [] words fit = refl
fit-ranges (form ∷ fs) [] fit = refl
fit-ranges (form ∷ fs) (word ∷ words) fit = ap (λ x. option_or x (first_of (by_form range_fault fs words))) fit.0.1 ∙ fit-ranges fs words fit.1

-- so the fields have no fault
pub fit-fields : (fs : List Form) (word : List ℕ) (words : Record) → AreFit fs words → fields_fault fs (word ∷ words) ≡ None
fit-fields fs word words fit =
    first_of-three (count_step FieldCount fs (word ∷ words)) (first_of (by_form form_fault fs words)) (first_of (by_form range_fault fs words))
    (no_fault (length (word ∷ words) == suc (length fs)) FieldCount (eq-eqb (length (word ∷ words)) (suc (length fs)) (ap suc (fit-size fs words fit))))
    (fit-forms fs words fit) (fit-ranges fs words fit)

-- the text of a kept number, and of a day
pub kept-read : (z : ℤ) → IsWithin128 z → wide (number_text z) ≡ Some z
kept-read (pos n) kept = number-read (pos n) (omega (arith, ints)) (omega (arith, ints, kept))
kept-read (negsuc n) kept = number-read (negsuc n) (omega (arith, ints, kept)) (omega (arith, ints))

pub number_in-kept : (z : ℤ) → IsWithin128 z → number_in (number_text z) ≡ z
number_in-kept z kept = ap (λ o. unwrap_or o (pos 0)) (kept-read z kept)

pub day-read : (u : ℕ) → u ≤ 40 → wide (decimal u) ≡ Some (pos u)
day-read u small = kept-read (pos u) (omega (arith, small))

pub day-number : (u : ℕ) → u ≤ 40 → min (unsigned_abs (number_in (decimal u))) 255 ≡ u
day-number u small = ap (λ o. min (unsigned_abs (unwrap_or o (pos 0))) 255) (day-read u small) ∙ omega (arith, small)

-- the forms of the words
pub fit-name : (name : List ℕ) → IsName name → IsFit Name name
fit-name name is =
    let sized : (nat_le 1 (length name) && nat_le (length name) 12) ≡ true = and_from (nat_le 1 (length name)) (nat_le (length name) 12) (le-leb 1 (length name) is.filled) (le-leb (length name) 12 is.short) in
    let passes : (nat_le 1 (length name) && nat_le (length name) 12 && list_all is_name_byte name) ≡ true = and_from (nat_le 1 (length name) && nat_le (length name) 12) (list_all is_name_byte name) sized is.letters in
    (ap (λ b. fault_unless (is_some (if b then Some name else None)) NotAName) passes, refl)

pub fit-side : (side : Side) → IsFit SideWord (side_word side)
fit-side Position = (refl, refl)
fit-side Collateral = (refl, refl)

pub fit-number : (z : ℤ) → IsWithin128 z → IsFit Numerator (number_text z)
fit-number z kept = (ap (λ o. fault_unless (is_some o) NotANumber) (kept-read z kept), refl)

pub fit-not_zero : (z : ℤ) → IsWithin128 z → int_eq z (pos 0) ≡ false → IsFit NotZero (number_text z)
fit-not_zero z kept other = (
  ap (λ o. fault_unless (is_some o) NotANumber) (kept-read z kept),
  ap (λ n. fault_unless (not (int_eq n (pos 0))) OutOfRange) (number_in-kept z kept) ∙ ap (λ b. fault_unless (not b) OutOfRange) other,
)

int_le-pos : (m n : ℕ) → m ≤ n → int_le (pos m) (pos n) ≡ true
int_le-pos m n low = grind (arith, ints)

pub fit-day : (first last u : ℕ) → first ≤ u → u ≤ last → u ≤ 40 → IsFit (Number first last) (decimal u)
fit-day first last u low high small = (
  ap (λ o. fault_unless (is_some o) NotANumber) (day-read u small),
  ap (λ n. fault_unless (int_le (pos first) n && int_le n (pos last)) OutOfRange) (number_in-kept (pos u) (omega (arith, small)))
      ∙ no_fault (int_le (pos first) (pos u) && int_le (pos u) (pos last)) OutOfRange (and_from (int_le (pos first) (pos u)) (int_le (pos u) (pos last)) (int_le-pos first u low) (int_le-pos u last high)),
)
