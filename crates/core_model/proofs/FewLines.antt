-- A case has at most 64 lines, since no two are of one instrument and one side.
use Rattle.std.proofs.Common.{◌≡◌, ◌+◌, ◌*◌, ◌<◌, ◌≤◌, inl, inr, ℕ, length, arith, sym, refl}
use Rattle.std.proofs.lemmas.Bool.{cases_lt}
use Rattle.algebra.proofs.Counting.{pigeonhole}
use Rattle.core_book.specs.View.{CaseView, instrument_of, line, no_line}
use Rattle.core_book.specs.WellFormed.{IsCase}
use Rattle.core_book.specs.declared.parts.Side.{Side}
use Rattle.core_book.specs.declared.parts.Side.TheVariants.{Position, Collateral}
use Rattle.core_model.specs.Limits.{most_lines}

-- a number of a side
side_number : Side → ℕ
side_number Position = 0
side_number Collateral = 1

side_number-low : (side : Side) → side_number side ≤ 1
unfolding side_number
side_number-low Position = omega arith
side_number-low Collateral = omega arith

-- it tells the sides apart
same_side : (s t : Side) → side_number s ≡ side_number t → s ≡ t
unfolding side_number
same_side Position Position e = refl
same_side Position Collateral e = absurd (omega (arith, e))
same_side Collateral Position e = absurd (omega (arith, e))
same_side Collateral Collateral e = refl

-- a number of the instrument and the side
abbrev line_number : CaseView → ℕ → ℕ
line_number c l = 2 * instrument_of c l + side_number (line c l).side

-- no two lines have one number
apart : (c : CaseView) → IsCase c → (i j : ℕ) → i < j → j < length c.lines → line_number c i ≡ line_number c j → ⊥
apart c kept i j less below e =
    let a = side_number-low (line c i).side in
    let b = side_number-low (line c j).side in
    elim (kept.lines.1 i j no_line less below) [
      | inl other ↦ other (omega (arith, a, b, e))
      | inr other ↦ other (same_side (line c i).side (line c j).side (omega (arith, a, b, e)))
    ]

-- so there are as many as numbers at most
pub lines-few : (c : CaseView) → IsCase c → length c.lines ≤ most_lines
lines-few c kept = pigeonhole most_lines (length c.lines) (line_number c) small same
  where
    small : (l : ℕ) → l < length c.lines → line_number c l < most_lines
    small l below =
        let known = (kept.lines.0 l no_line below).known in
        let few = kept.instruments.0 in
        let a = side_number-low (line c l).side in
        omega (arith, known, few, a)

    same : (i j : ℕ) → i < length c.lines → j < length c.lines → line_number c i ≡ line_number c j → i ≡ j
    same i j under below e = elim (cases_lt i j) [
      | inl less ↦ absurd (apart c kept i j less below e)
      | inr high ↦ elim (cases_lt j i) [
        | inl more ↦ absurd (apart c kept j i more under (sym e))
        | inr low ↦ omega (arith, high, low)
      ]
    ]
