-- The programme whose numbers are all 0.
use Rattle.std.proofs.Common.{◌≡◌, ℕ, ◌<◌, ◌≤◌, ◌⊎◌, inl, inr, ℤ, pos, unsigned_abs, length, get_or}
use Rattle.std.proofs.Common.{replicate, sym, subst}
use Rattle.std.proofs.Math.Dec.{lit≤}
use Rattle.std.proofs.lemmas.Bool.{cases_lt}
use Rattle.std.proofs.lemmas.List.{get_or-replicate, get_or_past, length-replicate}
use Rattle.std.proofs.lemmas.List.Elements.{All-replicate}
use Rattle.core_sums.specs.Places.{at}
use Rattle.core_sums.specs.Widths.{most64}
use Rattle.core_dict.specs.Programme.{Row, no_row, IsProgramme, IsSmall}
use Rattle.core_dict.specs.Programme.{most_size, zeros}

-- a row of zeros
abbrev zero_row : ℕ → Row
zero_row cols = record { entries = replicate cols (pos 0); bound = pos 0 }

-- a list of zeros has no other number
at_zeros : (n j : ℕ) → at (replicate n (pos 0)) j ≡ pos 0
at_zeros n j = by (cases_lt j n)
  where
    by : (j < n) ⊎ (n ≤ j) → at (replicate n (pos 0)) j ≡ pos 0
    by (inl l) = get_or-replicate n j (pos 0) (pos 0) l
    by (inr l) =
        get_or_past (replicate n (pos 0)) j (pos 0) (subst (λ (m : ℕ). m ≤ j) (sym (length-replicate n (pos 0))) l)

-- what holds of a row of zeros and past the last row holds of each
each : (P : Row → Type 0) (rows cols i : ℕ) → P (zero_row cols) → P no_row
    → P (get_or (replicate rows (zero_row cols)) i no_row)
each P rows cols i here past = by (cases_lt i rows)
  where
    by : (i < rows) ⊎ (rows ≤ i) → P (get_or (replicate rows (zero_row cols)) i no_row)
    by (inl l) = subst P (sym (get_or-replicate rows i (zero_row cols) no_row l)) here
    by (inr l) = subst P (sym (get_or_past (replicate rows (zero_row cols)) i no_row
        (subst (λ (m : ℕ). m ≤ i) (sym (length-replicate rows (zero_row cols))) l))) past

-- it is a programme
pub IsProgramme_zeros : (rows cols : ℕ) → 1 ≤ cols → IsProgramme (zeros rows cols)
IsProgramme_zeros rows cols h = record {
  last_column = h;
  widths = All-replicate (λ (r : Row). length r.entries ≡ cols) rows (zero_row cols) (length-replicate cols (pos 0));
}

-- and small
pub IsSmall_zeros : (rows cols : ℕ) → rows ≤ most_size → cols ≤ most_size → IsSmall (zeros rows cols)
IsSmall_zeros rows cols h k = record {
  rows = subst (λ (m : ℕ). m ≤ most_size) (sym (length-replicate rows (zero_row cols))) h;
  cols = k;
  entries = λ i j. each (λ (r : Row). unsigned_abs (at r.entries j) ≤ most64) rows cols i
      (subst (λ (z : ℤ). unsigned_abs z ≤ most64) (sym (at_zeros cols j)) (lit≤ tt)) (lit≤ tt);
  bounds = λ i. each (λ (r : Row). unsigned_abs r.bound ≤ most64) rows cols i (lit≤ tt) (lit≤ tt);
}
