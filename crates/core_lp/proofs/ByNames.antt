-- The numbers of a case's programme by the names of their rows and columns.
use Rattle.std.proofs.Common.{◌≡◌, ◌∙◌, ap, ℕ, ◌-◌, ◌<◌, ℤ, pos, ◌*ℤ◌, true, ◌&&◌, nat_le}
use Rattle.std.proofs.Common.{◌==◌, is_some, if◌then◌else◌, [], ◌∷◌, length, filter, get_or, arith}
use Rattle.std.proofs.lemmas.Bool.{leb-true, and_parts}
use Rattle.std.proofs.lemmas.List.{get_or-map, length-append, length-map}
use Rattle.core_sums.specs.Sums.{sum_below}
use Rattle.core_sums.specs.Places.{at, below, days_to, each}
use Rattle.core_sums.proofs.SumLaws.{sum_below-cong}
use Rattle.core_book.specs.View.{CaseView, instrument, instrument_of, pays, counts, is_traded}
use Rattle.core_book.specs.View.{tiers, tiers_of}
use Rattle.core_book.specs.View.{is_allowed}
use Rattle.core_book.specs.WellFormed.{IsCase}
use Rattle.core_book.proofs.Depth.{within-depth}
use Rattle.core_model.specs.Closing.{line_count, IsClosing}
use Rattle.core_model.proofs.Sizes.{instrument-known}
use Rattle.core_dict.specs.Programme.{height, entry, bound, no_row}
use Rattle.core_lp.specs.declared.names.Col.{Col}
use Rattle.core_lp.specs.declared.names.Col.TheVariants as col
use Rattle.core_lp.specs.declared.names.RowName.{RowName}
use Rattle.core_lp.specs.declared.names.RowName.TheVariants as row
use Rattle.core_lp.specs.CaseProgramme.{columns, line_columns, day_columns, row_names, row_of}
use Rattle.core_lp.specs.CaseProgramme.{entry_at}
use Rattle.core_lp.specs.CaseProgramme.{bound_of, programme_of}
use Rattle.core_lp.proofs.Alls.{AllOf, AllOf-places, AllOf-append, AllOf-map, AllOf-each}
use Rattle.core_lp.proofs.Alls.{AllOf-filter}
use Rattle.core_lp.proofs.Alls.{AllOf-below, AllOf-days}
use Rattle.core_lp.proofs.RowNumbers.{over_rows}

-- a closing that is allowed is one of the case
pub closing-known : (c : CaseView) (l u j : ℕ) → IsCase c → l < line_count c
    → is_allowed c l u j ≡ true
    → IsClosing c l u j
closing-known c l u j is known e =
    let i = instrument_of c l in
    let all = and_parts
    (nat_le 1 u && nat_le u c.horizon && is_some (pays c i u) && nat_le 1 j
    && nat_le j (tiers_of c i))
    (if counts c i u then is_traded (instrument c i) u else j == 1) e in
    let tier = and_parts (nat_le 1 u && nat_le u c.horizon && is_some (pays c i u) && nat_le 1 j)
    (nat_le j (tiers_of c i)) all.0 in
    let first = and_parts (nat_le 1 u && nat_le u c.horizon && is_some (pays c i u))
    (nat_le 1 j) tier.0 in
    let day = and_parts (nat_le 1 u) (nat_le u c.horizon)
    (and_parts (nat_le 1 u && nat_le u c.horizon) (is_some (pays c i u)) first.0).0 in
    let deep = within-depth c i is (instrument-known c l is known) in
    let last = leb-true j (tiers_of c i) tier.1 in (
      known,
      (leb-true 1 u day.0, leb-true u c.horizon day.1),
      (leb-true 1 j first.1, omega (arith, deep, last)),
    )

module _ (c : CaseView) where
  -- what holds at each column holds of each allowed closing
  pub columns-each : (P : Col → Type 0)
      → ((k : ℕ) → k < length (columns c) → P (get_or (columns c) k col.Loss))
      → (l u j : ℕ) → IsClosing c l u j → is_allowed c l u j ≡ true → P (col.Close l u j)
  columns-each P h l u j is e =
      let all : AllOf P (columns c) = (AllOf-places P (columns c) col.Loss).1 h in
      let lines = (AllOf-each P (below (line_count c)) (line_columns c)).0
      ((AllOf-append P (each (below (line_count c)) (line_columns c)) (col.Loss ∷ [])).0 all).0 in
      let days = (AllOf-each P (days_to c.horizon) (day_columns c l)).0
      ((AllOf-below (λ l. AllOf P (line_columns c l)) (line_count c)).0 lines l is.0) in
      let closings = (AllOf-map P (λ j. col.Close l u j)
      (filter (is_allowed c l u) (days_to (tiers c)))).0
      ((AllOf-days (λ u. AllOf P (day_columns c l u)) c.horizon).0 days u is.1.0 is.1.1) in
      (AllOf-days (λ j. is_allowed c l u j ≡ true → P (col.Close l u j)) (tiers c)).0
      ((AllOf-filter (λ j. P (col.Close l u j)) (is_allowed c l u) (days_to (tiers c))).0 closings)
      j is.2.0 is.2.1 e

  -- there is a column
  pub some-column : length (columns c) - 1 < length (columns c)
  some-column =
      let f = length-append (each (below (line_count c)) (line_columns c)) (col.Loss ∷ []) in
      omega (arith, f)

  -- the rows are those of the names
  pub height-is : height (programme_of c) ≡ length (row_names c)
  height-is = length-map (row_names c) (row_of c)

  abbrev name : ℕ → RowName
  name i = get_or (row_names c) i (row.Full 0)

  -- a row's entry in a column, and its bound
  entry-is : (i j : ℕ) → i < length (row_names c) → j < length (columns c)
      → entry (programme_of c) i j ≡ entry_at c (name i) (get_or (columns c) j col.Loss)
  entry-is i j l m =
      ap (λ x. at x.entries j) (get_or-map (row_of c) (row_names c) i (row.Full 0) no_row l)
      ∙ get_or-map (entry_at c (name i)) (columns c) j col.Loss (pos 0) m

  bound-is : (i : ℕ) → i < length (row_names c) → bound (programme_of c) i ≡ bound_of c (name i)
  bound-is i l = ap (λ x. x.bound) (get_or-map (row_of c) (row_names c) i (row.Full 0) no_row l)

  -- so their sums over the rows are sums by name
  pub over_rows-column : (y : ℕ → ℤ) (j : ℕ) → j < length (columns c)
      → sum_below (height (programme_of c)) (λ i. y i *ℤ entry (programme_of c) i j)
      ≡ over_rows c y (λ x. entry_at c x (get_or (columns c) j col.Loss))
  over_rows-column y j m =
      ap (λ (n : ℕ). sum_below n (λ i. y i *ℤ entry (programme_of c) i j)) height-is
      ∙ sum_below-cong (length (row_names c)) _ _ (λ i l. ap (λ z. y i *ℤ z) (entry-is i j l m))

  pub over_rows-bound : (y : ℕ → ℤ)
      → sum_below (height (programme_of c)) (λ i. y i *ℤ bound (programme_of c) i)
      ≡ over_rows c y (bound_of c)
  over_rows-bound y =
      ap (λ (n : ℕ). sum_below n (λ i. y i *ℤ bound (programme_of c) i)) height-is
      ∙ sum_below-cong (length (row_names c)) _ _ (λ i l. ap (λ z. y i *ℤ z) (bound-is i l))
