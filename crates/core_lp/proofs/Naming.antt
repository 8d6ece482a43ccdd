-- What the names of a case's columns and rows speak of is in the case, and there are few.
use Rattle.std.proofs.Common.{◌≡◌, ◌*◌, ◌<◌, ◌≤◌, ℕ, length, get_or, [], ◌∷◌, ◌++◌, filter, true, arith}
use Rattle.std.proofs.Math.Nat.{mul-le-mul}
use Rattle.core_sums.specs.Places.{below, days_to, each}
use Rattle.core_book.specs.View.{CaseView, line, tiers, is_allowed}
use Rattle.core_book.specs.WellFormed.{IsCase}
use Rattle.core_book.proofs.Depth.{few-depth}
use Rattle.core_model.specs.Closing.{line_count}
use Rattle.core_model.specs.Layout.{amount_count, limit_count, pool_count}
use Rattle.core_model.proofs.FewLines.{lines-few}
use Rattle.core_model.proofs.Places.{closings-few}
use Rattle.core_lp.specs.declared.names.Col.{Col}
use Rattle.core_lp.specs.declared.names.Col.TheVariants as col
use Rattle.core_lp.specs.declared.names.RowName.{RowName}
use Rattle.core_lp.specs.declared.names.RowName.TheVariants as row
use Rattle.core_lp.specs.CaseProgramme.{columns, line_columns, day_columns, is_position, full_rows, back_rows, limit_rows, pool_rows, loss_rows, row_names}
use Rattle.core_lp.specs.Known.{IsColumn, IsRow}
use Rattle.core_lp.proofs.Alls.{AllOf, AllOf-places, AllOf-append, AllOf-map, AllOf-each, AllOf-filter, AllOf-below, AllOf-days}
use Rattle.core_lp.proofs.Walks.{columns-length, columns-below, back_rows-by_place, backs-below, full_rows-length, limit_rows-length, pool_rows-length, loss_rows-length, row_names-length, back_at}

module _ (c : CaseView) where
  day-known : (l u : ℕ) → l < line_count c → AllOf (IsColumn c) (day_columns c l u)
  day-known l u m =
      (AllOf-map (IsColumn c) (λ j. col.Close l u j) (filter (is_allowed c l u) (days_to (tiers c)))).1
      ((AllOf-filter (λ j. IsColumn c (col.Close l u j)) (is_allowed c l u) (days_to (tiers c))).1
      ((AllOf-days (λ j. is_allowed c l u j ≡ true → IsColumn c (col.Close l u j)) (tiers c)).1 (λ j r s e. (m, e))))

  line-known : (l : ℕ) → l < line_count c → AllOf (IsColumn c) (line_columns c l)
  line-known l m =
      (AllOf-each (IsColumn c) (days_to c.horizon) (day_columns c l)).1
      ((AllOf-days (λ u. AllOf (IsColumn c) (day_columns c l u)) c.horizon).1 (λ u p q. day-known l u m))

  columns-known : AllOf (IsColumn c) (columns c)
  columns-known =
      (AllOf-append (IsColumn c) (each (below (line_count c)) (line_columns c)) (col.Loss ∷ [])).1 (
        (AllOf-each (IsColumn c) (below (line_count c)) (line_columns c)).1
            ((AllOf-below (λ l. AllOf (IsColumn c) (line_columns c l)) (line_count c)).1 line-known),
        (tt, tt),
      )

  pub column-known : (k : ℕ) (d : Col) → k < length (columns c) → IsColumn c (get_or (columns c) k d)
  column-known k d l = (AllOf-places (IsColumn c) (columns c) d).0 columns-known k l

  full-known : AllOf (IsRow c) (full_rows c)
  full-known = (AllOf-map (IsRow c) (λ l. row.Full l) (below (line_count c))).1
      ((AllOf-below (λ l. IsRow c (row.Full l)) (line_count c)).1 (λ l m. m))

  back-known : AllOf (IsRow c) (back_rows c)
  back-known =
      (AllOf-map (IsRow c) (λ l. row.Back l) (filter (λ l. is_position (line c l).side) (below (line_count c)))).1
      ((AllOf-filter (λ l. IsRow c (row.Back l)) (λ l. is_position (line c l).side) (below (line_count c))).1
      ((AllOf-below (λ l. is_position (line c l).side ≡ true → IsRow c (row.Back l)) (line_count c)).1 (λ l m e. m)))

  limit-known : AllOf (IsRow c) (limit_rows c)
  limit-known =
      (AllOf-each (IsRow c) (below (length c.instruments)) _).1
      ((AllOf-below _ (length c.instruments)).1
      (λ i m. (AllOf-each (IsRow c) (days_to c.horizon) _).1
      ((AllOf-days _ c.horizon).1
      (λ u p q. (AllOf-map (IsRow c) (λ j. row.Limit i u j) (days_to (tiers c))).1
      ((AllOf-days (λ j. IsRow c (row.Limit i u j)) (tiers c)).1 (λ j r s. (m, (p, q), (r, s))))))))

  pool-known : AllOf (IsRow c) (pool_rows c)
  pool-known =
      (AllOf-each (IsRow c) (below (length c.pools)) _).1
      ((AllOf-below _ (length c.pools)).1
      (λ p m. (AllOf-map (IsRow c) (λ u. row.Pool p u) (days_to c.horizon)).1
      ((AllOf-days (λ u. IsRow c (row.Pool p u)) c.horizon).1 (λ u r s. (m, (r, s))))))

  loss-known : AllOf (IsRow c) (loss_rows c)
  loss-known =
      (AllOf-each (IsRow c) (below (length c.scenarios)) _).1
      ((AllOf-below _ (length c.scenarios)).1
      (λ k m. (AllOf-map (IsRow c) (λ t. row.Loss k t) (days_to c.last)).1
      ((AllOf-days (λ t. IsRow c (row.Loss k t)) c.last).1 (λ t r s. (m, r, s)))))

  rows-known : AllOf (IsRow c) (row_names c)
  rows-known =
      (AllOf-append (IsRow c) (full_rows c ++ back_rows c ++ limit_rows c ++ pool_rows c) (loss_rows c)).1 (
        (AllOf-append (IsRow c) (full_rows c ++ back_rows c ++ limit_rows c) (pool_rows c)).1 (
          (AllOf-append (IsRow c) (full_rows c ++ back_rows c) (limit_rows c)).1
              ((AllOf-append (IsRow c) (full_rows c) (back_rows c)).1 (full-known, back-known), limit-known),
          pool-known,
        ),
        loss-known,
      )

  pub row-known : (k : ℕ) (d : RowName) → k < length (row_names c) → IsRow c (get_or (row_names c) k d)
  row-known k d l = (AllOf-places (IsRow c) (row_names c) d).0 rows-known k l

  -- ---- how many there are
  pub columns-few : IsCase c → length (columns c) ≤ 65535
  columns-few kept =
      let few = columns-below c (amount_count c) in
      omega (arith, columns-length c, few, closings-few c kept)

  pub row_names-few : IsCase c → length (row_names c) ≤ 65535
  row_names-few kept =
      let lines = lines-few c kept in
      let backs = backs-below c (line_count c) in
      let same = ap-length in
      let limits : limit_count c ≤ 32 * 20 * 4 = mul-le-mul (mul-le-mul kept.instruments.0 kept.horizon.1) (few-depth c kept) in
      let pools : pool_count c ≤ 16 * 20 = mul-le-mul kept.pools.0 kept.horizon.1 in
      let losses : length c.scenarios * c.last ≤ 64 * 40 = mul-le-mul kept.scenarios.1 kept.last.1 in
      omega (
        arith,
        row_names-length c,
        full_rows-length c,
        limit_rows-length c,
        pool_rows-length c,
        loss_rows-length c,
        lines,
        backs,
        same,
        limits,
        pools,
        losses,
      )
    where
      ap-length : length (back_rows c) ≡ length (each (below (line_count c)) (back_at c))
      ap-length = rw (back_rows-by_place c)
