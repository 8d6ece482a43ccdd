-- The programme of a case is its calendars.
use Rattle.std.proofs.Common.{◌≡◌, ◌↔◌, refl, sym, ap, ℕ, zero, suc, ◌-◌, ◌<◌, ◌≤◌}
use Rattle.std.proofs.Common.{ℤ, pos, negsuc, ◌+ℤ◌, ◌-ℤ◌, ◌*ℤ◌, neg_ℤ, ◌≤ℤ◌, Bool, true, false}
use Rattle.std.proofs.Common.{true≢false, [], ◌∷◌, length}
use Rattle.std.proofs.Common.{if◌then◌else◌, arith}
use Rattle.std.proofs.lemmas.Int.{ints}
use Rattle.algebra.proofs.Ring.{v, ◌⊕◌, ◌⊗◌, ⊖, 𝟎, 𝟏, ring}
use Rattle.algebra.proofs.Integers.{int_ring}
use Rattle.core_sums.specs.Sums.{sum_days, greatest_to}
use Rattle.core_sums.proofs.Order.{times-nonneg}
use Rattle.core_sums.proofs.SumLaws.{greatest_to-bounds, greatest_to-le}
use Rattle.core_book.specs.View.{CaseView, line, pool, limit, tiers, counts, is_allowed}
use Rattle.core_book.specs.WellFormed.{IsCase}
use Rattle.core_book.specs.declared.parts.Side.{Side}
use Rattle.core_book.specs.declared.parts.Side.TheVariants.{Position, Collateral}
use Rattle.core_model.specs.Closing.{Plan, line_count, IsClosingDay, IsTierNumber, IsClosing, closed_on, closed_in}
use Rattle.core_model.specs.Closing.{pooled, ClosesLine, ClosesAsAllowed, ClosesInFull}
use Rattle.core_model.specs.Closing.{IsAdmissible, fixed, loss_of, worst_loss}
use Rattle.core_flows.specs.Laws.{CashByUnits, paid_units}
use Rattle.core_flows.proofs.CashLaw.{cash_by_units}
use Rattle.core_dict.specs.Programme.{IsFeasible}
use Rattle.core_lp.specs.declared.names.Col.TheVariants as col
use Rattle.core_lp.specs.declared.names.RowName.{RowName}
use Rattle.core_lp.specs.declared.names.RowName.TheVariants as row
use Rattle.core_lp.specs.CaseProgramme.{columns, is_position}
use Rattle.core_lp.specs.CaseProgramme.{programme_of, numbers_of}
use Rattle.core_lp.specs.Laws.{CalendarsAreProgramme}
use Rattle.core_lp.proofs.Alls.{AllOf-places}
use Rattle.core_lp.proofs.Closings.{closings, closings-full, closings-back, closings-limit}
use Rattle.core_lp.proofs.Closings.{closings-pool, closings-loss}
use Rattle.core_lp.proofs.DayNought.{loss-day_nought}
use Rattle.core_lp.proofs.Ranges.{limit_not_negative}
use Rattle.core_lp.proofs.Holding.{Holds, rows_hold, RowsHold, by_kind, NotNegative, signs}

module _ (c : CaseView) (a : Plan) (z : ℤ) (allowed : ClosesAsAllowed c a) where
  -- the rows and the signs
  abbrev H : RowName → Type 0
  H = Holds c a z allowed

  -- ---- a calendar that is feasible is admissible
  module _ (law : CashByUnits) (is : IsCase c) where
    -- what a loss row says where the lines are closed in full
    loss_row : ClosesInFull c a → (k t : ℕ) → k < length c.scenarios → t ≤ c.last → H (row.Loss k t)
        ↔ ((loss_of c a k t +ℤ (a.den *ℤ fixed c 0)) ≤ℤ z)
    loss_row full k t m n = (λ h. told h, λ h. said h)
      where
        paid : ℤ
        paid = paid_units c a k t

        x : ℤ
        x = a.den *ℤ fixed c t

        y : ℤ
        y = a.den *ℤ fixed c 0

        loss : loss_of c a k t ≡ neg_ℤ (x +ℤ paid)
        loss = ap neg_ℤ (law c a k t is allowed full m n)

        minus : negsuc 0 *ℤ z ≡ neg_ℤ z
        minus = ring int_ring (z ∷ []) (⊖ 𝟏 ⊗ v 0) (⊖ (v 0)) refl

        right : (fixed c t -ℤ fixed c 0) *ℤ a.den ≡ x -ℤ y
        right = ring int_ring (fixed c t ∷ fixed c 0 ∷ a.den ∷ []) ((v 0 ⊕ ⊖ (v 1)) ⊗ v 2)
            (v 2 ⊗ v 0 ⊕ ⊖ (v 2 ⊗ v 1)) refl

        sum : closings c a (row.Loss k t) ≡ neg_ℤ paid
        sum = closings-loss c a allowed k t

        told : H (row.Loss k t) → (loss_of c a k t +ℤ (a.den *ℤ fixed c 0)) ≤ℤ z
        told h = omega (arith, ints, h, loss, minus, right, sum)

        said : (loss_of c a k t +ℤ (a.den *ℤ fixed c 0)) ≤ℤ z → H (row.Loss k t)
        said h = omega (arith, ints, h, loss, minus, right, sum)

    -- what a full row and a back row say
    nought : pos 0 *ℤ z ≡ pos 0
    nought = ring int_ring (z ∷ []) (𝟎 ⊗ v 0) 𝟎 refl

    full_rows_say : ((l : ℕ) → l < line_count c → H (row.Full l))
        → ((l : ℕ) → l < line_count c → is_position (line c l).side ≡ true → H (row.Back l))
        → ClosesInFull c a
    full_rows_say full back l m = by (line c l).side (full l m) (back l m)
      where
        s : ℤ
        s = sum_days c.horizon (closed_on c a l)

        sum : closings c a (row.Full l) ≡ s
        sum = closings-full c a l m

        minus : closings c a (row.Back l) ≡ neg_ℤ s
        minus = closings-back c a l m

        turned : neg_ℤ (line c l).amount *ℤ a.den ≡ neg_ℤ ((line c l).amount *ℤ a.den)
        turned = ring int_ring ((line c l).amount ∷ a.den ∷ []) (⊖ (v 0) ⊗ v 1) (⊖ (v 0 ⊗ v 1)) refl

        by : (side : Side) → H (row.Full l) → (is_position side ≡ true → H (row.Back l))
            → ClosesLine side s ((line c l).amount *ℤ a.den)
        by Position f b = let g = b refl in omega (arith, ints, f, g, sum, minus, turned, nought)
        by Collateral f b = omega (arith, ints, f, sum, nought)

    lines_closed : ClosesInFull c a → (l : ℕ) → l < line_count c
        → H (row.Full l) × (is_position (line c l).side ≡ true → H (row.Back l))
    lines_closed full l m = by (line c l).side (full l m)
      where
        s : ℤ
        s = sum_days c.horizon (closed_on c a l)

        sum : closings c a (row.Full l) ≡ s
        sum = closings-full c a l m

        minus : closings c a (row.Back l) ≡ neg_ℤ s
        minus = closings-back c a l m

        turned : neg_ℤ (line c l).amount *ℤ a.den ≡ neg_ℤ ((line c l).amount *ℤ a.den)
        turned = ring int_ring ((line c l).amount ∷ a.den ∷ []) (⊖ (v 0) ⊗ v 1) (⊖ (v 0 ⊗ v 1)) refl

        by : (side : Side) → ClosesLine side s ((line c l).amount *ℤ a.den)
            → H (row.Full l) × (is_position side ≡ true → H (row.Back l))
        by Position f =
            (omega (arith, ints, f, sum, nought), λ e. omega (arith, ints, f, minus, turned, nought))
        by Collateral f = (omega (arith, ints, f, sum, nought), λ e. absurd (true≢false (sym e)))

    -- a limit row
    limit_says : (i u j : ℕ) → i < length c.instruments → IsClosingDay c u → IsTierNumber c j
        → pos 0 ≤ℤ (limit c i u j *ℤ a.den) → H (row.Limit i u j)
        ↔ (counts c i u ≡ true → closed_in c a i u j ≤ℤ (limit c i u j *ℤ a.den))
    limit_says i u j l d t room = by (counts c i u) (closings-limit c a i u j d t)
      where
        by : (b : Bool) → closings c a (row.Limit i u j) ≡ (if b then closed_in c a i u j else pos 0)
            → H (row.Limit i u j) ↔ (b ≡ true → closed_in c a i u j ≤ℤ (limit c i u j *ℤ a.den))
        by true e = (
          λ h f. omega (arith, ints, h, e, nought),
          λ h. let g = h refl in
              omega (arith, ints, g, e, nought),
        )
        by false e = (λ h f. absurd (true≢false (sym f)), λ h. omega (arith, ints, e, nought, room))

    -- a pool row
    pool_says : (p u : ℕ) → IsClosingDay c u → H (row.Pool p u)
        ↔ (pooled c a p u ≤ℤ ((pool c p).cap *ℤ a.den))
    pool_says p u d = let e = closings-pool c a p u d in
        (λ h. omega (arith, ints, h, e, nought), λ h. omega (arith, ints, h, e, nought))

    -- what is below a bound at each scenario and day is so at the worst
    worst_below : (y : ℤ) → ((k t : ℕ) → k < length c.scenarios → t ≤ c.last → (loss_of c a k t +ℤ y) ≤ℤ z)
        → (worst_loss c a +ℤ y) ≤ℤ z
    worst_below y h = let l =
        greatest_to-le (length c.scenarios - 1) (λ k. greatest_to c.last (loss_of c a k)) (z -ℤ y)
        (λ k m. greatest_to-le c.last (loss_of c a k) (z -ℤ y)
        (λ t n. let g = h k t (first k m) n in omega (arith, ints, g))) in omega (arith, ints, l)
      where
        first : (k : ℕ) → k ≤ length c.scenarios - 1 → k < length c.scenarios
        first k m = let e = is.scenarios.0 in omega (arith, m, e)

    below_worst : (k t : ℕ) → k < length c.scenarios → t ≤ c.last → loss_of c a k t ≤ℤ worst_loss c a
    below_worst k t m n = let f = greatest_to-bounds c.last (loss_of c a k) t n in let g =
        greatest_to-bounds (length c.scenarios - 1) (λ k. greatest_to c.last (loss_of c a k)) k
        (omega (arith, m)) in omega (arith, ints, f, g)

    room : pos 1 ≤ℤ a.den → (i u j : ℕ) → i < length c.instruments → pos 0 ≤ℤ (limit c i u j *ℤ a.den)
    room den i u j l =
        times-nonneg (limit c i u j) a.den (limit_not_negative c is i u j l) (omega (arith, ints, den))

    -- numerators that keep the rows are an admissible calendar
    pub feasible_is_admissible : IsFeasible (programme_of c) a.den (numbers_of c a z)
        → IsAdmissible c a × ((worst_loss c a +ℤ (a.den *ℤ fixed c 0)) ≤ℤ z)
    feasible_is_admissible h = (
      record {
        calendar = (h.den, λ l u j m. amount l u j (is_allowed c l u j) refl m);
        allowed = allowed;
        full = full;
        limits = λ i u j l d t. (limit_says i u j l d t (room h.den i u j l)).0 (rows.limits i u j l d t);
        caps = λ p u l d. (pool_says p u d).0 (rows.pools p u l d);
      },
      worst_below (a.den *ℤ fixed c 0) losses,
    )
      where
        rows : RowsHold c a z allowed
        rows = (by_kind c a z allowed).0 ((rows_hold c a z allowed).0 h.rows)

        full : ClosesInFull c a
        full = full_rows_say rows.full rows.back

        each_sign : ((l : ℕ) → l < line_count c → (u : ℕ) → 1 ≤ u → u ≤ c.horizon → (j : ℕ) → 1 ≤ j
            → j ≤ tiers c → is_allowed c l u j ≡ true → pos 0 ≤ℤ a.amount l u j) × (pos 0 ≤ℤ z)
        each_sign =
            (signs c a z allowed).0
            ((AllOf-places (NotNegative c a z allowed) (columns c) col.Loss).1 h.signs)

        amount : (l u j : ℕ) (b : Bool) → is_allowed c l u j ≡ b → IsClosing c l u j → pos 0 ≤ℤ a.amount l u j
        amount l u j true e m = each_sign.0 l m.0 u m.1.0 m.1.1 j m.2.0 m.2.1 e
        amount l u j false e m = let n = allowed l u j m e in omega (arith, ints, n)

        losses : (k t : ℕ) → k < length c.scenarios → t ≤ c.last
            → (loss_of c a k t +ℤ (a.den *ℤ fixed c 0)) ≤ℤ z
        losses k zero m n = let e = loss-day_nought c a k in let f = each_sign.1 in omega (arith, ints, e, f)
        losses k (suc t) m n = (loss_row full k (suc t) m n).0 (rows.losses k (suc t) m (omega arith) n)

    -- and an admissible calendar keeps the rows
    pub admissible_is_feasible : IsAdmissible c a → (worst_loss c a +ℤ (a.den *ℤ fixed c 0)) ≤ℤ z
        → IsFeasible (programme_of c) a.den (numbers_of c a z)
    admissible_is_feasible h worst = record {
      den = h.calendar.0;
      signs = (AllOf-places (NotNegative c a z allowed) (columns c) col.Loss).0
          ((signs c a z allowed).1 ((λ l m u p q j r s e. h.calendar.1 l u j (m, (p, q), (r, s))), last));
      rows = (rows_hold c a z allowed).1 ((by_kind c a z allowed).1 (record {
        full = λ l m. (lines_closed h.full l m).0;
        back = λ l m. (lines_closed h.full l m).1;
        limits = λ i u j l d t. (limit_says i u j l d t (room h.calendar.0 i u j l)).1 (h.limits i u j l d t);
        pools = λ p u l d. (pool_says p u d).1 (h.caps p u l d);
        losses = λ k t l m n. (loss_row h.full k t l n).1 (loss k t l n);
      }));
    }
      where
        loss : (k t : ℕ) → k < length c.scenarios → t ≤ c.last
            → (loss_of c a k t +ℤ (a.den *ℤ fixed c 0)) ≤ℤ z
        loss k t m n = let f = below_worst k t m n in omega (arith, ints, f, worst)

        last : pos 0 ≤ℤ z
        last = let e = loss-day_nought c a 0 in let f =
            loss 0 0 (let g = is.scenarios.0 in omega (arith, g)) (omega arith) in omega (arith, ints, e, f)

-- The programme is the calendars.
pub calendars_are_programme : CalendarsAreProgramme
calendars_are_programme c a z is allowed = (
  feasible_is_admissible c a z allowed cash_by_units is,
  λ h. admissible_is_feasible c a z allowed cash_by_units is h.0 h.1,
)
