-- What placed weights charge a closing is what the rows sum in its column, and their bound is that
-- of the rows.
use Rattle.std.proofs.Common.{◌≡◌, sym, ◌∙◌, ap, ap₂, ℕ, suc, ◌<◌, ℤ, pos, negsuc, ◌+ℤ◌, ◌-ℤ◌}
use Rattle.std.proofs.Common.{◌*ℤ◌, neg_ℤ, Bool, true, false, eqb, length, if◌then◌else◌, refl}
use Rattle.std.proofs.Common.{arith}
use Rattle.std.proofs.lemmas.Int.{ints}
use Rattle.std.proofs.Math.IntN.{*ℤ-zero, *ℤ_comm}
use Rattle.core_sums.specs.Sums.{sum_below, sum_days}
use Rattle.core_sums.proofs.Ring.{*ℤ-distr_left, *ℤ-distr_right, *ℤ-pos_one, *ℤ-neg}
use Rattle.core_sums.proofs.SumLaws.{sum_below-cong, sum_below-none, sum_below-plus}
use Rattle.core_sums.proofs.SumLaws.{sum_below-scale_right, sum_below-neg, sum_below-first}
use Rattle.core_book.specs.View.{CaseView, line, instrument_of, member, pool, tiers, limit, counts}
use Rattle.core_book.specs.WellFormed.{IsCase}
use Rattle.core_model.specs.declared.cert.Weights.{Weights}
use Rattle.core_model.specs.Closing.{line_count, IsClosingDay, IsClosing, fixed}
use Rattle.core_model.specs.Layout.{scenario_weight, limit_weight, pool_weight, full_weight}
use Rattle.core_model.specs.Bounds.{unit, sum_losses, sum_limits, sum_pools, charge_by, pool_charge}
use Rattle.core_model.specs.Bounds.{limit_charge, charge, bound}
use Rattle.core_model.proofs.Sizes.{instrument-known}
use Rattle.core_lp.specs.declared.names.RowName.{RowName}
use Rattle.core_lp.specs.declared.names.RowName.TheVariants as row
use Rattle.core_lp.specs.CaseProgramme.{weight_in, is_position, close_entry, loss_entry, bound_of}
use Rattle.core_lp.specs.Placing.{of_row, weights_placed}
use Rattle.core_lp.proofs.Sums.{sum_days-none}
use Rattle.core_lp.proofs.Pools.{member-kept}
use Rattle.core_lp.proofs.RowNumbers.{over_rows}
use Rattle.core_lp.proofs.RowSums.{sum_backs, sum_later, over_rows-kinds}
use Rattle.core_lp.proofs.PlacedWeights.{scenario-placed, limit-placed, pool-placed, full-placed}
use Rattle.core_lp.proofs.ColumnParts.{later-cong, later-neg, later-minus, later-scale_right}
use Rattle.core_lp.proofs.ColumnParts.{limits-cong, pools-cong, limit-one, by_member, pool-one}
use Rattle.core_lp.proofs.ColumnParts.{chosen, chosen-if, unit-nought, full-part}

-- after day 0 the weights of the scenarios are the numbers of the loss rows
abbrev pub AreOfLosses : CaseView → (ℕ → ℤ) → (ℕ → ℕ → ℤ) → Type 0
AreOfLosses c y scenario =
    (k t : ℕ) → k < length c.scenarios → t < c.last → scenario k (suc t)
    ≡ of_row c y (row.Loss k (suc t))

-- the sum of the numbers of the loss rows, and that of the weights of day 0
abbrev pub all_losses : CaseView → (ℕ → ℤ) → ℤ
all_losses c y = sum_later c (λ k t. of_row c y (row.Loss k t))

abbrev pub all_first : CaseView → (ℕ → ℕ → ℤ) → ℤ
all_first c scenario = sum_below (length c.scenarios) (λ k. scenario k 0)

-- ---- the loss column
times-minus_one : (x : ℤ) → x *ℤ negsuc 0 ≡ neg_ℤ x
times-minus_one x = *ℤ-neg x (pos 1) ∙ ap neg_ℤ (*ℤ-pos_one x)

-- it has minus the numbers of the loss rows
pub losses-are : (c : CaseView) (y : ℕ → ℤ) → over_rows c y loss_entry ≡ neg_ℤ (all_losses c y)
losses-are c y =
    over_rows-kinds c y loss_entry
    ∙ only (sum_below (line_count c) (λ l. of_row c y (row.Full l) *ℤ pos 0))
    (sum_backs c (λ l. of_row c y (row.Back l) *ℤ pos 0))
    (sum_limits c (λ i u j. of_row c y (row.Limit i u j) *ℤ pos 0))
    (sum_pools c (λ p u. of_row c y (row.Pool p u) *ℤ pos 0))
    (sum_later c (λ k t. of_row c y (row.Loss k t) *ℤ negsuc 0)) (neg_ℤ (all_losses c y))
    (sum_below-none (line_count c) _ (λ l m. *ℤ-zero (of_row c y (row.Full l))))
    (sum_below-none (line_count c) _
    (λ l m. none (is_position (line c l).side) (of_row c y (row.Back l))))
    (sum_below-none (length c.instruments) _
    (λ i l. sum_days-none c.horizon _
    (λ u. sum_days-none (tiers c) _ (λ j. *ℤ-zero (of_row c y (row.Limit i u j))))))
    (sum_below-none (length c.pools) _
    (λ p l. sum_days-none c.horizon _ (λ u. *ℤ-zero (of_row c y (row.Pool p u)))))
    (later-cong c (λ k t. of_row c y (row.Loss k t) *ℤ negsuc 0)
    (λ k t. neg_ℤ (of_row c y (row.Loss k t)))
    (λ k t l m. times-minus_one (of_row c y (row.Loss k (suc t))))
    ∙ later-neg c (λ k t. of_row c y (row.Loss k t)))
  where
    none : (b : Bool) (x : ℤ) → (if b then x *ℤ pos 0 else pos 0) ≡ pos 0
    none true x = *ℤ-zero x
    none false x = refl

    only : (a b d e f z : ℤ) → a ≡ pos 0 → b ≡ pos 0 → d ≡ pos 0 → e ≡ pos 0 → f ≡ z
        → a +ℤ b +ℤ d +ℤ e +ℤ f ≡ z
    only a b d e f z p q r s t = omega (arith, ints, p, q, r, s, t)

module _ (c : CaseView) (den : ℤ) (scenario : ℕ → ℕ → ℤ) (y : ℕ → ℤ) where
  abbrev w : Weights
  w = weights_placed c den scenario y

  -- ---- the losses
  -- a sum over all scenarios and house days, with day 0 apart
  pub losses-split : AreOfLosses c y scenario → (f : ℕ → ℕ → ℤ → ℤ)
      → sum_losses c (λ k t. f k t (scenario_weight c w k t))
      ≡ sum_below (length c.scenarios) (λ k. f k 0 (scenario k 0))
      +ℤ sum_later c (λ k t. f k t (of_row c y (row.Loss k t)))
  losses-split later f =
      sum_below-cong (length c.scenarios)
      (λ k. sum_below (suc c.last) (λ t. f k t (scenario_weight c w k t)))
      (λ k. f k 0 (scenario k 0) +ℤ sum_days c.last (λ t. f k t (of_row c y (row.Loss k t))))
      (λ k l. sum_below-first c.last (λ t. f k t (scenario_weight c w k t))
      ∙ ap₂ ◌+ℤ◌ (ap (f k 0) (scenario-placed c den scenario y k 0 l (omega arith)))
      (sum_below-cong c.last (λ t. f k (suc t) (scenario_weight c w k (suc t)))
      (λ t. f k (suc t) (of_row c y (row.Loss k (suc t))))
      (λ t m. ap (f k (suc t)) (scenario-placed c den scenario y k (suc t) l (omega (arith, m))
      ∙ later k t l m))))
      ∙ sum_below-plus (length c.scenarios) (λ k. f k 0 (scenario k 0))
      (λ k. sum_days c.last (λ t. f k t (of_row c y (row.Loss k t))))

  -- ---- a closing
  -- what the pools charge
  pools-charge : (i u : ℕ) → IsCase c → IsClosingDay c u
      → pool_charge c w i u
      ≡ sum_below (length c.pools) (λ p. of_row c y (row.Pool p u) *ℤ weight_in c p i)
  pools-charge i u sound day =
      sum_below-cong (length c.members) (charge_by c w i u)
      (λ m. if eqb (member c m).instrument i
      then of_row c y (row.Pool (member c m).pool u) *ℤ (member c m).weight else pos 0)
      (λ m k. ap (λ z. if eqb (member c m).instrument i then z *ℤ (member c m).weight else pos 0)
      (pool-placed c den scenario y (member c m).pool u (member-kept c m sound k).pool day))
      ∙ sym (by_member c (λ p. of_row c y (row.Pool p u)) i sound)

  -- what they charge a closing less the full weight of its line is what the rows sum in its column
  pub placed-charge : (l u j : ℕ) → IsCase c → AreOfLosses c y scenario → IsClosing c l u j
      → over_rows c y (λ name. close_entry c name l u j) ≡ charge c w l u j -ℤ full_weight w l
  placed-charge l u j sound later place =
      joined (over_rows c y (λ name. close_entry c name l u j))
      (sum_below (line_count c) (λ m. part (row.Full m))) (sum_backs c (λ m. part (row.Back m)))
      (sum_limits c (λ i v k. part (row.Limit i v k))) (sum_pools c (λ p v. part (row.Pool p v)))
      (sum_later c (λ k t. part (row.Loss k t))) (limit_charge c w x u j) (full_weight w l)
      (sum_below (length c.scenarios) (λ k. scenario k 0 *ℤ unit c l k u j 0))
      (sum_later c (λ k t. g (row.Loss k t) *ℤ unit c l k u j t))
      (sum_losses c (λ k t. scenario_weight c w k t *ℤ unit c l k u j t))
      (over_rows-kinds c y (λ name. close_entry c name l u j)) full limits
      (losses-split later (λ k t z. z *ℤ unit c l k u j t))
      (sum_below-none (length c.scenarios) _
      (λ k m. ap (λ z. scenario k 0 *ℤ z) (unit-nought c l k u j) ∙ *ℤ-zero (scenario k 0)))
      (later-cong c (λ k t. part (row.Loss k t))
      (λ k t. neg_ℤ (g (row.Loss k t) *ℤ unit c l k u j t))
      (λ k t a b. *ℤ-neg (g (row.Loss k (suc t))) (unit c l k u j (suc t)))
      ∙ later-neg c (λ k t. g (row.Loss k t) *ℤ unit c l k u j t))
    where
      x : ℕ
      x = instrument_of c l

      g : RowName → ℤ
      g name = of_row c y name

      part : RowName → ℤ
      part name = g name *ℤ close_entry c name l u j

      known : x < length c.instruments
      known = instrument-known c l sound place.0

      full : full_weight w l
          ≡ neg_ℤ
          (sum_below (line_count c) (λ m. part (row.Full m))
          +ℤ sum_backs c (λ m. part (row.Back m)))
      full =
          full-placed c den scenario y l place.0 ∙ sym (*ℤ-pos_one _)
          ∙ full-part c y l (line c l).side (pos 1)
          ∙ ap neg_ℤ
          (ap₂ ◌+ℤ◌ (sym (chosen (line_count c) l (λ m. g (row.Full m)) (pos 1) place.0))
          (sym
          (chosen-if (line_count c) l (λ m. is_position (line c m).side) (λ m. g (row.Back m))
          (negsuc 0) place.0)))

      apart : (b : Bool) (p q : ℤ)
          → (if b then p +ℤ q else pos 0) ≡ (if b then p else pos 0) +ℤ (if b then q else pos 0)
      apart true p q = refl
      apart false p q = refl

      limits : limit_charge c w x u j
          ≡ sum_limits c (λ i v k. part (row.Limit i v k))
          +ℤ sum_pools c (λ p v. part (row.Pool p v))
      limits =
          ap₂ (λ p q. if counts c x u then p +ℤ q else pos 0)
          (limit-placed c den scenario y x u j known place.1 place.2)
          (pools-charge x u sound place.1)
          ∙ apart (counts c x u) (g (row.Limit x u j))
          (sum_below (length c.pools) (λ p. g (row.Pool p u) *ℤ weight_in c p x))
          ∙ ap₂ ◌+ℤ◌
          (sym (limit-one c (λ i v k. g (row.Limit i v k)) l u j known place.1 place.2))
          (sym (pool-one c (λ p v. g (row.Pool p v)) l u j place.1))

      joined : (over a b d e f charges full none paid losses : ℤ) → over ≡ a +ℤ b +ℤ d +ℤ e +ℤ f
          → full ≡ neg_ℤ (a +ℤ b) → charges ≡ d +ℤ e → losses ≡ none +ℤ paid → none ≡ pos 0
          → f ≡ neg_ℤ paid → over ≡ (charges -ℤ losses) -ℤ full
      joined over a b d e f charges full none paid losses p q r s t z =
          omega (arith, ints, p, q, r, s, t, z)

  -- ---- the bound
  -- it is minus the sum over the rows' bounds, less all scenario weights' cash of day 0
  pub placed-bound : AreOfLosses c y scenario
      → bound c w
      ≡ neg_ℤ (over_rows c y (bound_of c))
      -ℤ ((all_first c scenario +ℤ all_losses c y) *ℤ fixed c 0)
  placed-bound later =
      joined (over_rows c y (bound_of c)) (sum_below (line_count c) (λ l. part (row.Full l)))
      (sum_backs c (λ l. part (row.Back l))) (sum_limits c (λ i u j. part (row.Limit i u j)))
      (sum_pools c (λ p u. part (row.Pool p u))) (sum_later c (λ k t. part (row.Loss k t)))
      (sum_below (line_count c) (λ l. full_weight w l *ℤ (line c l).amount))
      (sum_limits c (λ i u j. limit c i u j *ℤ limit_weight c w i u j))
      (sum_pools c (λ p u. (pool c p).cap *ℤ pool_weight c w p u))
      (sum_losses c (λ k t. scenario_weight c w k t *ℤ fixed c t))
      (sum_below (length c.scenarios) (λ k. scenario k 0 *ℤ fixed c 0))
      (sum_later c (λ k t. g (row.Loss k t) *ℤ fixed c t))
      (sum_later c (λ k t. g (row.Loss k t) *ℤ fixed c 0)) (all_first c scenario)
      (all_losses c y) (fixed c 0) (over_rows-kinds c y (bound_of c)) full
      (limits-cong c (λ i u j. limit c i u j *ℤ limit_weight c w i u j)
      (λ i u j. part (row.Limit i u j))
      (λ i u j l day tier.
      ap (λ z. limit c i u j *ℤ z) (limit-placed c den scenario y i u j l day tier)
      ∙ *ℤ_comm (limit c i u j) (g (row.Limit i u j))))
      (pools-cong c (λ p u. (pool c p).cap *ℤ pool_weight c w p u) (λ p u. part (row.Pool p u))
      (λ p u l day. ap (λ z. (pool c p).cap *ℤ z) (pool-placed c den scenario y p u l day)
      ∙ *ℤ_comm (pool c p).cap (g (row.Pool p u))))
      (losses-split later (λ k t z. z *ℤ fixed c t))
      (sum_below-scale_right (length c.scenarios) (λ k. scenario k 0) (fixed c 0))
      (later-cong c (λ k t. part (row.Loss k t))
      (λ k t. (g (row.Loss k t) *ℤ fixed c t) -ℤ (g (row.Loss k t) *ℤ fixed c 0))
      (λ k t l m. times-minus (g (row.Loss k (suc t))) (fixed c (suc t)) (fixed c 0))
      ∙ later-minus c (λ k t. g (row.Loss k t) *ℤ fixed c t)
      (λ k t. g (row.Loss k t) *ℤ fixed c 0))
      (later-scale_right c (λ k t. g (row.Loss k t)) (fixed c 0))
    where
      g : RowName → ℤ
      g name = of_row c y name

      part : RowName → ℤ
      part name = g name *ℤ bound_of c name

      times-minus : (x p q : ℤ) → x *ℤ (p -ℤ q) ≡ (x *ℤ p) -ℤ (x *ℤ q)
      times-minus x p q =
          let out : x *ℤ (p +ℤ neg_ℤ q) ≡ (x *ℤ p) +ℤ (x *ℤ neg_ℤ q) =
          *ℤ-distr_left x p (neg_ℤ q) in
          let minus : x *ℤ neg_ℤ q ≡ neg_ℤ (x *ℤ q) = *ℤ-neg x q in
          omega (arith, ints, out, minus)

      -- what a line's back row gives, where it has one
      back : ℕ → ℤ
      back l = if is_position (line c l).side then part (row.Back l) else pos 0

      full : sum_below (line_count c) (λ l. full_weight w l *ℤ (line c l).amount)
          ≡ neg_ℤ
          (sum_below (line_count c) (λ l. part (row.Full l))
          +ℤ sum_backs c (λ l. part (row.Back l)))
      full =
          sum_below-cong (line_count c) (λ l. full_weight w l *ℤ (line c l).amount)
          (λ l. neg_ℤ (part (row.Full l) +ℤ back l))
          (λ l m. ap (λ z. z *ℤ (line c l).amount) (full-placed c den scenario y l m)
          ∙ full-part c y l (line c l).side (line c l).amount)
          ∙ sum_below-neg (line_count c) (λ l. part (row.Full l) +ℤ back l)
          ∙ ap neg_ℤ (sum_below-plus (line_count c) (λ l. part (row.Full l)) back)

      joined : (over a b d e f fulls lims pls losses p q cash first s z : ℤ)
          → over ≡ a +ℤ b +ℤ d +ℤ e +ℤ f → fulls ≡ neg_ℤ (a +ℤ b) → lims ≡ d → pls ≡ e
          → losses ≡ p +ℤ q → p ≡ first *ℤ z → f ≡ q -ℤ cash → cash ≡ s *ℤ z
          → ((neg_ℤ losses +ℤ fulls) -ℤ lims) -ℤ pls ≡ neg_ℤ over -ℤ ((first +ℤ s) *ℤ z)
      joined over a b d e f fulls lims pls losses p q cash first s z h i j k l m n o =
          let out : (first +ℤ s) *ℤ z ≡ (first *ℤ z) +ℤ (s *ℤ z) = *ℤ-distr_right first s z in
          omega (arith, ints, h, i, j, k, l, m, n, o, out)
