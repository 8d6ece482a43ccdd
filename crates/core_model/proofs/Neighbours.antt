-- Neighbours pay alike by unit of a line, and share their weights.
use Rattle.std.proofs.Common.{◌≡◌, sym, ◌∙◌, ap, ap₂, subst, ℕ, suc, ◌-◌, ◌+◌, ◌*◌, min, arith, ℤ, pos, ◌+ℤ◌, ◌-ℤ◌, ◌*ℤ◌, neg_ℤ, ◌&&◌, nat_le, if◌then◌else◌, length, [], ◌∷◌, map}
use Rattle.std.proofs.Math.Path.{fun_ext}
use Rattle.core_sums.specs.Sums.{sum_below, sum_days}
use Rattle.core_sums.specs.Places.{at}
use Rattle.core_book.specs.View.{CaseView, line, instrument_of, tiers, is_open, counts}
use Rattle.core_book.specs.Neighbours.{bare_tier, bare_pool, bare_case, IsNeighbour}
use Rattle.core_book.specs.Laws.{ClosesAlike}
use Rattle.core_book.specs.declared.parts.Kind.{Kind}
use Rattle.core_book.specs.declared.parts.Kind.TheVariants.{Future, Security}
use Rattle.core_book.proofs.Neighbours.{bare-tiers, bare-cost, bare-line, close-alike}
use Rattle.core_model.specs.declared.cert.Weights.{Weights}
use Rattle.core_model.specs.Closing.{Plan, line_count, size, price_of, price_change, kind_of, flow_by, flow, cost_flow, flows, is_paid_by, paid_by, fixed, cash_of}
use Rattle.core_model.specs.Layout.{scenario_weight}
use Rattle.core_model.specs.Bounds.{alone, one_on, unit, sum_losses, pool_charge, charge, AreWeights}
use Rattle.core_model.specs.Neighbours.{NeighboursPayAlike, NeighboursShareWeights}

-- a case without limits and caps
abbrev thin : CaseView → CaseView
thin c = record c { depth = map (map bare_tier) c.depth; pools = map bare_pool c.pools }

-- has the cash of the case
module _ (c : CaseView) (a : Plan) (k t : ℕ) where
  flow-by : (kind : Kind) (l v : ℕ) → flow_by kind (thin c) a k l v ≡ flow_by kind c a k l v
  flow-by Future l v =
      ap (λ n. size c l *ℤ price_change c k l v
      *ℤ (((line c l).amount *ℤ a.den) -ℤ sum_days (min (v - 1) c.horizon) (λ u. sum_days n (a.amount l u))))
      (bare-tiers c)
  flow-by Security l v =
      ap (λ n. if nat_le v c.horizon then size c l *ℤ price_of c k l v *ℤ sum_days n (a.amount l v) else pos 0) (bare-tiers c)

  flow-same : (l v : ℕ) → flow (thin c) a k l v ≡ flow c a k l v
  flow-same l v = ap (λ z. if is_open c (instrument_of c l) v then z else pos 0) (flow-by (kind_of c l) l v)

  cost-same : (l v j : ℕ) → cost_flow (thin c) a l v j ≡ cost_flow c a l v j
  cost-same l v j =
      ap (λ z. if is_open c (instrument_of c l) v && nat_le v c.horizon then neg_ℤ (z *ℤ a.amount l v j) else pos 0)
      (bare-cost c (instrument_of c l) j)

  flows-same : (l v : ℕ) → flows (thin c) a k l v ≡ flows c a k l v
  flows-same l v =
      ap₂ (◌+ℤ◌) (flow-same l v)
      (ap (λ n. sum_days n (cost_flow (thin c) a l v)) (bare-tiers c) ∙ ap (sum_days (tiers c)) (fun_ext (cost-same l v)))

  paid-same : (l v : ℕ) → paid_by (thin c) a k t l v ≡ paid_by c a k t l v
  paid-same l v = ap (λ z. if is_paid_by c l v t then z else pos 0) (flows-same l v)

  cash-same : cash_of (thin c) a k t ≡ cash_of c a k t
  cash-same =
      ap (λ f. (a.den *ℤ fixed c t) +ℤ sum_below (line_count c) (λ l. sum_days c.last (f l)))
      (fun_ext (λ l. fun_ext (paid-same l)))

-- so the unit of a bare case is that of the case
bare-unit : (c : CaseView) (l k u j t : ℕ) → unit (bare_case c) l k u j t ≡ unit c l k u j t
bare-unit c l k u j t =
    ap (λ x. cash_of (record (bare_case c) { lines = record x { amount = pos 1 } ∷ []; cash = [] }) (one_on u j) k t) (bare-line c l)
    ∙ cash-same (alone c l) (one_on u j) k t

pub neighbours-pay_alike : NeighboursPayAlike
neighbours-pay_alike c b near l k u j t =
    sym (bare-unit b l k u j t) ∙ ap (λ x. unit x l k u j t) near.same ∙ bare-unit c l k u j t

-- ---- weights
-- a case with the numbers of a neighbour is the neighbour
abbrev with_numbers : CaseView → CaseView → CaseView
with_numbers c b = record c { lines = b.lines; depth = b.depth; pools = b.pools; cash = b.cash }

numbers-of : (c b : CaseView) → bare_case b ≡ bare_case c → b ≡ with_numbers c b
numbers-of c b same = ap (λ z. with_numbers z b) same

module _ (c b : CaseView) (same : bare_case b ≡ bare_case c) where
  abbrev near : CaseView
  near = with_numbers c b

  near-same : bare_case near ≡ bare_case c
  near-same = ap bare_case (sym (numbers-of c b same)) ∙ same

  alike : ClosesAlike c near
  alike = close-alike c near near-same

  near-unit : (l k u j t : ℕ) → unit near l k u j t ≡ unit c l k u j t
  near-unit l k u j t = sym (bare-unit near l k u j t) ∙ ap (λ x. unit x l k u j t) near-same ∙ bare-unit c l k u j t

  -- they charge alike, by the number of tiers, the line's instrument and the units
  abbrev charge_by : Weights → ℕ → ℕ → ℕ → ℕ → (ℕ → ℕ → ℤ) → ℤ
  charge_by w u j n i units =
      (if counts c i u then at w.limit ((i * c.horizon + (u - 1)) * n + (j - 1)) +ℤ pool_charge c w i u else pos 0)
      -ℤ sum_losses c (λ k t. scenario_weight c w k t *ℤ units k t)

  near-charge : (w : Weights) (l u j : ℕ) → charge near w l u j ≡ charge c w l u j
  near-charge w l u j =
      ap₂ (λ n i. charge_by w u j n i (λ k t. unit near l k u j t)) alike.tiers (ap (λ x. x.instrument) (alike.lines l))
      ∙ ap (charge_by w u j (tiers c) (instrument_of c l)) (fun_ext (λ k. fun_ext (λ t. near-unit l k u j t)))

  near-weights : (w : Weights) (losses : ℤ) → AreWeights c w losses → AreWeights near w losses
  near-weights w losses weights = record {
    den = weights.den;
    scenarios = weights.scenarios;
    limits = λ i u j known day tier.
        rw alike.tiers (weights.limits i u j known day (tier.0, omega (arith, tier.1, alike.tiers)));
    pools = λ p u known day. weights.pools p u (omega (arith, known, alike.pool_count)) day;
    collateral = λ l known side.
        weights.collateral l (omega (arith, known, alike.line_count)) (sym (ap (λ x. x.side) (alike.lines l)) ∙ side);
    losses_sum = weights.losses_sum;
    charged = λ l u j known yes.
        rw (near-charge w l u j) (weights.charged l u j (omega (arith, known, alike.line_count)) (sym (alike.allowed l u j) ∙ yes));
  }

pub neighbours-share_weights : NeighboursShareWeights
neighbours-share_weights c b w losses near weights =
    subst (λ x. AreWeights x w losses) (sym (numbers-of c b near.same)) (near-weights c b near.same w losses weights)
