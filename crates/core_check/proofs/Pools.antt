-- The charges of the pools on what counts, by instrument and by pool.
use Rattle.std.proofs.Common.{◌≡◌, refl, sym, ◌∙◌, ap, ℕ, suc, ℤ, pos, ◌*ℤ◌, ◌≤ℤ◌, arith, Bool, true, false, ◌&&◌, if◌then◌else◌, length, ◌==◌}
use Rattle.std.proofs.lemmas.Int.{ints}
use Rattle.std.proofs.Math.IntN.{*ℤ_comm, *ℤ-zero}
use Rattle.core_sums.specs.Sums.{sum_below, sum_days, sum_grid}
use Rattle.core_sums.proofs.Ring.{*ℤ-middle}
use Rattle.core_sums.proofs.SumLaws.{sum_below-cong, sum_below-zero, sum_below-scale, sum_below-swap}
use Rattle.core_sums.proofs.Order.{times-le}
use Rattle.core_sums.proofs.Grids.{sum_grid-cong, sum_grid-le, sum_grid-scale}
use Rattle.core_book.specs.View.{CaseView, instrument_of, member, pool, tiers, counts, no_member}
use Rattle.core_book.specs.WellFormed.{IsCase}
use Rattle.core_model.specs.declared.cert.Weights.{Weights}
use Rattle.core_model.specs.Closing.{Plan, line_count, IsAdmissible, closed_on, closed_in, closed_of, pooled, pooled_by}
use Rattle.core_model.specs.Layout.{pool_weight}
use Rattle.core_model.specs.Bounds.{pool_charge, AreWeights, sum_pools}
use Rattle.core_check.proofs.Slots.{slots, slot_day, sum-slots}
use Rattle.core_check.proofs.Charging.{counted_in, slot_counted, pool_charges, grouped-factor, reordered}

-- a sum of choices by one test
cond-sum : (b : Bool) (n : ℕ) (f : ℕ → ℤ) → sum_below n (λ j. if b then f j else pos 0) ≡ (if b then sum_below n f else pos 0)
cond-sum true n f = refl
cond-sum false n f = sum_below-zero n

-- what is closed of an instrument on a day is the sum of what is closed in its tiers
closed-tiers : (c : CaseView) (a : Plan) (i u : ℕ) → sum_days (tiers c) (closed_in c a i u) ≡ closed_of c a i u
closed-tiers c a i u =
    sum_below-swap (tiers c) (line_count c) (λ j l. if instrument_of c l == i then a.amount l u (suc j) else pos 0)
    ∙ sum_below-cong (line_count c) (λ l. sum_below (tiers c) (λ j. if instrument_of c l == i then a.amount l u (suc j) else pos 0))
    (λ l. if instrument_of c l == i then closed_on c a l u else pos 0)
    (λ l first. cond-sum (instrument_of c l == i) (tiers c) (λ j. a.amount l u (suc j)))

-- what counts of it
abbrev pub counted : CaseView → Plan → ℕ → ℕ → ℤ
counted c a i u = if counts c i u then closed_of c a i u else pos 0

counted-tiers : (c : CaseView) (a : Plan) (i u : ℕ) → sum_days (tiers c) (counted_in c a i u) ≡ counted c a i u
counted-tiers c a i u =
    cond-sum (counts c i u) (tiers c) (λ j. closed_in c a i u (suc j))
    ∙ ap (λ z. if counts c i u then z else pos 0) (closed-tiers c a i u)

-- so the charges of the pools run over days
pool-days : (c : CaseView) (w : Weights) (a : Plan)
    → pool_charges c w a ≡ sum_grid c.horizon (length c.instruments) (λ v i. pool_charge c w i (suc v) *ℤ counted c a i (suc v))
pool-days c w a =
    sum_below-swap (slots c) (length c.instruments) (λ q i. pool_charge c w i (slot_day c q) *ℤ slot_counted c a i q)
    ∙ sum_below-cong (length c.instruments) (λ i. sum_below (slots c) (λ q. pool_charge c w i (slot_day c q) *ℤ slot_counted c a i q))
    (λ i. sum_days c.horizon (λ u. pool_charge c w i u *ℤ counted c a i u))
    (λ i first.
    sym (sum-slots c (λ u j. pool_charge c w i u *ℤ counted_in c a i u j))
    ∙ sum_below-cong c.horizon (λ v. sum_days (tiers c) (λ j. pool_charge c w i (suc v) *ℤ counted_in c a i (suc v) j))
    (λ v. pool_charge c w i (suc v) *ℤ counted c a i (suc v))
    (λ v second.
    sum_below-scale (tiers c) (pool_charge c w i (suc v)) (λ j. counted_in c a i (suc v) (suc j))
    ∙ ap (λ z. pool_charge c w i (suc v) *ℤ z) (counted-tiers c a i (suc v))))
    ∙ sum_below-swap (length c.instruments) c.horizon (λ i v. pool_charge c w i (suc v) *ℤ counted c a i (suc v))

-- a member of a pool whose closings count
member-choice : (b d : Bool) (x y : ℤ) → (if b then x *ℤ (if d then y else pos 0) else pos 0) ≡ (if b && d then x *ℤ y else pos 0)
member-choice true true x y = refl
member-choice true false x y = *ℤ-zero x
member-choice false d x y = refl

-- the charges on a day, by pool
by-pool : (c : CaseView) (w : Weights) (a : Plan) (u : ℕ) → IsCase c
    → sum_below (length c.instruments) (λ i. pool_charge c w i u *ℤ counted c a i u)
    ≡ sum_below (length c.pools) (λ p. pool_weight c w p u *ℤ pooled c a p u)
by-pool c w a u sound =
    sum_below-cong (length c.instruments) (λ i. pool_charge c w i u *ℤ counted c a i u) (λ i. counted c a i u *ℤ pool_charge c w i u)
    (λ i second. *ℤ_comm (pool_charge c w i u) (counted c a i u))
    ∙ sym (grouped-factor (length c.members) (length c.instruments) (λ m. (member c m).instrument)
    (λ m. pool_weight c w (member c m).pool u *ℤ (member c m).weight) (λ i. counted c a i u)
    (λ m second. (sound.members.0 m no_member second).known))
    ∙ sum_below-cong (length c.members)
    (λ m. counted c a (member c m).instrument u *ℤ (pool_weight c w (member c m).pool u *ℤ (member c m).weight))
    (λ m. pool_weight c w (member c m).pool u *ℤ ((member c m).weight *ℤ counted c a (member c m).instrument u))
    (λ m second. *ℤ-middle (counted c a (member c m).instrument u) (pool_weight c w (member c m).pool u) (member c m).weight
    ∙ ap (λ z. pool_weight c w (member c m).pool u *ℤ z) (*ℤ_comm (counted c a (member c m).instrument u) (member c m).weight))
    ∙ grouped-factor (length c.members) (length c.pools) (λ m. (member c m).pool)
    (λ m. (member c m).weight *ℤ counted c a (member c m).instrument u) (λ p. pool_weight c w p u)
    (λ m second. (sound.members.0 m no_member second).pool)
    ∙ sum_below-cong (length c.pools)
    (λ p. pool_weight c w p u
    *ℤ sum_below (length c.members) (λ m. if (member c m).pool == p then (member c m).weight *ℤ counted c a (member c m).instrument u else pos 0))
    (λ p. pool_weight c w p u *ℤ pooled c a p u)
    (λ p second. ap (λ z. pool_weight c w p u *ℤ z)
    (sum_below-cong (length c.members) (λ m. if (member c m).pool == p then (member c m).weight *ℤ counted c a (member c m).instrument u else pos 0)
    (pooled_by c a p u)
    (λ m third.
    member-choice ((member c m).pool == p) (counts c (member c m).instrument u) (member c m).weight (closed_of c a (member c m).instrument u))))

pub pool-regrouped : (c : CaseView) (w : Weights) (a : Plan) → IsCase c
    → pool_charges c w a ≡ sum_grid c.horizon (length c.pools) (λ v p. pool_weight c w p (suc v) *ℤ pooled c a p (suc v))
pool-regrouped c w a sound =
    pool-days c w a
    ∙ sum_below-cong c.horizon (λ v. sum_below (length c.instruments) (λ i. pool_charge c w i (suc v) *ℤ counted c a i (suc v)))
    (λ v. sum_below (length c.pools) (λ p. pool_weight c w p (suc v) *ℤ pooled c a p (suc v))) (λ v first. by-pool c w a (suc v) sound)

-- the charges of the pools are at most what the caps cost
pub pool-le : (c : CaseView) (a : Plan) (w : Weights) (losses : ℤ) → IsAdmissible c a → AreWeights c w losses
    → sum_grid c.horizon (length c.pools) (λ v p. pool_weight c w p (suc v) *ℤ pooled c a p (suc v))
    ≤ℤ (a.den *ℤ sum_pools c (λ p u. (pool c p).cap *ℤ pool_weight c w p u))
pool-le c a w losses admissible weights =
    let less : sum_grid c.horizon (length c.pools) (λ v p. pool_weight c w p (suc v) *ℤ pooled c a p (suc v))
    ≤ℤ sum_grid c.horizon (length c.pools) (λ v p. pool_weight c w p (suc v) *ℤ ((pool c p).cap *ℤ a.den)) =
    sum_grid-le c.horizon (length c.pools) (λ v p. pool_weight c w p (suc v) *ℤ pooled c a p (suc v)) (λ v p. pool_weight c w p (suc v) *ℤ ((pool c p).cap *ℤ a.den))
    (λ v p first second. times-le (pool_weight c w p (suc v)) (pooled c a p (suc v)) ((pool c p).cap *ℤ a.den)
    (weights.pools p (suc v) second (omega arith, omega (arith, first))) (admissible.caps p (suc v) second (omega arith, omega (arith, first)))) in
    let out : sum_grid c.horizon (length c.pools) (λ v p. pool_weight c w p (suc v) *ℤ ((pool c p).cap *ℤ a.den))
    ≡ a.den *ℤ sum_pools c (λ p u. (pool c p).cap *ℤ pool_weight c w p u) =
    sum_grid-cong c.horizon (length c.pools) (λ v p. pool_weight c w p (suc v) *ℤ ((pool c p).cap *ℤ a.den)) (λ v p. a.den *ℤ ((pool c p).cap *ℤ pool_weight c w p (suc v)))
    (λ v p first second. reordered (pool_weight c w p (suc v)) (pool c p).cap a.den)
    ∙ sum_grid-scale c.horizon (length c.pools) a.den (λ v p. (pool c p).cap *ℤ pool_weight c w p (suc v))
    ∙ ap (λ z. a.den *ℤ z) (sum_below-swap c.horizon (length c.pools) (λ v p. (pool c p).cap *ℤ pool_weight c w p (suc v))) in
    omega (arith, ints, less, out)
