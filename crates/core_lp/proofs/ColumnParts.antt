-- What the rows of each kind give the column of a closing, and sums over the rows of a kind.
use Rattle.std.proofs.Common.{◌≡◌, refl, sym, ◌∙◌, ap, ℕ, suc, ◌<◌, ℤ, pos, ◌+ℤ◌, ◌-ℤ◌, ◌*ℤ◌, neg_ℤ}
use Rattle.std.proofs.Common.{Bool, true, false, eqb, ◌&&◌, length, if◌then◌else◌, eq-eqb, ne_eqb}
use Rattle.std.proofs.Common.{arith}
use Rattle.std.proofs.lemmas.Int.{ints}
use Rattle.std.proofs.Math.IntN.{*ℤ-zero}
use Rattle.core_sums.specs.Sums.{sum_below, sum_days}
use Rattle.core_sums.proofs.Ring.{*ℤ-distr_right, *ℤ-pos_one, *ℤ-neg, neg-*ℤ}
use Rattle.core_sums.proofs.SumLaws.{sum_below-cong, sum_below-none, sum_below-scale}
use Rattle.core_sums.proofs.SumLaws.{sum_below-scale_right, sum_below-neg, sum_below-minus}
use Rattle.core_sums.proofs.SumLaws.{sum_below-single}
use Rattle.core_sums.proofs.Order.{sum_below-grouped}
use Rattle.core_book.specs.View.{CaseView, instrument_of, member, tiers, counts}
use Rattle.core_book.specs.WellFormed.{IsCase}
use Rattle.core_book.specs.declared.parts.Side.{Side}
use Rattle.core_book.specs.declared.parts.Side.TheVariants.{Position, Collateral}
use Rattle.core_model.specs.Closing.{IsClosingDay, IsTierNumber, sum_tiers, fixed}
use Rattle.core_model.specs.Bounds.{alone, one_on, unit, sum_limits, sum_pools}
use Rattle.core_lp.specs.declared.names.RowName.TheVariants as row
use Rattle.core_lp.specs.CaseProgramme.{only_if, weight_in, is_position, close_entry}
use Rattle.core_lp.specs.Placing.{of_row, full_placed}
use Rattle.core_lp.proofs.Sums.{sum_days-single, sum_days-none, both_first, both_second, both_true}
use Rattle.core_lp.proofs.Pools.{member-kept}
use Rattle.core_lp.proofs.DayNought.{loss-day_nought}
use Rattle.core_lp.proofs.RowSums.{sum_later}

-- ---- products with numbers that a test keeps
off : (b : Bool) (x z : ℤ) → b ≡ false → x *ℤ only_if b z ≡ pos 0
off b x z e = ap (λ t. x *ℤ only_if t z) e ∙ *ℤ-zero x

kept-one : (b : Bool) (x : ℤ) → x *ℤ only_if b (pos 1) ≡ (if b then x else pos 0)
kept-one true x = *ℤ-pos_one x
kept-one false x = *ℤ-zero x

both_kept : (a b : Bool) (x z : ℤ)
    → x *ℤ only_if (a && b) z ≡ (if a then (if b then x *ℤ z else pos 0) else pos 0)
both_kept true true x z = refl
both_kept true false x z = *ℤ-zero x
both_kept false b x z = *ℤ-zero x

sum-kept : (b : Bool) (n : ℕ) (x z : ℕ → ℤ)
    → sum_below n (λ p. x p *ℤ only_if b (z p))
    ≡ (if b then sum_below n (λ p. x p *ℤ z p) else pos 0)
sum-kept true n x z = refl
sum-kept false n x z = sum_below-none n _ (λ p l. *ℤ-zero (x p))

-- the sum of the one line that is chosen
pub chosen : (n x : ℕ) (f : ℕ → ℤ) (z : ℤ) → x < n
    → sum_below n (λ i. f i *ℤ only_if (eqb i x) z) ≡ f x *ℤ z
chosen n x f z l =
    sum_below-single n x (λ i. f i *ℤ only_if (eqb i x) z) l
    (λ i k d. off (eqb i x) (f i) z (ne_eqb i x d))
    ∙ ap (λ b. f x *ℤ only_if b z) (eq-eqb x x refl)

pub chosen-if : (n x : ℕ) (p : ℕ → Bool) (f : ℕ → ℤ) (z : ℤ) → x < n
    → sum_below n (λ i. if p i then f i *ℤ only_if (eqb i x) z else pos 0)
    ≡ (if p x then f x *ℤ z else pos 0)
chosen-if n x p f z l =
    sum_below-single n x (λ i. if p i then f i *ℤ only_if (eqb i x) z else pos 0) l
    (λ i k d. none (p i) (f i *ℤ only_if (eqb i x) z) (off (eqb i x) (f i) z (ne_eqb i x d)))
    ∙ ap (λ b. if p x then f x *ℤ only_if b z else pos 0) (eq-eqb x x refl)
  where
    none : (b : Bool) (y : ℤ) → y ≡ pos 0 → (if b then y else pos 0) ≡ pos 0
    none true y e = e
    none false y e = refl

module _ (c : CaseView) where
  -- ---- sums over the later days
  pub later-cong : (f g : ℕ → ℕ → ℤ)
      → ((k t : ℕ) → k < length c.scenarios → t < c.last → f k (suc t) ≡ g k (suc t))
      → sum_later c f ≡ sum_later c g
  later-cong f g h =
      sum_below-cong (length c.scenarios) (λ k. sum_days c.last (f k)) (λ k. sum_days c.last (g k))
      (λ k l. sum_below-cong c.last (λ t. f k (suc t)) (λ t. g k (suc t)) (λ t m. h k t l m))

  pub later-neg : (f : ℕ → ℕ → ℤ) → sum_later c (λ k t. neg_ℤ (f k t)) ≡ neg_ℤ (sum_later c f)
  later-neg f =
      sum_below-cong (length c.scenarios) (λ k. sum_days c.last (λ t. neg_ℤ (f k t)))
      (λ k. neg_ℤ (sum_days c.last (f k))) (λ k l. sum_below-neg c.last (λ t. f k (suc t)))
      ∙ sum_below-neg (length c.scenarios) (λ k. sum_days c.last (f k))

  pub later-minus : (f g : ℕ → ℕ → ℤ)
      → sum_later c (λ k t. f k t -ℤ g k t) ≡ sum_later c f -ℤ sum_later c g
  later-minus f g =
      sum_below-cong (length c.scenarios) (λ k. sum_days c.last (λ t. f k t -ℤ g k t))
      (λ k. sum_days c.last (f k) -ℤ sum_days c.last (g k))
      (λ k l. sum_below-minus c.last (λ t. f k (suc t)) (λ t. g k (suc t)))
      ∙ sum_below-minus (length c.scenarios) (λ k. sum_days c.last (f k))
      (λ k. sum_days c.last (g k))

  pub later-scale_right : (f : ℕ → ℕ → ℤ) (z : ℤ)
      → sum_later c (λ k t. f k t *ℤ z) ≡ sum_later c f *ℤ z
  later-scale_right f z =
      sum_below-cong (length c.scenarios) (λ k. sum_days c.last (λ t. f k t *ℤ z))
      (λ k. sum_days c.last (f k) *ℤ z) (λ k l. sum_below-scale_right c.last (λ t. f k (suc t)) z)
      ∙ sum_below-scale_right (length c.scenarios) (λ k. sum_days c.last (f k)) z

  -- ---- by instrument, day and tier, and by pool and day
  pub limits-cong : (f g : ℕ → ℕ → ℕ → ℤ)
      → ((i u j : ℕ) → i < length c.instruments → IsClosingDay c u → IsTierNumber c j
      → f i u j ≡ g i u j)
      → sum_limits c f ≡ sum_limits c g
  limits-cong f g h =
      sum_below-cong (length c.instruments) (λ i. sum_days c.horizon (λ u. sum_tiers c (f i u)))
      (λ i. sum_days c.horizon (λ u. sum_tiers c (g i u)))
      (λ i l. sum_below-cong c.horizon (λ v. sum_tiers c (f i (suc v)))
      (λ v. sum_tiers c (g i (suc v)))
      (λ v m. sum_below-cong (tiers c) (λ j. f i (suc v) (suc j)) (λ j. g i (suc v) (suc j))
      (λ j n. h i (suc v) (suc j) l (omega arith, omega (arith, m))
      (omega arith, omega (arith, n)))))

  pub pools-cong : (f g : ℕ → ℕ → ℤ)
      → ((p u : ℕ) → p < length c.pools → IsClosingDay c u → f p u ≡ g p u)
      → sum_pools c f ≡ sum_pools c g
  pools-cong f g h =
      sum_below-cong (length c.pools) (λ p. sum_days c.horizon (f p))
      (λ p. sum_days c.horizon (g p))
      (λ p l. sum_below-cong c.horizon (λ v. f p (suc v)) (λ v. g p (suc v))
      (λ v m. h p (suc v) l (omega arith, omega (arith, m))))

  -- ---- a closing's limit, and its pools
  pub limit-one : (g : ℕ → ℕ → ℕ → ℤ) (l u j : ℕ) → instrument_of c l < length c.instruments
      → IsClosingDay c u
      → IsTierNumber c j
      → sum_limits c (λ i v k. g i v k *ℤ close_entry c (row.Limit i v k) l u j)
      ≡ (if counts c (instrument_of c l) u then g (instrument_of c l) u j else pos 0)
  limit-one g l u j known day tier =
      sum_below-single (length c.instruments) x
      (λ i. sum_days c.horizon (λ v. sum_tiers c (term i v))) known
      (λ i k d. sum_days-none c.horizon (λ v. sum_tiers c (term i v))
      (λ v. sum_days-none (tiers c) (term i v)
      (λ n. off (test i v n) (g i v n) (pos 1)
      (both_second (counts c i u && eqb v u && eqb n j) (eqb x i) (ne_eqb x i (λ e. d (sym e)))))))
      ∙ sum_days-single c.horizon u (λ v. sum_tiers c (term x v)) day.0 day.1
      (λ v d. sum_days-none (tiers c) (term x v)
      (λ n. off (test x v n) (g x v n) (pos 1)
      (both_first (counts c x u && eqb v u && eqb n j) (eqb x x)
      (both_first (counts c x u && eqb v u) (eqb n j)
      (both_second (counts c x u) (eqb v u) (ne_eqb v u d))))))
      ∙ sum_days-single (tiers c) j (term x u) tier.0 tier.1
      (λ n d. off (test x u n) (g x u n) (pos 1)
      (both_first (counts c x u && eqb u u && eqb n j) (eqb x x)
      (both_second (counts c x u && eqb u u) (eqb n j) (ne_eqb n j d))))
      ∙ ap (λ b. g x u j *ℤ only_if b (pos 1))
      (both_true (counts c x u && eqb u u && eqb j j) (eqb x x) (eq-eqb x x refl)
      ∙ both_true (counts c x u && eqb u u) (eqb j j) (eq-eqb j j refl)
      ∙ both_true (counts c x u) (eqb u u) (eq-eqb u u refl))
      ∙ kept-one (counts c x u) (g x u j)
    where
      x : ℕ
      x = instrument_of c l

      test : ℕ → ℕ → ℕ → Bool
      test i v n = counts c i u && eqb v u && eqb n j && eqb x i

      term : ℕ → ℕ → ℕ → ℤ
      term i v n = g i v n *ℤ only_if (test i v n) (pos 1)

  -- numbers of the pools times the weights that they give an instrument, by member
  pub by_member : (x : ℕ → ℤ) (i : ℕ) → IsCase c
      → sum_below (length c.pools) (λ p. x p *ℤ weight_in c p i)
      ≡ sum_below (length c.members)
      (λ m. if eqb (member c m).instrument i then x (member c m).pool *ℤ (member c m).weight
      else pos 0)
  by_member x i sound =
      sum_below-cong (length c.pools) (λ p. x p *ℤ weight_in c p i)
      (λ p. sum_below (length c.members) (λ m. if eqb (member c m).pool p then part m p else pos 0))
      (λ p l. sym
      (sum_below-scale (length c.members) (x p)
      (λ m. only_if (eqb (member c m).pool p && eqb (member c m).instrument i) (member c m).weight))
      ∙ sum_below-cong (length c.members)
      (λ m. x p *ℤ only_if (eqb (member c m).pool p && eqb (member c m).instrument i)
      (member c m).weight)
      (λ m. if eqb (member c m).pool p then part m p else pos 0)
      (λ m k. both_kept (eqb (member c m).pool p) (eqb (member c m).instrument i) (x p)
      (member c m).weight))
      ∙ sym
      (sum_below-grouped (length c.members) (length c.pools) (λ m. (member c m).pool) part
      (λ m k. (member-kept c m sound k).pool))
    where
      part : ℕ → ℕ → ℤ
      part m p = if eqb (member c m).instrument i then x p *ℤ (member c m).weight else pos 0

  pub pool-one : (g : ℕ → ℕ → ℤ) (l u j : ℕ) → IsClosingDay c u
      → sum_pools c (λ p v. g p v *ℤ close_entry c (row.Pool p v) l u j)
      ≡ (if counts c (instrument_of c l) u
      then sum_below (length c.pools) (λ p. g p u *ℤ weight_in c p (instrument_of c l)) else pos 0)
  pool-one g l u j day =
      sum_below-cong (length c.pools) (λ p. sum_days c.horizon (term p))
      (λ p. g p u *ℤ only_if (counts c x u) (weight_in c p x))
      (λ p k. sum_days-single c.horizon u (term p) day.0 day.1
      (λ v d. off (counts c x u && eqb v u) (g p v) (weight_in c p x)
      (both_second (counts c x u) (eqb v u) (ne_eqb v u d)))
      ∙ ap (λ b. g p u *ℤ only_if b (weight_in c p x))
      (both_true (counts c x u) (eqb u u) (eq-eqb u u refl)))
      ∙ sum-kept (counts c x u) (length c.pools) (λ p. g p u) (λ p. weight_in c p x)
    where
      x : ℕ
      x = instrument_of c l

      term : ℕ → ℕ → ℤ
      term p v = g p v *ℤ only_if (counts c x u && eqb v u) (weight_in c p x)

-- no unit is paid by day 0
pub unit-nought : (c : CaseView) (l k u j : ℕ) → unit c l k u j 0 ≡ pos 0
unit-nought c l k u j =
    let none : fixed (alone c l) 0 ≡ pos 0 = sum_below-none (suc 0) _ (λ t m. refl) in
    let e : neg_ℤ (unit c l k u j 0) ≡ neg_ℤ (pos 1 *ℤ pos 0) =
    loss-day_nought (alone c l) (one_on u j) k ∙ ap (λ z. neg_ℤ (pos 1 *ℤ z)) none in
    nothing (unit c l k u j 0) e
  where
    nothing : (z : ℤ) → neg_ℤ z ≡ neg_ℤ (pos 1 *ℤ pos 0) → z ≡ pos 0
    nothing z e = omega (arith, ints, e)

-- the full weight of a line, times a number
pub full-part : (c : CaseView) (y : ℕ → ℤ) (l : ℕ) (side : Side) (x : ℤ)
    → full_placed c y l side *ℤ x
    ≡ neg_ℤ ((of_row c y (row.Full l) *ℤ x)
    +ℤ (if is_position side then of_row c y (row.Back l) *ℤ neg_ℤ x else pos 0))
full-part c y l Position x = minus (of_row c y (row.Full l)) (of_row c y (row.Back l)) x
  where
    minus : (f b x : ℤ) → (b -ℤ f) *ℤ x ≡ neg_ℤ ((f *ℤ x) +ℤ (b *ℤ neg_ℤ x))
    minus f b x =
        let out : (b +ℤ neg_ℤ f) *ℤ x ≡ (b *ℤ x) +ℤ (neg_ℤ f *ℤ x) = *ℤ-distr_right b (neg_ℤ f) x in
        let left : neg_ℤ f *ℤ x ≡ neg_ℤ (f *ℤ x) = neg-*ℤ f x in
        let right : b *ℤ neg_ℤ x ≡ neg_ℤ (b *ℤ x) = *ℤ-neg b x in
        omega (arith, ints, out, left, right)
full-part c y l Collateral x = minus (of_row c y (row.Full l)) x
  where
    minus : (f x : ℤ) → neg_ℤ f *ℤ x ≡ neg_ℤ ((f *ℤ x) +ℤ pos 0)
    minus f x = let left : neg_ℤ f *ℤ x ≡ neg_ℤ (f *ℤ x) = neg-*ℤ f x in omega (arith, ints, left)
