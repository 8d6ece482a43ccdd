-- What each row of a case's programme sums of a calendar.
use Rattle.std.proofs.Common.{◌≡◌, ◌≢◌, refl, sym, ◌∙◌, ap, ℕ, suc, ◌<◌, ◌⊎◌, inl, inr, ℤ}
use Rattle.std.proofs.Common.{pos, negsuc, ◌*ℤ◌, neg_ℤ, Bool, true, false, eqb, ◌&&◌, length, []}
use Rattle.std.proofs.Common.{◌∷◌, if◌then◌else◌, eq-eqb, ne_eqb}
use Rattle.std.proofs.lemmas.Bool.{cases_eq}
use Rattle.std.proofs.Math.IntN.{*ℤ-zero}
use Rattle.algebra.proofs.Ring.{v, ◌⊗◌, ⊖, 𝟏, ring}
use Rattle.algebra.proofs.Integers.{int_ring}
use Rattle.core_sums.specs.Sums.{sum_below, sum_days}
use Rattle.core_sums.proofs.SumLaws.{sum_below-cong, sum_below-none, sum_below-scale, sum_below-scale_right}
use Rattle.core_sums.proofs.SumLaws.{sum_below-swap, sum_below-neg}
use Rattle.core_sums.proofs.Order.{sum_below-chosen}
use Rattle.core_book.specs.View.{CaseView, instrument_of, member, tiers, counts, is_allowed}
use Rattle.core_model.specs.Closing.{Plan, line_count, IsClosingDay, IsTierNumber, sum_tiers, closed_on, closed_in}
use Rattle.core_model.specs.Closing.{closed_of, is_pooled, pooled, ClosesAsAllowed}
use Rattle.core_model.specs.Bounds.{unit}
use Rattle.core_flows.specs.Laws.{paid_units}
use Rattle.core_lp.specs.declared.names.RowName.{RowName}
use Rattle.core_lp.specs.declared.names.RowName.TheVariants as row
use Rattle.core_lp.specs.CaseProgramme.{only_if, weight_in, close_entry}
use Rattle.core_lp.proofs.Totals.{allowed_only, sum_closings}
use Rattle.core_lp.proofs.Sums.{sum_days-cong, sum_days-single, sum_days-none, sum_days-scale, nought-times}
use Rattle.core_lp.proofs.Sums.{only-false, both_first, both_second, both_true}

module _ (c : CaseView) (a : Plan) where
  -- what the row of a name sums of the calendar's amounts
  abbrev pub closings : RowName → ℤ
  closings name = sum_closings c (λ l u j. close_entry c name l u j *ℤ a.amount l u j)

  -- a closing that is not allowed counts for nothing
  pub closings-allowed : ClosesAsAllowed c a → (g : ℕ → ℕ → ℕ → ℤ)
      → sum_closings c (allowed_only c (λ l u j. g l u j *ℤ a.amount l u j))
      ≡ sum_closings c (λ l u j. g l u j *ℤ a.amount l u j)
  closings-allowed h g =
      sum_below-cong (line_count c) _ _
      (λ l k. sum_days-cong c.horizon _ _
      (λ u m n. sum_days-cong (tiers c) _ _
      (λ j p q. by (is_allowed c l u j) l u j (λ e. h l u j (k, (m, n), (p, q)) e) refl)))
    where
      by : (b : Bool) (l u j : ℕ) → (is_allowed c l u j ≡ false → a.amount l u j ≡ pos 0)
          → is_allowed c l u j ≡ b
          → (if b then g l u j *ℤ a.amount l u j else pos 0) ≡ g l u j *ℤ a.amount l u j
      by true l u j none e = refl
      by false l u j none e = sym (ap (λ z. g l u j *ℤ z) (none e) ∙ *ℤ-zero (g l u j))

  -- ---- the line
  one_line : (x : ℕ) (k : ℤ) → x < line_count c
      → sum_closings c (λ l u j. only_if (eqb x l) k *ℤ a.amount l u j)
      ≡ k *ℤ sum_days c.horizon (closed_on c a x)
  one_line x k l =
      sum_below-cong (line_count c) _
      (λ m. if eqb x m then k *ℤ sum_days c.horizon (closed_on c a m) else pos 0) (λ m n. by (eqb x m) m)
      ∙ sum_below-chosen (line_count c) x (λ m. k *ℤ sum_days c.horizon (closed_on c a m)) l
    where
      by : (b : Bool) (m : ℕ) → sum_days c.horizon (λ u. sum_tiers c (λ j. only_if b k *ℤ a.amount m u j))
          ≡ (if b then k *ℤ sum_days c.horizon (closed_on c a m) else pos 0)
      by true m = sum_days-cong c.horizon _ _ (λ u p q. sum_days-scale (tiers c) k (a.amount m u))
          ∙ sum_days-scale c.horizon k (closed_on c a m)
      by false m =
          sum_days-none c.horizon _ (λ u. sum_days-none (tiers c) _ (λ j. nought-times (a.amount m u j)))

  -- all closings of a line
  pub closings-full : (x : ℕ) → x < line_count c
      → closings (row.Full x) ≡ sum_days c.horizon (closed_on c a x)
  closings-full x l = one_line x (pos 1) l
      ∙ ring int_ring (sum_days c.horizon (closed_on c a x) ∷ []) (𝟏 ⊗ v 0) (v 0) refl

  pub closings-back : (x : ℕ) → x < line_count c
      → closings (row.Back x) ≡ neg_ℤ (sum_days c.horizon (closed_on c a x))
  closings-back x l = one_line x (negsuc 0) l
      ∙ ring int_ring (sum_days c.horizon (closed_on c a x) ∷ []) (⊖ 𝟏 ⊗ v 0) (⊖ (v 0)) refl

  -- ---- the limit
  pub closings-limit : (i u j : ℕ) → IsClosingDay c u → IsTierNumber c j
      → closings (row.Limit i u j) ≡ (if counts c i u then closed_in c a i u j else pos 0)
  closings-limit i u j day tier =
      sum_below-cong (line_count c) _
      (λ l. if counts c i u && eqb (instrument_of c l) i then a.amount l u j else pos 0)
      (λ l m. of_line l)
      ∙ outer (counts c i u)
    where
      test : ℕ → ℕ → ℕ → Bool
      test l w k = counts c i w && eqb u w && eqb j k && eqb (instrument_of c l) i

      term : ℕ → ℕ → ℕ → ℤ
      term l w k = only_if (test l w k) (pos 1) *ℤ a.amount l w k

      none : (l w k : ℕ) → test l w k ≡ false → term l w k ≡ pos 0
      none l w k e = ap (λ z. z *ℤ a.amount l w k) (only-false (test l w k) (pos 1) e)
          ∙ nought-times (a.amount l w k)

      other_day : (l w : ℕ) → w ≢ u → (k : ℕ) → term l w k ≡ pos 0
      other_day l w d k =
          none l w k
          (both_first (counts c i w && eqb u w && eqb j k) (eqb (instrument_of c l) i)
          (both_first (counts c i w && eqb u w) (eqb j k)
          (both_second (counts c i w) (eqb u w) (ne_eqb u w (λ e. d (sym e))))))

      other_tier : (l k : ℕ) → k ≢ j → term l u k ≡ pos 0
      other_tier l k d =
          none l u k
          (both_first (counts c i u && eqb u u && eqb j k) (eqb (instrument_of c l) i)
          (both_second (counts c i u && eqb u u) (eqb j k) (ne_eqb j k (λ e. d (sym e)))))

      one : (b : Bool) (x : ℤ) → only_if b (pos 1) *ℤ x ≡ (if b then x else pos 0)
      one true x = ring int_ring (x ∷ []) (𝟏 ⊗ v 0) (v 0) refl
      one false x = nought-times x

      of_line : (l : ℕ)
          → sum_days c.horizon (λ w. sum_tiers c (term l w))
          ≡ (if counts c i u && eqb (instrument_of c l) i then a.amount l u j else pos 0)
      of_line l =
          sum_days-single c.horizon u (λ w. sum_tiers c (term l w)) day.0 day.1
          (λ w d. sum_days-none (tiers c) (term l w) (other_day l w d))
          ∙ sum_days-single (tiers c) j (term l u) tier.0 tier.1 (other_tier l)
          ∙ one (test l u j) (a.amount l u j)
          ∙ ap (λ b. if b && eqb (instrument_of c l) i then a.amount l u j else pos 0)
          (both_true (counts c i u && eqb u u) (eqb j j) (eq-eqb j j refl)
          ∙ both_true (counts c i u) (eqb u u) (eq-eqb u u refl))

      outer : (b : Bool)
          → sum_below (line_count c) (λ l. if b && eqb (instrument_of c l) i then a.amount l u j else pos 0)
          ≡ (if b then closed_in c a i u j else pos 0)
      outer true = refl
      outer false = sum_below-none (line_count c) _ (λ l m. refl)

  -- ---- the pool
  pub closings-pool : (p u : ℕ) → IsClosingDay c u → closings (row.Pool p u) ≡ pooled c a p u
  closings-pool p u day =
      sum_below-cong (line_count c) _ (λ l. sum_below (length c.members) (λ m. part l m)) (λ l k. of_line l)
      ∙ sum_below-swap (line_count c) (length c.members) part
      ∙ sum_below-cong (length c.members) _ _ (λ m k. of_member m)
    where
      i : ℕ → ℕ
      i l = instrument_of c l

      y : ℕ → ℤ
      y l = closed_on c a l u

      weight : ℕ → ℤ
      weight m = (member c m).weight

      part : ℕ → ℕ → ℤ
      part l m =
          if is_pooled c p u m then weight m *ℤ (if eqb (i l) (member c m).instrument then y l else pos 0)
          else pos 0

      of_member : (m : ℕ)
          → sum_below (line_count c) (λ l. part l m)
          ≡ (if is_pooled c p u m then weight m *ℤ closed_of c a (member c m).instrument u else pos 0)
      of_member m = by (is_pooled c p u m)
        where
          by : (b : Bool)
              → sum_below (line_count c)
              (λ l. if b then weight m *ℤ (if eqb (i l) (member c m).instrument then y l else pos 0)
              else pos 0) ≡ (if b then weight m *ℤ closed_of c a (member c m).instrument u else pos 0)
          by true =
              sum_below-scale (line_count c) (weight m)
              (λ l. if eqb (i l) (member c m).instrument then y l else pos 0)
          by false = sum_below-none (line_count c) _ (λ l k. refl)

      term : ℕ → ℕ → ℕ → ℤ
      term l w k = only_if (counts c (i l) w && eqb u w) (weight_in c p (i l)) *ℤ a.amount l w k

      one : (l m : ℕ)
          → only_if (counts c (i l) u)
          (only_if (eqb (member c m).pool p && eqb (member c m).instrument (i l)) (weight m) *ℤ y l)
          ≡ part l m
      one l m = same (cases_eq (member c m).instrument (i l))
        where
          n : ℕ
          n = (member c m).instrument

          b : Bool
          b = eqb (member c m).pool p

          equal : (d e : Bool)
              → only_if e (only_if (d && true) (weight m) *ℤ y l)
              ≡ (if d && e then weight m *ℤ y l else pos 0)
          equal true true = refl
          equal true false = refl
          equal false true = nought-times (y l)
          equal false false = refl

          apart : (d e g : Bool)
              → only_if e (only_if (d && false) (weight m) *ℤ y l)
              ≡ (if d && g then weight m *ℤ pos 0 else pos 0)
          apart true true true = nought-times (y l) ∙ sym (*ℤ-zero (weight m))
          apart true false true = sym (*ℤ-zero (weight m))
          apart true true false = nought-times (y l)
          apart true false false = refl
          apart false true g = nought-times (y l)
          apart false false g = refl

          same : (n ≡ i l) ⊎ (n ≢ i l)
              → only_if (counts c (i l) u) (only_if (b && eqb n (i l)) (weight m) *ℤ y l)
              ≡ (if b && counts c n u then weight m *ℤ (if eqb (i l) n then y l else pos 0) else pos 0)
          same (inl e) =
              ap (λ t. only_if (counts c (i l) u) (only_if (b && t) (weight m) *ℤ y l)) (eq-eqb n (i l) e)
              ∙ equal b (counts c (i l) u)
              ∙ ap (λ x. if b && counts c x u then weight m *ℤ y l else pos 0) (sym e)
              ∙ ap (λ t. if b && counts c n u then weight m *ℤ (if t then y l else pos 0) else pos 0)
              (sym (eq-eqb (i l) n (sym e)))
          same (inr e) =
              ap (λ t. only_if (counts c (i l) u) (only_if (b && t) (weight m) *ℤ y l)) (ne_eqb n (i l) e)
              ∙ apart b (counts c (i l) u) (counts c n u)
              ∙ ap (λ t. if b && counts c n u then weight m *ℤ (if t then y l else pos 0) else pos 0)
              (sym (ne_eqb (i l) n (λ f. e (sym f))))

      spread : (l : ℕ)
          → only_if (counts c (i l) u) (weight_in c p (i l)) *ℤ y l
          ≡ sum_below (length c.members) (λ m. part l m)
      spread l = by (counts c (i l) u) ∙ sum_below-cong (length c.members) _ _ (λ m k. one l m)
        where
          w : ℕ → ℤ
          w m = only_if (eqb (member c m).pool p && eqb (member c m).instrument (i l)) (weight m)

          by : (b : Bool)
              → only_if b (weight_in c p (i l)) *ℤ y l
              ≡ sum_below (length c.members) (λ m. only_if b (w m *ℤ y l))
          by true = sym (sum_below-scale_right (length c.members) w (y l))
          by false = nought-times (y l) ∙ sym (sum_below-none (length c.members) _ (λ m k. refl))

      of_line : (l : ℕ)
          → sum_days c.horizon (λ w. sum_tiers c (term l w)) ≡ sum_below (length c.members) (λ m. part l m)
      of_line l =
          sum_days-single c.horizon u (λ w. sum_tiers c (term l w)) day.0 day.1
          (λ w d. sum_days-none (tiers c) (term l w)
          (λ k. ap (λ z. z *ℤ a.amount l w k)
          (only-false (counts c (i l) w && eqb u w) (weight_in c p (i l))
          (both_second (counts c (i l) w) (eqb u w) (ne_eqb u w (λ e. d (sym e)))))
          ∙ nought-times (a.amount l w k)))
          ∙ sum_days-scale (tiers c) (only_if (counts c (i l) u && eqb u u) (weight_in c p (i l)))
          (a.amount l u)
          ∙ ap (λ t. only_if t (weight_in c p (i l)) *ℤ y l)
          (both_true (counts c (i l) u) (eqb u u) (eq-eqb u u refl))
          ∙ spread l

  -- ---- the loss
  pub closings-loss : ClosesAsAllowed c a → (k t : ℕ) → closings (row.Loss k t) ≡ neg_ℤ (paid_units c a k t)
  closings-loss h k t =
      sym (closings-allowed h (λ l u j. neg_ℤ (unit c l k u j t)))
      ∙ sum_below-cong (line_count c) _ _
      (λ l m. sum_days-cong c.horizon _ _
      (λ u p q. sum_days-cong (tiers c) _ _
      (λ j r s. one (is_allowed c l u j) (unit c l k u j t) (a.amount l u j))))
      ∙ sum_below-cong (line_count c) _ _
      (λ l m. sum_days-cong c.horizon _ _ (λ u p q. negated (tiers c) (λ j. paid l u j))
      ∙ negated c.horizon (λ u. sum_tiers c (λ j. paid l u j)))
      ∙ minus (line_count c) (λ l. sum_days c.horizon (λ u. sum_tiers c (λ j. paid l u j)))
    where
      paid : ℕ → ℕ → ℕ → ℤ
      paid l u j = if is_allowed c l u j then a.amount l u j *ℤ unit c l k u j t else pos 0

      one : (b : Bool) (x y : ℤ) → (if b then neg_ℤ x *ℤ y else pos 0) ≡ neg_ℤ (if b then y *ℤ x else pos 0)
      one true x y = ring int_ring (x ∷ y ∷ []) (⊖ (v 0) ⊗ v 1) (⊖ (v 1 ⊗ v 0)) refl
      one false x y = refl

      minus : (n : ℕ) (f : ℕ → ℤ) → sum_below n (λ l. neg_ℤ (f l)) ≡ neg_ℤ (sum_below n f)
      minus n f = sum_below-neg n f

      negated : (n : ℕ) (f : ℕ → ℤ) → sum_days n (λ u. neg_ℤ (f u)) ≡ neg_ℤ (sum_days n f)
      negated n f = sum_below-neg n (λ i. f (suc i))
