-- The payable flows, flow by flow.
use Rattle.std.proofs.Common.{◌≡◌, ◌≢◌, refl, sym, ◌∙◌, ap, subst, ℕ, zero, suc, ◌+◌, ◌-◌, ◌<◌, ◌≤◌, ◌⊎◌, inl, inr, arith, ℤ, Bool, true, false, ◌==◌, List, [], ◌∷◌, ◌++◌, length, append_assoc, slice_set, length-set, replicate, Option, Some, None, if◌then◌else◌}
use Rattle.std.proofs.lemmas.List.{get_or-set_same, get_or-set_other, get_or-replicate, length-replicate}
use Rattle.std.proofs.lemmas.Bool.{eq-eqb, eqb-true, ne_eqb}
use Rattle.core_sums.specs.Places.{below, days_to, each, row_at}
use Rattle.core_book.specs.View.{CaseView, instrument_of, is_open, instrument, pays}
use Rattle.core_model.specs.Closing.{Plan, line_count}
use Rattle.core_days.specs.Days.{IsPayDay, pay_day}
use Rattle.core_days.proofs.PayDays.{pay_day-shows}
use Rattle.core_replay.specs.Ledger.{is_on, is_paid_on, line_flows, flows_of_day, flows_until}
use Rattle.core_replay.specs.Steps.{with_flows, ArePayable}
use Rattle.std.proofs.lemmas.List.{append-nil}
use Rattle.core_sums.proofs.Joined.{each-days_to-more, each-below-more, each-filter}

-- a pay day is not before the day, and is a house day
pub pays-within : (c : CaseView) (i v w : ℕ) → pays c i v ≡ Some w → (v ≤ w) × (w ≤ c.last)
pays-within c i v w e = by_open (is_open c i v) e
  where
    by_open : (b : Bool) → (if b then pay_day (is_open c i) c.last (instrument c i).lag v else None) ≡ Some w → (v ≤ w) × (w ≤ c.last)
    by_open true e = let day : IsPayDay (is_open c i) c.last (instrument c i).lag v w = pay_day-shows (is_open c i) c.last (instrument c i).lag v w e in (day.from, day.within)
    by_open false e = cc

-- the next line's flows are put behind those of their pay day
pub flows_of_day-none : (c : CaseView) (a : Plan) (k w v : ℕ) → flows_of_day c a k w v 0 ≡ []
unfolding below each
flows_of_day-none c a k w v = refl

pub flows_of_day-more : (c : CaseView) (a : Plan) (k w v l : ℕ)
    → flows_of_day c a k w v (suc l) ≡ flows_of_day c a k w v l ++ (if is_paid_on c v w l then line_flows c a k l v else [])
flows_of_day-more c a k w v l =
    each-filter (is_paid_on c v w) (λ m. line_flows c a k m v) (below (suc l))
    ∙ each-below-more l (λ m. if is_paid_on c v w m then line_flows c a k m v else [])
    ∙ ap (λ zs. zs ++ (if is_paid_on c v w l then line_flows c a k l v else [])) (sym (each-filter (is_paid_on c v w) (λ m. line_flows c a k m v) (below l)))

pub flows_until-none : (c : CaseView) (a : Plan) (k w : ℕ) → flows_until c a k w 0 ≡ []
unfolding days_to each
flows_until-none c a k w = refl

-- before day 0 and day 1 nothing is payable
pub payable-start : (c : CaseView) (a : Plan) (k n : ℕ) (payable : List (List ℤ)) → n ≡ suc c.last → payable ≡ replicate n [] → ArePayable c a k 0 0 payable
payable-start c a k n payable long e = record {
  count = ap length e ∙ length-replicate n [] ∙ long;
  each = λ w within.
      ap (λ ds. row_at ds w) e ∙ get_or-replicate n w [] [] (omega (arith, long, within))
      ∙ sym (ap (λ xs. xs ++ flows_of_day c a k w 1 0) (flows_until-none c a k w) ∙ flows_of_day-none c a k w 1);
}

-- ---- flows that are put one after the other

-- a row that is put back as it was
set-back : (payable : List (List ℤ)) (w : ℕ) → slice_set payable w (row_at payable w) ≡ payable
set-back [] w = refl
set-back (xs ∷ payable) zero = refl
set-back (xs ∷ payable) (suc w) = ap (λ ds. xs ∷ ds) (set-back payable w)

-- a row that is written twice
set-twice : (payable : List (List ℤ)) (w : ℕ) (xs ys : List ℤ) → slice_set (slice_set payable w xs) w ys ≡ slice_set payable w ys
set-twice [] w xs ys = refl
set-twice (zs ∷ payable) zero xs ys = refl
set-twice (zs ∷ payable) (suc w) xs ys = ap (λ ds. zs ∷ ds) (set-twice payable w xs ys)

pub with-none : (payable : List (List ℤ)) (o : Option ℕ) → with_flows payable o [] ≡ payable
with-none payable None = refl
with-none payable (Some w) = ap (slice_set payable w) (append-nil (row_at payable w)) ∙ set-back payable w

pub with-more : (payable : List (List ℤ)) (o : Option ℕ) (xs ys : List ℤ) → ((w : ℕ) → o ≡ Some w → w < length payable)
    → with_flows (with_flows payable o xs) o ys ≡ with_flows payable o (xs ++ ys)
with-more payable None xs ys within = refl
with-more payable (Some w) xs ys within =
    ap (λ zs. slice_set (slice_set payable w (row_at payable w ++ xs)) w (zs ++ ys)) (get_or-set_same payable w (row_at payable w ++ xs) [] (within w refl))
    ∙ ap (slice_set (slice_set payable w (row_at payable w ++ xs)) w) (append_assoc (row_at payable w) xs ys)
    ∙ set-twice payable w (row_at payable w ++ xs) (row_at payable w ++ (xs ++ ys))

-- as many rows as before
pub with-long : (payable : List (List ℤ)) (o : Option ℕ) (xs : List ℤ) → length (with_flows payable o xs) ≡ length payable
with-long payable None xs = refl
with-long payable (Some w) xs = length-set payable w (row_at payable w ++ xs)

-- a day that pays is one of the rows
pub pays-inside : (c : CaseView) (l t n : ℕ) → n ≡ suc c.last → (w : ℕ) → pays c (instrument_of c l) t ≡ Some w → w < n
pays-inside c l t n long w e = omega (arith, long, (pays-within c (instrument_of c l) t w e).1)

-- two days are the same or not
day_cases : (w p : ℕ) → (w ≡ p) ⊎ (w ≢ p)
day_cases w p = by_test (w == p) refl
  where
    by_test : (b : Bool) → (w == p) ≡ b → (w ≡ p) ⊎ (w ≢ p)
    by_test true e = inl (eqb-true w p e)
    by_test false e = inr (λ q. let f = eq-eqb w p q in cc)

-- the flows of line l on day v + 1
pub payable-more : (c : CaseView) (a : Plan) (k v l : ℕ) (payable : List (List ℤ)) → suc v ≤ c.last → ArePayable c a k v l payable
    → ArePayable c a k v (suc l) (with_flows payable (pays c (instrument_of c l) (suc v)) (line_flows c a k l (suc v)))
payable-more c a k v l payable within before = by_day (pays c (instrument_of c l) (suc v)) refl
  where
    more : (w : ℕ) (o : Option ℕ) → pays c (instrument_of c l) (suc v) ≡ o
        → flows_of_day c a k w (suc v) (suc l) ≡ flows_of_day c a k w (suc v) l ++ (if is_on o w then line_flows c a k l (suc v) else [])
    more w o e = flows_of_day-more c a k w (suc v) l ∙ ap (λ o. flows_of_day c a k w (suc v) l ++ (if is_on o w then line_flows c a k l (suc v) else [])) e

    same : (w : ℕ) (o : Option ℕ) → pays c (instrument_of c l) (suc v) ≡ o → is_on o w ≡ false → w ≤ c.last
        → row_at payable w ≡ flows_until c a k w v ++ flows_of_day c a k w (suc v) (suc l)
    same w o e off low =
        before.each w low
        ∙ ap (λ zs. flows_until c a k w v ++ zs)
        (sym (more w o e ∙ ap (λ b. flows_of_day c a k w (suc v) l ++ (if b then line_flows c a k l (suc v) else [])) off ∙ append-nil (flows_of_day c a k w (suc v) l)))

    by_day : (o : Option ℕ) → pays c (instrument_of c l) (suc v) ≡ o → ArePayable c a k v (suc l) (with_flows payable o (line_flows c a k l (suc v)))
    by_day None e = record { count = before.count; each = λ w low. same w None e refl low }
    by_day (Some p) e = record {
      count = length-set payable p (row_at payable p ++ (line_flows c a k l (suc v))) ∙ before.count;
      each = λ w low. at_day w low (day_cases w p);
    }
      where
        xs : List ℤ
        xs = line_flows c a k l (suc v)

        at_day : (w : ℕ) → w ≤ c.last → (w ≡ p) ⊎ (w ≢ p) → row_at (slice_set payable p (row_at payable p ++ xs)) w ≡ flows_until c a k w v ++ flows_of_day c a k w (suc v) (suc l)
        at_day w low (inr other) = get_or-set_other payable p w (row_at payable p ++ xs) [] other ∙ same w (Some p) e (ne_eqb p w (λ q. other (sym q))) low
        at_day w low (inl here) =
            let in_range : p < length payable = omega (arith, before.count, here, low) in
            let on : is_on (Some p) w ≡ true = eq-eqb p w (sym here) in
            ap (λ u. row_at (slice_set payable p (row_at payable p ++ xs)) u) here
            ∙ get_or-set_same payable p (row_at payable p ++ xs) [] in_range
            ∙ ap (λ u. row_at payable u ++ xs) (sym here)
            ∙ ap (λ zs. zs ++ xs) (before.each w low)
            ∙ append_assoc (flows_until c a k w v) (flows_of_day c a k w (suc v) l) xs
            ∙ ap (λ zs. flows_until c a k w v ++ zs)
            (sym (more w (Some p) e ∙ ap (λ b. flows_of_day c a k w (suc v) l ++ (if b then xs else [])) on))

-- after the last line the day is over
pub payable-done : (c : CaseView) (a : Plan) (k v n : ℕ) (payable : List (List ℤ)) → n ≡ line_count c → ArePayable c a k v n payable → ArePayable c a k (suc v) 0 payable
payable-done c a k v n payable e before = record {
  count = before.count;
  each = λ w low.
      before.each w low ∙ ap (λ (m : ℕ). flows_until c a k w v ++ flows_of_day c a k w (suc v) m) e
      ∙ sym (each-days_to-more v (λ u. flows_of_day c a k w u (line_count c)))
      ∙ sym (ap (λ xs. flows_until c a k w (suc v) ++ xs) (flows_of_day-none c a k w (suc (suc v))) ∙ append-nil (flows_until c a k w (suc v)));
}

-- what is payable on a day
pub payable-at : (c : CaseView) (a : Plan) (k v w : ℕ) (payable : List (List ℤ)) → w ≤ c.last → ArePayable c a k v 0 payable → row_at payable w ≡ flows_until c a k w v
payable-at c a k v w payable low before =
    before.each w low ∙ ap (λ zs. flows_until c a k w v ++ zs) (flows_of_day-none c a k w (suc v)) ∙ append-nil (flows_until c a k w v)

-- the same, by the day itself
pub payable-step : (c : CaseView) (a : Plan) (k t l : ℕ) (payable : List (List ℤ)) → 1 ≤ t → t ≤ c.last → ArePayable c a k (t - 1) l payable
    → ArePayable c a k (t - 1) (l + 1) (with_flows payable (pays c (instrument_of c l) t) (line_flows c a k l t))
payable-step c a k zero l payable from within before = absurd (omega arith)
payable-step c a k (suc v) l payable from within before =
    let e : suc v - 1 ≡ v = omega arith in
    let more : suc l ≡ l + 1 = omega arith in
    let now : ArePayable c a k v l payable = subst (λ (n : ℕ). ArePayable c a k n l payable) e before in
    subst (λ (n : ℕ). ArePayable c a k n (l + 1) (with_flows payable (pays c (instrument_of c l) (suc v)) (line_flows c a k l (suc v)))) (sym e)
    (subst (λ (n : ℕ). ArePayable c a k v n (with_flows payable (pays c (instrument_of c l) (suc v)) (line_flows c a k l (suc v)))) more (payable-more c a k v l payable within now))

pub payable-end : (c : CaseView) (a : Plan) (k t n : ℕ) (payable : List (List ℤ)) → 1 ≤ t → n ≡ line_count c → ArePayable c a k (t - 1) n payable → ArePayable c a k t 0 payable
payable-end c a k zero n payable from e before = absurd (omega arith)
payable-end c a k (suc v) n payable from e before =
    let same : suc v - 1 ≡ v = omega arith in payable-done c a k v n payable e (subst (λ (m : ℕ). ArePayable c a k m n payable) same before)
