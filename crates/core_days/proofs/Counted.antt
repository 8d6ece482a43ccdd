-- Counting down the open days after v, day by day, until the pay day.
use Rattle.std.proofs.Common.{◌≡◌, sym, ◌∙◌, ap, ℕ, zero, suc, ◌+◌, ◌-◌, ◌<◌, ◌≤◌, ◌⊎◌, inl, inr, arith, Bool, true, false, Some, None}
use Rattle.std.proofs.lemmas.Bool.{cases_lt}
use Rattle.core_days.specs.Days.{open_days, pay_day}
use Rattle.core_days.proofs.PayDays.{open_days-le, open_days-open, open_days-closed, pay_day-is, pay_day-none}

-- the open days after v and before w, and those that are left, are the lag
abbrev pub Counted : (ℕ → Bool) → ℕ → ℕ → ℕ → ℕ → Type 0
Counted is_open lag v w left = (n : ℕ) → v + suc n ≡ w → open_days is_open v n + left ≡ lag

-- on the day after v none is counted
pub counted-start : (is_open : ℕ → Bool) (lag v : ℕ) → Counted is_open lag v (v + 1) lag
unfolding open_days
counted-start is_open lag v zero e = omega arith
counted-start is_open lag v (suc n) e = absurd (omega (arith, e))

-- an open day takes one of those that are left
pub counted-open : (is_open : ℕ → Bool) (lag v w left rest : ℕ) → is_open w ≡ true → 0 < left → rest ≡ left - 1 → v < w
    → Counted is_open lag v w left → Counted is_open lag v (w + 1) rest
counted-open is_open lag v w left rest day some one after counted zero e = absurd (omega (arith, e, after))
counted-open is_open lag v w left rest day some one after counted (suc n) e =
    let here : v + suc n ≡ w = omega (arith, e) in
    let before : open_days is_open v n + left ≡ lag = counted n here in
    let more : open_days is_open v (suc n) ≡ open_days is_open v n + 1 = open_days-open is_open v n (ap is_open here ∙ day) in
    omega (arith, before, more, some, one)

-- a closed day takes none
pub counted-closed : (is_open : ℕ → Bool) (lag v w left rest : ℕ) → is_open w ≡ false → rest ≡ left → v < w
    → Counted is_open lag v w left → Counted is_open lag v (w + 1) rest
counted-closed is_open lag v w left rest day all after counted zero e = absurd (omega (arith, e, after))
counted-closed is_open lag v w left rest day all after counted (suc n) e =
    let here : v + suc n ≡ w = omega (arith, e) in
    let before : open_days is_open v n + left ≡ lag = counted n here in
    let same : open_days is_open v (suc n) ≡ open_days is_open v n = open_days-closed is_open v n (ap is_open here ∙ day) in
    omega (arith, before, same, all)

-- under no lag a day pays on itself
pub paid_at_once : (is_open : ℕ → Bool) (last lag v : ℕ) → v ≤ last → lag ≡ 0 → Some v ≡ pay_day is_open last lag v
unfolding open_days
paid_at_once is_open last lag v within none =
    sym (pay_day-is is_open last lag v v (record {
      from = omega arith;
      within = within;
      opened = let here : v - v ≡ 0 = omega arith in ap (open_days is_open v) here ∙ sym none;
      least = λ x from below e. from;
    }))

-- where one is left, the next open day is the pay day
pub counted-found : (is_open : ℕ → Bool) (last lag v w left : ℕ) → is_open w ≡ true → left ≡ 1 → v < w → w ≤ last
    → Counted is_open lag v w left → Some w ≡ pay_day is_open last lag v
counted-found is_open last lag v w left day one after within counted =
    sym (pay_day-is is_open last lag v w (record { from = omega (arith, after); within = within; opened = opened; least = least }))
  where
    before : open_days is_open v (w - v - 1) + 1 ≡ lag
    before = let count : open_days is_open v (w - v - 1) + left ≡ lag = counted (w - v - 1) (omega (arith, after)) in omega (arith, count, one)

    opened : open_days is_open v (w - v) ≡ lag
    opened =
        let here : v + suc (w - v - 1) ≡ w = omega (arith, after) in
        let more : open_days is_open v (suc (w - v - 1)) ≡ open_days is_open v (w - v - 1) + 1 = open_days-open is_open v (w - v - 1) (ap is_open here ∙ day) in
        let same : open_days is_open v (w - v) ≡ open_days is_open v (suc (w - v - 1)) = ap (open_days is_open v) (omega (arith, after)) in
        omega (arith, before, more, same)

    least : (x : ℕ) → v ≤ x → x ≤ last → open_days is_open v (x - v) ≡ lag → w ≤ x
    least x from below e = split (cases_lt x w)
      where
        split : (x < w) ⊎ (w ≤ x) → w ≤ x
        split (inr late) = late
        split (inl early) =
            let less : open_days is_open v (x - v) ≤ open_days is_open v (w - v - 1) = open_days-le is_open v (x - v) (w - v - 1) (omega (arith, early, from)) in
            absurd (omega (arith, less, before, e))

-- where the days end first, there is no pay day
pub counted-none : (is_open : ℕ → Bool) (last lag v w left : ℕ) → v < w → last < w → 0 < left → Counted is_open lag v w left
    → None ≡ pay_day is_open last lag v
counted-none is_open last lag v w left after past some counted = sym (pay_day-none is_open last lag v never)
  where
    before : open_days is_open v (w - v - 1) + left ≡ lag
    before = counted (w - v - 1) (omega (arith, after))

    never : (n : ℕ) → v + n ≤ last → open_days is_open v n ≡ lag → ⊥
    never n within e =
        let less : open_days is_open v n ≤ open_days is_open v (w - v - 1) = open_days-le is_open v n (w - v - 1) (omega (arith, within, past)) in
        omega (arith, less, before, e, some)
