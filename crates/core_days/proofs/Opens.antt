-- Counts of open days, and the pay days of a market that never closes.
use Rattle.std.proofs.Common.{◌≡◌, refl, sym, ◌∙◌, ap, ℕ, zero, suc, ◌+◌, ◌-◌, ◌<◌, ◌≤◌, ◌⊎◌, inl, inr, arith, Bool, true, false, cond, Some, None, ◌==◌, nat_le, if◌then◌else◌}
use Rattle.std.proofs.lemmas.Bool.{cases_lt, eq-eqb, ne_eqb, le-leb, lt-leb}
use Rattle.std.specs.Option.{option_map}
use Rattle.core_sums.proofs.Firsts.{least_below-some, least_below-none}
use Rattle.core_days.specs.Days.{open_days, pay_day}

-- where each of the n days after v is open, n are open
pub open_days-all : (is_open : ℕ → Bool) (v n : ℕ) → ((x : ℕ) → v < x → x ≤ v + n → is_open x ≡ true) → open_days is_open v n ≡ n
unfolding open_days
open_days-all is_open v zero opened = refl
open_days-all is_open v (suc n) opened =
    let rest : open_days is_open v n ≡ n = open_days-all is_open v n (λ x after within. opened x after (omega (arith, within))) in
    one_more rest (opened (v + suc n) (omega arith) (omega arith))
  where
    one_more : {m k : ℕ} {b : Bool} → m ≡ k → b ≡ true → m + (if b then 1 else 0) ≡ suc k
    one_more e is_true = grind (arith, e, is_true)

-- Where every day after v is open, the pay day is lag days after v, if that is no later than the last day.
pub pay_day-all_open : (is_open : ℕ → Bool) (last lag v : ℕ) → ((x : ℕ) → v < x → x ≤ last → is_open x ≡ true)
    → pay_day is_open last lag v ≡ (if nat_le (v + lag) last then Some (v + lag) else None)
pay_day-all_open is_open last lag v opened = split (cases_lt last (v + lag))
  where
    counted : (n : ℕ) → n < last + 1 - v → open_days is_open v n ≡ n
    counted n below = open_days-all is_open v n (λ x after within. opened x after (omega (arith, within, below)))

    before : (n : ℕ) → n < last + 1 - v → (n ≡ lag → ⊥) → (open_days is_open v n == lag) ≡ false
    before n below differ = ne_eqb (open_days is_open v n) lag (λ e. differ (sym (counted n below) ∙ e))

    split : (last < v + lag) ⊎ (v + lag ≤ last) → pay_day is_open last lag v ≡ (if nat_le (v + lag) last then Some (v + lag) else None)
    split (inl late) =
        ap (option_map (λ n. v + n)) (least_below-none (last + 1 - v) (λ n. open_days is_open v n == lag)
        (λ n below. before n below (λ e. omega (arith, e, below, late))))
        ∙ sym (ap (λ b. cond b (Some (v + lag)) None) (lt-leb (v + lag) last late))
    split (inr within) =
        ap (option_map (λ n. v + n)) (least_below-some (last + 1 - v) (λ n. open_days is_open v n == lag) lag (record {
          below = omega (arith, within);
          passes = eq-eqb (open_days is_open v lag) lag (counted lag (omega (arith, within)));
          least = λ n lower. before n (omega (arith, lower, within)) (λ e. omega (arith, e, lower));
        }))
        ∙ sym (ap (λ b. cond b (Some (v + lag)) None) (le-leb (v + lag) last within))
