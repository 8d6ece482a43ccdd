-- The function of pay days and the relation of pay days agree.
use Rattle.std.proofs.Common.{◌≡◌, refl, ◌∙◌, ap, subst, ℕ, zero, suc, ◌+◌, ◌-◌, ◌<◌, ◌≤◌, ◌⊎◌, inl, inr, arith, Bool, true, false, cond, Option, Some, None, ◌==◌, if◌then◌else◌, ◌↔◌}
use Rattle.std.proofs.lemmas.Bool.{cases_lt, eq-eqb, ne_eqb, eqb-true}
use Rattle.std.specs.Option.{option_map}
use Rattle.core_sums.specs.Places.{least_below}
use Rattle.core_sums.proofs.Firsts.{IsFirst, Answers, least_below-answers, least_below-some, least_below-none, least_below-cong}
use Rattle.core_days.specs.Days.{open_days, IsPayDay, pay_day}
use Rattle.core_days.specs.Laws.{PayDayIsLeast, PayDayStandsOnDaysAfter}

-- exactly lag of the n days after v are open
abbrev pub passed : (ℕ → Bool) → ℕ → ℕ → ℕ → Bool
passed is_open lag v n = open_days is_open v n == lag

-- the count of open days does not fall
pub open_days-le : (is_open : ℕ → Bool) (v m n : ℕ) → m ≤ n → open_days is_open v m ≤ open_days is_open v n
unfolding open_days
open_days-le is_open v m zero within = let e : m ≡ 0 = omega arith in rw e (omega arith)
open_days-le is_open v m (suc n) within = split (λ lower. open_days-le is_open v m n lower) (cases_lt m (suc n))
  where
    split : (m ≤ n → open_days is_open v m ≤ open_days is_open v n) → (m < suc n) ⊎ (suc n ≤ m)
        → open_days is_open v m ≤ open_days is_open v n + (if is_open (v + suc n) then 1 else 0)
    split rest (inl lower) = let less = rest (omega (arith, lower)) in omega (arith, less)
    split rest (inr same) = let e : m ≡ suc n = omega (arith, same, within) in rw e (omega arith)

-- an open day counts as one
pub open_days-open : (is_open : ℕ → Bool) (v n : ℕ) → is_open (v + suc n) ≡ true → open_days is_open v (suc n) ≡ open_days is_open v n + 1
unfolding open_days
open_days-open is_open v n e = ap (λ b. open_days is_open v n + cond b 1 0) e

-- a closed day counts as none
pub open_days-closed : (is_open : ℕ → Bool) (v n : ℕ) → is_open (v + suc n) ≡ false → open_days is_open v (suc n) ≡ open_days is_open v n
unfolding open_days
open_days-closed is_open v n e = let same : open_days is_open v n + 0 ≡ open_days is_open v n = omega arith in ap (λ b. open_days is_open v n + cond b 1 0) e ∙ same

-- a pay day is what the function answers
pub pay_day-is : (is_open : ℕ → Bool) (last lag v w : ℕ) → IsPayDay is_open last lag v w → pay_day is_open last lag v ≡ Some w
pay_day-is is_open last lag v w day =
    ap (option_map (λ n. v + n)) (least_below-some (last + 1 - v) (passed is_open lag v) (w - v) first) ∙ ap (λ x. Some x) back
  where
    back : v + (w - v) ≡ w
    back = let from = day.from in omega (arith, from)

    earlier : (k : ℕ) → k < w - v → open_days is_open v k ≡ lag → ⊥
    earlier k under e =
        let same : open_days is_open v (v + k - v) ≡ lag = ap (open_days is_open v) (omega arith) ∙ e in
        let late : w ≤ v + k = day.least (v + k) (omega arith) (omega (arith, under, day.within)) same in
        omega (arith, under, late)

    first : IsFirst (last + 1 - v) (passed is_open lag v) (w - v)
    first = record {
      below = let from = day.from in let within = day.within in omega (arith, from, within);
      passes = eq-eqb (open_days is_open v (w - v)) lag day.opened;
      least = λ k under. ne_eqb (open_days is_open v k) lag (earlier k under);
    }

-- where no day is a pay day, the function answers none
pub pay_day-none : (is_open : ℕ → Bool) (last lag v : ℕ) → ((n : ℕ) → v + n ≤ last → open_days is_open v n ≡ lag → ⊥)
    → pay_day is_open last lag v ≡ None
pay_day-none is_open last lag v never =
    ap (option_map (λ n. v + n)) (least_below-none (last + 1 - v) (passed is_open lag v)
    (λ n below. ne_eqb (open_days is_open v n) lag (never n (omega (arith, below)))))

-- what the function answers is a pay day, or shows that there is none
by_answer : (is_open : ℕ → Bool) (last lag v : ℕ) (o : Option ℕ) → Answers (last + 1 - v) (passed is_open lag v) o
    → (w : ℕ) → option_map (λ n. v + n) o ≡ Some w → IsPayDay is_open last lag v w
by_answer is_open last lag v None none w e = absurd (cc)
by_answer is_open last lag v (Some n) first w e =
    let same : v + n ≡ w = cc in
    let P : ℕ → Type 0 = IsPayDay is_open last lag v in
    subst P same (record { from = omega arith; within = omega (arith, first.below); opened = opened; least = least })
  where
    opened : open_days is_open v (v + n - v) ≡ lag
    opened = ap (open_days is_open v) (omega arith) ∙ eqb-true (open_days is_open v n) lag first.passes

    least : (x : ℕ) → v ≤ x → x ≤ last → open_days is_open v (x - v) ≡ lag → v + n ≤ x
    least x from within e = split (cases_lt (x - v) n)
      where
        split : (x - v < n) ⊎ (n ≤ x - v) → v + n ≤ x
        split (inl lower) =
            let one : passed is_open lag v (x - v) ≡ false = first.least (x - v) lower in
            let two : passed is_open lag v (x - v) ≡ true = eq-eqb (open_days is_open v (x - v)) lag e in
            absurd (cc)
        split (inr high) = omega (arith, high, from)

-- and so the function's day is the relation's
pub pay_day-shows : (is_open : ℕ → Bool) (last lag v w : ℕ) → pay_day is_open last lag v ≡ Some w → IsPayDay is_open last lag v w
pay_day-shows is_open last lag v w e =
    by_answer is_open last lag v (least_below (last + 1 - v) (passed is_open lag v)) (least_below-answers (last + 1 - v) (passed is_open lag v)) w e

-- none is answered only where no day is a pay day
never : (is_open : ℕ → Bool) (last lag v : ℕ) (o : Option ℕ) → pay_day is_open last lag v ≡ o → ((w : ℕ) → IsPayDay is_open last lag v w → ⊥)
    → o ≡ None
never is_open last lag v None e none = refl
never is_open last lag v (Some w) e none = absurd (none w (pay_day-shows is_open last lag v w e))

-- both answers together
pub pay_day_is_least : PayDayIsLeast
pay_day_is_least is_open last lag v = (answered, ((λ none w day. clash (pay_day-is is_open last lag v w day) none), never is_open last lag v (pay_day is_open last lag v) refl))
  where
    answered : (w : ℕ) → (pay_day is_open last lag v ≡ Some w) ↔ IsPayDay is_open last lag v w
    answered w = (pay_day-shows is_open last lag v w, pay_day-is is_open last lag v w)

    clash : {w : ℕ} → pay_day is_open last lag v ≡ Some w → pay_day is_open last lag v ≡ None → ⊥
    clash some none = cc

-- the count of open days stands on those days alone
open_days-cong : (f g : ℕ → Bool) (v n : ℕ) → ((x : ℕ) → v < x → x ≤ v + n → f x ≡ g x) → open_days f v n ≡ open_days g v n
unfolding open_days
open_days-cong f g v zero same = refl
open_days-cong f g v (suc n) same =
    let rest : open_days f v n ≡ open_days g v n = open_days-cong f g v n (λ x after within. same x after (omega (arith, within))) in
    let here : f (v + suc n) ≡ g (v + suc n) = same (v + suc n) (omega arith) (omega arith) in
    ap (λ k. k + (if f (v + suc n) then 1 else 0)) rest ∙ ap (λ b. open_days g v n + cond b 1 0) here

-- and so does the pay day
pub pay_day-cong : PayDayStandsOnDaysAfter
pay_day-cong f g last lag v same =
    ap (option_map (λ n. v + n)) (least_below-cong (last + 1 - v) (passed f lag v) (passed g lag v)
    (λ k lower. ap (λ m. m == lag) (open_days-cong f g v k (λ x after within. same x after (omega (arith, within, lower))))))
