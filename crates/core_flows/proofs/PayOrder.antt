-- What happens later is paid no earlier.
use Rattle.std.proofs.Common.{◌≡◌, refl, sym, ◌∙◌, ap, ℕ, zero, suc, ◌+◌, ◌-◌, ◌<◌, ◌≤◌, ◌⊎◌, inl, inr, arith, Bool, true, false, Option, Some, None, if◌then◌else◌}
use Rattle.std.proofs.lemmas.Bool.{cases_lt, eq-eqb, leb-true, le-leb}
use Rattle.std.specs.Option.{option_map}
use Rattle.core_sums.specs.Places.{least_below}
use Rattle.core_sums.proofs.Firsts.{Answers, least_below-answers}
use Rattle.core_days.specs.Days.{open_days, IsPayDay, pay_day}
use Rattle.core_days.proofs.PayDays.{passed, open_days-open, pay_day-shows}
use Rattle.core_book.specs.View.{CaseView, instrument, is_open, pays}
use Rattle.core_model.specs.Closing.{is_by}

-- a day adds one open day at most
one-more : (b : Bool) (n : ℕ) → n + (if b then 1 else 0) ≤ n + 1
one-more true n = omega arith
one-more false n = omega arith

-- the count of open days meets each number on its way
meets : (f : ℕ → Bool) (v lag n : ℕ) → lag ≤ open_days f v n → (m : ℕ) × (m ≤ n) × (open_days f v m ≡ lag)
unfolding open_days
meets f v lag zero within = (0, omega arith, omega (arith, within))
meets f v lag (suc n) within =
    split (λ below. meets f v lag n below) (cases_lt (open_days f v n) lag) (one-more (f (v + suc n)) (open_days f v n))
  where
    split : (lag ≤ open_days f v n → (m : ℕ) × (m ≤ n) × (open_days f v m ≡ lag)) → (open_days f v n < lag) ⊎ (lag ≤ open_days f v n)
        → open_days f v n + (if f (v + suc n) then 1 else 0) ≤ open_days f v n + 1 → (m : ℕ) × (m ≤ suc n) × (open_days f v m ≡ lag)
    split rest (inl above) one = (suc n, omega arith, omega (arith, within, above, one))
    split rest (inr below) one = let found = rest below in (found.0, omega (arith, found.1), found.2)

-- the open days of a stretch are those of its two parts
open_days-append : (f : ℕ → Bool) (v m n : ℕ) → open_days f v (m + n) ≡ open_days f v m + open_days f (v + m) n
unfolding open_days
open_days-append f v m zero = let e : m + 0 ≡ m = omega arith in rw e (omega arith)
open_days-append f v m (suc n) =
    let rest = open_days-append f v m n in
    let whole : m + suc n ≡ suc (m + n) = omega arith in
    let day : v + suc (m + n) ≡ v + m + suc n = omega arith in
    rw (whole, day) (omega (arith, rest))

-- an open day after v counts
some-open : (f : ℕ → Bool) (v w : ℕ) → v < w → f w ≡ true → 1 ≤ open_days f v (w - v)
some-open f v w after day =
    let here : v + suc (w - v - 1) ≡ w = omega (arith, after) in
    let more = open_days-open f v (w - v - 1) (ap f here ∙ day) in
    let same : open_days f v (w - v) ≡ open_days f v (suc (w - v - 1)) = ap (open_days f v) (omega (arith, after)) in
    omega (arith, more, same)

-- where the lag has passed by some day, there is a pay day by then
found-by : (f : ℕ → Bool) (last lag v m : ℕ) (o : Option ℕ) → Answers (last + 1 - v) (passed f lag v) o → v + m ≤ last → open_days f v m ≡ lag
    → (y : ℕ) × (option_map (λ n. v + n) o ≡ Some y) × (y ≤ v + m)
found-by f last lag v m None never within e =
    let no : passed f lag v m ≡ false = never m (omega (arith, within)) in
    let yes : passed f lag v m ≡ true = eq-eqb (open_days f v m) lag e in
    absurd (cc)
found-by f last lag v m (Some n) first within e = (v + n, refl, split (cases_lt m n))
  where
    split : (m < n) ⊎ (n ≤ m) → v + n ≤ v + m
    split (inl early) =
        let no : passed f lag v m ≡ false = first.least m early in
        let yes : passed f lag v m ≡ true = eq-eqb (open_days f v m) lag e in
        absurd (cc)
    split (inr late) = omega (arith, late)

-- a day before an open day that is paid is paid no later
paid-before : (f : ℕ → Bool) (last lag v w x : ℕ) → v < w → f w ≡ true → pay_day f last lag w ≡ Some x
    → (y : ℕ) × (pay_day f last lag v ≡ Some y) × (y ≤ x)
paid-before f last lag v w x after day paid =
    let shown : IsPayDay f last lag w x = pay_day-shows f last lag w x paid in
    let whole : x - v ≡ (w - v) + (x - w) = omega (arith, after, shown.from) in
    let there : v + (w - v) ≡ w = omega (arith, after) in
    let parts : open_days f v (x - v) ≡ open_days f v (w - v) + open_days f w (x - w) =
    ap (open_days f v) whole ∙ open_days-append f v (w - v) (x - w) ∙ ap (λ z. open_days f v (w - v) + open_days f z (x - w)) there in
    let some = some-open f v w after day in
    let met = meets f v lag (x - v) (omega (arith, parts, some, shown.opened)) in
    let found = found-by f last lag v met.0 (least_below (last + 1 - v) (passed f lag v)) (least_below-answers (last + 1 - v) (passed f lag v))
    (omega (arith, met.1, shown.within, shown.from, after)) met.2 in
    (found.0, found.1, omega (arith, found.2, met.1, shown.from, after))

-- so what is paid by day t on the later day is so on the day before it
by-answer : (f : ℕ → Bool) (last lag v w t : ℕ) (o : Option ℕ) → pay_day f last lag w ≡ o → v < w → f w ≡ true → is_by o t ≡ true
    → is_by (pay_day f last lag v) t ≡ true
by-answer f last lag v w t None e after day paid = absurd (cc)
by-answer f last lag v w t (Some x) e after day paid =
    let found = paid-before f last lag v w x after day e in
    ap (λ o. is_by o t) found.1 ∙ le-leb found.0 t (omega (arith, found.2, leb-true x t paid))

-- what is paid happens on an open day
pub paid-open : (c : CaseView) (i v t : ℕ) → is_by (pays c i v) t ≡ true → is_open c i v ≡ true
paid-open c i v t = by_test (is_open c i v) (pay_day (is_open c i) c.last (instrument c i).lag v)
  where
    by_test : (b : Bool) (o : Option ℕ) → is_by (if b then o else None) t ≡ true → b ≡ true
    by_test true o paid = refl
    by_test false o paid = absurd (cc)

-- an open day's pay day
open-pays : (c : CaseView) (i v : ℕ) → is_open c i v ≡ true → pays c i v ≡ pay_day (is_open c i) c.last (instrument c i).lag v
open-pays c i v day = ap (λ b. if b then pay_day (is_open c i) c.last (instrument c i).lag v else None) day

-- an open day is paid by day t where a later day is
pub paid-in_order : (c : CaseView) (i v w t : ℕ) → v < w → is_open c i v ≡ true → is_by (pays c i w) t ≡ true → is_by (pays c i v) t ≡ true
paid-in_order c i v w t after day paid =
    let later : is_open c i w ≡ true = paid-open c i w t paid in
    let shown : is_by (pay_day (is_open c i) c.last (instrument c i).lag w) t ≡ true = ap (λ o. is_by o t) (sym (open-pays c i w later)) ∙ paid in
    ap (λ o. is_by o t) (open-pays c i v day)
    ∙ by-answer (is_open c i) c.last (instrument c i).lag v w t (pay_day (is_open c i) c.last (instrument c i).lag w) refl after later shown

-- up to a day that is paid by day t, the days that are paid by then are the open days
pub open-paid : (c : CaseView) (i v w t : ℕ) → v < w → is_by (pays c i w) t ≡ true → is_open c i v ≡ is_by (pays c i v) t
open-paid c i v w t after paid = by_test (is_open c i v) refl
  where
    by_test : (b : Bool) → is_open c i v ≡ b → is_open c i v ≡ is_by (pays c i v) t
    by_test true day = day ∙ sym (paid-in_order c i v w t after day paid)
    by_test false closed =
        let none : pays c i v ≡ None = ap (λ b. if b then pay_day (is_open c i) c.last (instrument c i).lag v else None) closed in
        closed ∙ sym (ap (λ o. is_by o t) none)
