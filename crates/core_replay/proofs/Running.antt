-- A replay from day to day.
use Rattle.std.proofs.Common.{◌≡◌, refl, sym, ◌∙◌, ap, subst, ℕ, zero, suc, ◌-◌, ◌<◌, ◌≤◌, ◌⊎◌, inl, inr, arith, ℤ, pos, ◌*ℤ◌, Bool, true, false, ◌||◌, List, [], ◌∷◌, ◌++◌, length, replicate, slice_set, length-set}
use Rattle.std.proofs.lemmas.List.{get_or-set_same, get_or-set_other, length-replicate}
use Rattle.std.proofs.lemmas.Bool.{cases_lt}
use Rattle.core_sums.specs.Sums.{sum_below}
use Rattle.core_sums.specs.Places.{at, row_at}
use Rattle.core_sums.specs.Widths.{any_leaves, leaves, most}
use Rattle.core_book.specs.View.{CaseView, cash, instrument_of}
use Rattle.core_model.specs.Closing.{Plan, cash_of}
use Rattle.core_replay.specs.Ledger.{paid_on, opening_numbers, lines_numbers, paid_numbers, later_numbers, day_leaves, flows_until}
use Rattle.core_replay.specs.Steps.{AreStanding, ArePayable, sum_numbers}
use Rattle.core_replay.specs.Answers.{AreByDay, StopsOn, StopsReplay}
use Rattle.core_replay.specs.Runs.{AreEntered}
use Rattle.core_replay.specs.declared.fault.ReplayFault.{ReplayFault}
use Rattle.core_replay.specs.declared.fault.ReplayFault.TheVariants.{TooWide, NoMemory}
use Rattle.core_sums.proofs.Leaving.{none-append, left-leaves, right-leaves, rest-leaves}
use Rattle.std.proofs.lemmas.List.Folds.{list_any-append}
use Rattle.core_replay.specs.declared.lines.Standing.{Standing}
use Rattle.core_replay.proofs.LineFlows.{day_before-first, day_before-second}
use Rattle.core_replay.proofs.Totals.{cash-more}
use Rattle.core_replay.proofs.ByPayDay.{payable-at}

-- one more day is entered
pub entered-none : (c : CaseView) (f : ℕ → ℤ) (n : ℕ) (xs : List ℤ) → n ≡ suc c.last → xs ≡ replicate n (pos 0) → AreEntered c f 0 xs
entered-none c f n xs long e = record { count = ap length e ∙ length-replicate n (pos 0) ∙ long; entered = λ s under. absurd (omega (arith, under)) }

pub entered-more : (c : CaseView) (f : ℕ → ℤ) (t : ℕ) (xs : List ℤ) (z : ℤ) → t ≤ c.last → z ≡ f t → AreEntered c f t xs → AreEntered c f (suc t) (slice_set xs t z)
entered-more c f t xs z within e before = record { count = length-set xs t z ∙ before.count; entered = λ s under. at_day s under (cases_lt s t) }
  where
    at_day : (s : ℕ) → s < suc t → (s < t) ⊎ (t ≤ s) → at (slice_set xs t z) s ≡ f s
    at_day s under (inl lower) = get_or-set_other xs t s z (pos 0) (λ q. omega (arith, q, lower)) ∙ before.entered s lower
    at_day s under (inr high) =
        let same : t ≡ s = omega (arith, under, high) in
        subst (λ (r : ℕ). at (slice_set xs t z) r ≡ f r) same (get_or-set_same xs t z (pos 0) (omega (arith, within, before.count)) ∙ e)

pub entered-all : (c : CaseView) (f : ℕ → ℤ) (n : ℕ) (xs : List ℤ) → n ≡ suc c.last → AreEntered c f n xs → AreByDay c f xs
entered-all c f n xs e all = record { count = all.count; each = λ t within. all.entered t (omega (arith, e, within)) }

-- the next day's total before it
pub total-more : (c : CaseView) (a : Plan) (k t : ℕ) (z : ℤ) → z ≡ cash_of c a k t → z ≡ sum_below (suc t) (paid_on c a k)
unfolding sum_below
total-more c a k t z e = e ∙ cash-more c a k t

pub total-none : (f : ℕ → ℤ) (z : ℤ) → z ≡ pos 0 → z ≡ sum_below 0 f
unfolding sum_below
total-none f z e = e

-- what is payable when a day's lines are done
pub payable-now : (c : CaseView) (a : Plan) (k t : ℕ) (payable : List (List ℤ)) → t ≤ c.last → ArePayable c a k t 0 payable → row_at payable t ≡ flows_until c a k t t
payable-now c a k t payable within before = payable-at c a k t t payable within before

pub payable-first : (c : CaseView) (a : Plan) (k t : ℕ) (payable : List (List ℤ)) → t ≡ 0 → ArePayable c a k (t - 1) 0 payable → ArePayable c a k t 0 payable
payable-first c a k zero payable e before = subst (λ (n : ℕ). ArePayable c a k n 0 payable) (omega arith) before
payable-first c a k (suc t) payable e before = absurd (omega (arith, e))

pub payable-next : (c : CaseView) (a : Plan) (k t : ℕ) (payable : List (List ℤ)) → ArePayable c a k t 0 payable → ArePayable c a k (suc t - 1) 0 payable
payable-next c a k t payable before = let e : t ≡ suc t - 1 = omega arith in subst (λ (n : ℕ). ArePayable c a k n 0 payable) e before

-- the lines before day 0 stand as before day 1, since day 0 has no closing
pub standing-first : (c : CaseView) (a : Plan) (t : ℕ) (xs : List Standing) → t ≡ 0 → AreStanding c a t 0 xs → AreStanding c a (suc t) 0 xs
standing-first c a (suc t) xs e before = absurd (omega (arith, e))
standing-first c a zero xs e before = record {
  count = before.count;
  gone = λ l under below. absurd (omega (arith, under));
  to_go = λ l from below.
      let here = before.to_go l from below in
      record { open_is = here.open_is; marked = here.marked ∙ day_before-first c (instrument_of c l) ∙ sym (day_before-second c (instrument_of c l)) };
}

-- the numbers of a day, part by part
or-between : (a b r : Bool) → b ≡ false → (a || r) ≡ false → (a || (b || r)) ≡ false
or-between true b r e f = f
or-between false b r e f = ap (λ b. b || r) e ∙ f

or-more : (a b r : Bool) → (a || r) ≡ true → (a || (b || r)) ≡ true
or-more true b r e = refl
or-more false true r e = refl
or-more false false r e = e

pub later-stay : (c : CaseView) (a : Plan) (k t : ℕ) → any_leaves (lines_numbers c a k t) ≡ false → any_leaves (sum_numbers c a k t) ≡ false
    → any_leaves (later_numbers c a k t) ≡ false
later-stay c a k t lines sums =
    ap (λ b. leaves most (a.den *ℤ cash c t) || b) (list_any-append (leaves most) (lines_numbers c a k t) (paid_numbers c a k t ++ (cash_of c a k t ∷ [])))
    ∙ or-between (leaves most (a.den *ℤ cash c t)) (any_leaves (lines_numbers c a k t)) (any_leaves (paid_numbers c a k t ++ (cash_of c a k t ∷ []))) lines sums

pub lines-leave-later : (c : CaseView) (a : Plan) (k t : ℕ) → any_leaves (lines_numbers c a k t) ≡ true → any_leaves (later_numbers c a k t) ≡ true
lines-leave-later c a k t out =
    rest-leaves (a.den *ℤ cash c t) (lines_numbers c a k t ++ (paid_numbers c a k t ++ (cash_of c a k t ∷ [])))
    (left-leaves (lines_numbers c a k t) (paid_numbers c a k t ++ (cash_of c a k t ∷ [])) out)

pub sums-leave-later : (c : CaseView) (a : Plan) (k t : ℕ) → any_leaves (sum_numbers c a k t) ≡ true → any_leaves (later_numbers c a k t) ≡ true
sums-leave-later c a k t out =
    ap (λ b. leaves most (a.den *ℤ cash c t) || b) (list_any-append (leaves most) (lines_numbers c a k t) (paid_numbers c a k t ++ (cash_of c a k t ∷ [])))
    ∙ or-more (leaves most (a.den *ℤ cash c t)) (any_leaves (lines_numbers c a k t)) (any_leaves (paid_numbers c a k t ++ (cash_of c a k t ∷ []))) out

pub no-lines : (c : CaseView) (a : Plan) (k t : ℕ) → t ≡ 0 → any_leaves (lines_numbers c a k t) ≡ false
no-lines c a k zero e = refl
no-lines c a k (suc t) e = absurd (omega (arith, e))

pub day-stays : (c : CaseView) (a : Plan) (k t : ℕ) → any_leaves (opening_numbers c a 0) ≡ false → any_leaves (later_numbers c a k t) ≡ false → day_leaves c a k t ≡ false
day-stays c a k zero opening later = none-append (opening_numbers c a 0) (later_numbers c a k 0) opening later
day-stays c a k (suc t) opening later = later

pub later-leaves-day : (c : CaseView) (a : Plan) (k t : ℕ) → any_leaves (later_numbers c a k t) ≡ true → day_leaves c a k t ≡ true
later-leaves-day c a k t out = right-leaves (opening_numbers c a t) (later_numbers c a k t) out

pub opening-leaves-day : (c : CaseView) (a : Plan) (k : ℕ) → any_leaves (opening_numbers c a 0) ≡ true → day_leaves c a k 0 ≡ true
opening-leaves-day c a k out = left-leaves (opening_numbers c a 0) (later_numbers c a k 0) out

-- a fault of a day is one of the replay
pub stops-day : (c : CaseView) (a : Plan) (k t : ℕ) (fault : ReplayFault) → t ≤ c.last → ((s : ℕ) → s < t → day_leaves c a k s ≡ false)
    → StopsOn k t (later_numbers c a k t) fault → StopsReplay c a k fault
stops-day c a k t (TooWide scenario day) within earlier stops = (
  stops.0,
  record {
    within = omega (arith, stops.1, within);
    earlier_days = λ s under. earlier s (omega (arith, stops.1, under));
    leaving = ap (day_leaves c a k) stops.1 ∙ later-leaves-day c a k t stops.2;
  },
)
stops-day c a k t NoMemory within earlier stops = tt

pub stops-opening : (c : CaseView) (a : Plan) (k : ℕ) (fault : ReplayFault) → StopsOn k 0 (opening_numbers c a 0) fault → StopsReplay c a k fault
stops-opening c a k (TooWide scenario day) stops = (
  stops.0,
  record {
    within = omega (arith, stops.1);
    earlier_days = λ s under. absurd (omega (arith, stops.1, under));
    leaving = ap (day_leaves c a k) stops.1 ∙ opening-leaves-day c a k stops.2;
  },
)
stops-opening c a k NoMemory stops = tt

-- a fault of a day's lines is one of the day
pub stops-lines : (c : CaseView) (a : Plan) (k t : ℕ) (fault : ReplayFault) → StopsOn k t (lines_numbers c a k t) fault → StopsOn k t (later_numbers c a k t) fault
stops-lines c a k t (TooWide scenario day) stops = (stops.0, stops.1, lines-leave-later c a k t stops.2)
stops-lines c a k t NoMemory stops = tt
