-- What the replays of a calendar say of the numbers that its report prints.
use Rattle.std.proofs.Common.{◌≡◌, refl, sym, ◌∙◌, ap, subst, arith, ℕ, suc, ◌≤◌, ℤ, pos, neg_ℤ, ◌+ℤ◌, ◌*ℤ◌, ◌≤ℤ◌, unsigned_abs, false, true≢false, List, [], ◌∷◌, ◌++◌, if◌then◌else◌, Some, None}
use Rattle.std.proofs.lemmas.Int.{ints}
use Rattle.std.proofs.lemmas.Bool.{or_parts}
use Rattle.std.proofs.lemmas.List.Elements.{All-from_get_or}
use Rattle.std.proofs.lemmas.List.Folds.{list_any-append}
use Rattle.core_sums.specs.Sums.{total}
use Rattle.core_sums.specs.Places.{at}
use Rattle.core_sums.specs.Widths.{most, leaves, any_leaves}
use Rattle.core_sums.proofs.Joined.{map-cong}
use Rattle.core_sums.proofs.Within128.{stays-kept}
use Rattle.core_wide.specs.Steps.{summed}
use Rattle.core_wide.proofs.Adding.{summed-stays}
use Rattle.core_book.specs.View.{CaseView, cash}
use Rattle.core_model.specs.Closing.{Plan, cash_of, loss_of}
use Rattle.core_model.specs.Fits.{AreKept, IsWithin128}
use Rattle.core_replay.specs.Ledger.{day_leaves, flows_until, lines_numbers, opening_numbers, paid_numbers, paid_on, StaysIn}
use Rattle.core_replay.specs.Answers.{AreByDay, IsLedger, StopsReplay, StopsWorst}
use Rattle.core_replay.specs.declared.ledger.Ledger.{Ledger}
use Rattle.core_replay.specs.declared.fault.ReplayFault.{ReplayFault}
use Rattle.core_replay.specs.declared.fault.ReplayFault.TheVariants as Replay
use Rattle.core_replay.proofs.Totals.{paid-is}
use Rattle.core_replay.proofs.FirstWorst.{cash-kept}
use Rattle.core_report.specs.declared.fault.ReportFault.{ReportFault}
use Rattle.core_report.specs.declared.fault.ReportFault.TheVariants.{NoMemory}
use Rattle.core_report.specs.Faults.{fault_of}
use Rattle.core_report.specs.Ranking.{loss_on, losses_by_day}
use Rattle.core_report.specs.Records.{ledger_record, ledger_records}
use Rattle.core_report.specs.Report.{StopsClosing}
use Rattle.core_report.specs.Stays.{IsKeptLedger}

-- numbers of two parts that stay are those of each
parts-none : (xs ys : List ℤ) → any_leaves (xs ++ ys) ≡ false → (any_leaves xs ≡ false) × (any_leaves ys ≡ false)
parts-none xs ys e = or_parts (any_leaves xs) (any_leaves ys) (sym (list_any-append (leaves most) xs ys) ∙ e)

-- what is paid on a day that stays is kept
paid-kept : (c : CaseView) (a : Plan) (k t : ℕ) → t ≤ c.last → day_leaves c a k t ≡ false → IsWithin128 (paid_on c a k t)
unfolding summed
paid-kept c a k t within e =
    let first = a.den *ℤ cash c t in
    let due = flows_until c a k t t in
    let sums = paid_numbers c a k t in
    let ending = sums ++ (cash_of c a k t ∷ []) in
    let later = (parts-none (opening_numbers c a t) (first ∷ (lines_numbers c a k t ++ ending)) e).1 in
    let both = or_parts (leaves most first) (any_leaves (lines_numbers c a k t ++ ending)) later in
    let stay = (parts-none sums (cash_of c a k t ∷ []) (parts-none (lines_numbers c a k t) ending both.1).1).0 in
    let formed : summed first [] due ≡ Some (paid_on c a k t) = ap (λ b. if b then None else Some (first +ℤ total due)) stay ∙ ap Some (paid-is c a k t within) in
    stays-kept (paid_on c a k t) (summed-stays first (paid_on c a k t) [] due both.0 formed)

-- a list by house day is kept where its numbers are
by-day-kept : (c : CaseView) (f : ℕ → ℤ) (xs : List ℤ) → AreByDay c f xs → ((t : ℕ) → t ≤ c.last → IsWithin128 (f t)) → AreKept (suc c.last) xs
by-day-kept c f xs are kept = (
  are.count,
  All-from_get_or IsWithin128 xs (pos 0)
      (λ i under. let within : i ≤ c.last = omega (arith, under, are.count) in subst IsWithin128 (sym (are.each i within)) (kept i within)),
)

pub totals-kept : (c : CaseView) (a : Plan) (k : ℕ) (ledger : Ledger) → IsLedger c a k ledger → AreKept (suc c.last) ledger.total
totals-kept c a k ledger is = by-day-kept c (cash_of c a k) ledger.total is.total (λ t within. cash-kept c a k t (is.stays t within))

pub ledger-kept : (c : CaseView) (a : Plan) (k : ℕ) (ledger : Ledger) → pos 1 ≤ℤ a.den → IsLedger c a k ledger → IsKeptLedger c ledger
ledger-kept c a k ledger den is = record {
  den = subst (λ d. pos 1 ≤ℤ d) (sym is.den) den;
  paid = by-day-kept c (paid_on c a k) ledger.paid is.paid (λ t within. paid-kept c a k t within (is.stays t within));
  total = totals-kept c a k ledger is;
}

-- the records of the ledger are those of the calendar
pub ledger-printed : (c : CaseView) (dates : List (List ℕ)) (a : Plan) (k : ℕ) (ledger : Ledger) → IsLedger c a k ledger
    → ledger_records c dates k (at ledger.paid) (at ledger.total) ledger.den ≡ ledger_records c dates k (paid_on c a k) (cash_of c a k) a.den
ledger-printed c dates a k ledger is =
    map-cong (suc c.last) (ledger_record c dates k (at ledger.paid) (at ledger.total) ledger.den) (ledger_record c dates k (paid_on c a k) (cash_of c a k) a.den)
    (λ t under. let within : t ≤ c.last = omega (arith, under) in
    ap (λ d. ledger_record c dates k (at ledger.paid) (at ledger.total) d t) is.den
    ∙ ap (λ z. ledger_record c dates k (λ (s : ℕ). z) (at ledger.total) a.den t) (is.paid.each t within)
    ∙ ap (λ z. ledger_record c dates k (paid_on c a k) (λ (s : ℕ). z) a.den t) (is.total.each t within))

-- so are its losses
pub losses-replayed : (c : CaseView) (a : Plan) (k : ℕ) (ledger : Ledger) → IsLedger c a k ledger
    → losses_by_day c k (λ t. neg_ℤ (at ledger.total t)) ≡ losses_by_day c k (loss_of c a k)
losses-replayed c a k ledger is =
    map-cong (suc c.last) (loss_on k (λ t. neg_ℤ (at ledger.total t))) (loss_on k (loss_of c a k))
    (λ t under. let within : t ≤ c.last = omega (arith, under) in ap (λ z. loss_on k (λ (s : ℕ). neg_ℤ z) t) (is.total.each t within))

-- a loss of a day that stays is kept
pub loss-kept : (c : CaseView) (a : Plan) (k t : ℕ) → day_leaves c a k t ≡ false → IsWithin128 (loss_of c a k t)
loss-kept c a k t stays =
    let z = cash_of c a k t in
    let same : unsigned_abs (neg_ℤ z) ≡ unsigned_abs z = omega (arith, ints) in
    subst (λ (n : ℕ). n ≤ most) (sym same) (cash-kept c a k t stays)

-- where no number leaves, only want of memory stops a replay
pub stays-memory : (c : CaseView) (a : Plan) (k : ℕ) (fault : ReplayFault) → StaysIn c a k → StopsReplay c a k fault → fault_of fault ≡ NoMemory
stays-memory c a k (Replay.TooWide scenario day) stays stops = absurd (true≢false (sym stops.1.leaving ∙ stays day stops.1.within))
stays-memory c a k Replay.NoMemory stays stops = refl

-- what stops the replays stops the report
pub stops-closing : (c : CaseView) (a : Plan) (fault : ReplayFault) → StopsWorst c a fault → StopsClosing c a (fault_of fault)
stops-closing c a (Replay.TooWide scenario day) stops = stops
stops-closing c a Replay.NoMemory stops = tt

pub memory-stops : (c : CaseView) (a : Plan) (fault : ReportFault) → fault ≡ NoMemory → StopsClosing c a fault
memory-stops c a fault e = subst (StopsClosing c a) (sym e) tt
