use Rattle.std.proofs.Common.{rules, ◌≡◌, ◌++◌, ◌∷◌, [], ◌∙◌, ap, ℕ, suc, arith}
use Rattle.core_sums.specs.Places.{at, below, each}
use Rattle.core_sums.proofs.Joined.{each-single}
use Rattle.core_rows.specs.Written.{rows_text}
use Rattle.core_report.specs.Records.{ledger_record}
use Rattle.core_report.proofs.Printed.{prints-first, prints-more, prints-same}
use Rattle.core_report.proofs.ledger.put_ledger.Goals as goal

pub loop-t-init : goal.loop-t-init
loop-t-init c =
    let ledger = c.args.ledger.now in
    prints-first (λ t. ledger_record c.args.accepted.now.calendar.case c.args.accepted.now.dates.now c.args.scenario (at ledger.paid) (at ledger.total) ledger.den t ∷ []) c.args.out.now.items

pub loop-t-preserved : goal.loop-t-preserved
loop-t-preserved c =
    let ledger = c.args.ledger.now in
    let f = ledger_record c.args.accepted.now.calendar.case c.args.accepted.now.dates.now c.args.scenario (at ledger.paid) (at ledger.total) ledger.den in
    let printed : c.put.new.out.items ≡ c.loop-t.out.items ++ rows_text (c.in_ok-row.row ∷ []) = search rules in
    prints-more c.loop-t.t (λ t. f t ∷ []) _ _ _ c.loop-t.invariant
    (printed ∙ ap (λ row. c.loop-t.out.items ++ rows_text (row ∷ [])) c.in_ok-row.ensures)

pub returns : goal.returns
returns c =
    let ledger = c.args.ledger.now in
    let f = ledger_record c.args.accepted.now.calendar.case c.args.accepted.now.dates.now c.args.scenario (at ledger.paid) (at ledger.total) ledger.den in
    let all : c.loop-t.t ≡ suc c.args.accepted.now.calendar.case.last = omega (arith, c.loop-t-test.false, c.loop-t.auto.t-end, (rw c.case.ensures.value at c.last-last.ensures.value)) in
    prints-same _ _ _ _ (ap (λ (n : ℕ). each (below n) (λ t. f t ∷ [])) all ∙ each-single (below (suc c.args.accepted.now.calendar.case.last)) f) c.loop-t.invariant
