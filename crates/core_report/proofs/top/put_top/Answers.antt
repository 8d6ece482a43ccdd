use Rattle.std.proofs.Common.{rules, ◌≡◌, ◌++◌, ◌∷◌, [], ◌∙◌, ap, ℕ, suc, length}
use Rattle.core_sums.specs.Places.{below, each}
use Rattle.core_sums.proofs.Joined.{each-single}
use Rattle.core_rows.specs.Written.{rows_text}
use Rattle.core_report.specs.Records.{loss_at, top_record}
use Rattle.core_report.proofs.Printed.{prints-first, prints-more, prints-same}
use Rattle.core_report.proofs.top.put_top.Goals as goal

pub loop-n-init : goal.loop-n-init
loop-n-init c =
    prints-first (λ n. top_record c.args.accepted.now.calendar.case c.args.accepted.now.dates.now c.args.accepted.now.calendar.calendar.den (suc n) (loss_at c.args.top.now n) ∷ []) c.args.out.now.items

pub loop-n-preserved : goal.loop-n-preserved
loop-n-preserved c =
    let f = λ (n : ℕ). top_record c.args.accepted.now.calendar.case c.args.accepted.now.dates.now c.args.accepted.now.calendar.calendar.den (suc n) (loss_at c.args.top.now n) in
    let printed : c.put.new.out.items ≡ c.loop-n.out.items ++ rows_text (c.in_ok-row.row ∷ []) = search rules in
    let row : c.in_ok-row.row ≡ f c.loop-n.n = search rules in
    prints-more c.loop-n.n (λ n. f n ∷ []) _ _ _ c.loop-n.invariant (printed ∙ ap (λ row. c.loop-n.out.items ++ rows_text (row ∷ [])) row)

pub returns : goal.returns
returns c =
    let f = λ (n : ℕ). top_record c.args.accepted.now.calendar.case c.args.accepted.now.dates.now c.args.accepted.now.calendar.calendar.den (suc n) (loss_at c.args.top.now n) in
    let all : c.loop-n.n ≡ length c.args.top.now = search rules in
    prints-same _ _ _ _ (ap (λ (n : ℕ). each (below n) (λ n. f n ∷ [])) all ∙ each-single (below (length c.args.top.now)) f) c.loop-n.invariant
