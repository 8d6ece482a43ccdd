use Rattle.std.proofs.Common.{rules, ◌≡◌, ◌++◌, ◌∙◌, ap}
use Rattle.core_rows.specs.Written.{rows_text}
use Rattle.core_report.specs.Records.{full_weight_record, listed}
use Rattle.core_report.proofs.Printed.{prints-first, prints-more}
use Rattle.core_report.proofs.weights.put_fulls.Goals as goal

pub loop-l-init : goal.loop-l-init
loop-l-init c = prints-first (full_weight_record c.args.accepted.now.weights.case c.args.accepted.now.weights.weights) c.args.out.now.items

pub loop-l-preserved : goal.loop-l-preserved
loop-l-preserved c =
    let printed : c.put_some.new.out.items ≡ c.loop-l.out.items ++ rows_text (listed c.in_ok-row.row) = search rules in
    prints-more c.loop-l.l (full_weight_record c.args.accepted.now.weights.case c.args.accepted.now.weights.weights) _ _ _ c.loop-l.invariant
    (printed ∙ ap (λ rows. c.loop-l.out.items ++ rows_text rows) c.in_ok-row.ensures)
