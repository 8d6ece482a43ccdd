use Rattle.std.proofs.Common.{rules, ◌≡◌, ◌++◌, codes}
use Rattle.std.proofs.lemmas.Result.{IfOk-equal}
use Rattle.core_rows.specs.Fields.{row_text}
use Rattle.core_rows.specs.Written.{rows_text}
use Rattle.core_model.specs.Layout.{plan_of}
use Rattle.core_cert.specs.Written.{amount_records, constraint_records, floored, scenario_records, word_record}
use Rattle.core_cert.proofs.Joined.{closing_joined}
use Rattle.core_cert.proofs.write.put_closing.Goals as goal

pub returns : goal.returns
returns c =
    let case = c.args.case.now in
    let calendar = c.args.calendar.now in
    let plan = plan_of c.args.case.now c.args.calendar.now in
    let weights = c.args.weights.now in
    let closes : c.put_number.new.out.items ≡ c.args.out.now.items ++ row_text (word_record (codes "closes") calendar.den) = search rules in
    let amounts : c.put_amounts.new.out.items ≡ c.put_number.new.out.items ++ rows_text (amount_records case plan) = c.in_ok-put_amounts.ensures in
    let loss : c.put_number-2.new.out.items ≡ c.put_amounts.new.out.items ++ row_text (word_record (codes "loss") c.args.loss) = search rules in
    let margin : c.put_number-3.new.out.items ≡ c.put_number-2.new.out.items ++ row_text (word_record (codes "margin") (floored c.args.loss)) = search rules in
    let den : c.put_number-4.new.out.items ≡ c.put_number-3.new.out.items ++ row_text (word_record (codes "weights") weights.den) = search rules in
    let scenarios : c.put_scenarios.new.out.items ≡ c.put_number-4.new.out.items ++ rows_text (scenario_records case weights) = c.in_ok-put_scenarios.ensures in
    IfOk-equal c.put_constraints.result _ _ _ (rw (scenarios, den, margin, loss, amounts, closes) at c.put_constraints.ensures)
    (closing_joined c.args.out.now.items (word_record (codes "closes") calendar.den) (word_record (codes "loss") c.args.loss)
    (word_record (codes "margin") (floored c.args.loss)) (word_record (codes "weights") weights.den)
    (amount_records case plan) (scenario_records case weights) (constraint_records case weights))
