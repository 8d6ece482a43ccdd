use Rattle.std.proofs.Common.{rules, ◌≡◌, ◌∷◌, ◌++◌, ◌∙◌, [], ap, codes}
use Rattle.std.proofs.lemmas.Result.{on_ok_weaker}
use Rattle.core_rows.specs.Fields.{number_text, row_text}
use Rattle.core_rows.proofs.Plain.{number_text-plain}
use Rattle.core_cert.specs.Written.{line_fields}
use Rattle.core_cert.proofs.Plainly.{plain_more}
use Rattle.core_cert.proofs.Printed.{nothing, row_text-numbered}
use Rattle.core_cert.proofs.record.put_full.Goals as goal

pub returns-then-weight-eq0 : goal.returns-then-weight-eq0
returns-then-weight-eq0 c = nothing (codes "full" ∷ line_fields c.args.case.now c.args.l) _ _ c.ranges.weight c.if-weight-eq0.true

pub put_row-requires : goal.put_row-requires
put_row-requires c = plain_more _ _ _ c.in_ok-push_number.ensures.ok (number_text-plain _) c.in_ok-fields.ensures.plain

pub returns : goal.returns
returns c =
    let fields = codes "full" ∷ line_fields c.args.case.now c.args.l in
    let row : c.push_number.new.self ≡ fields ++ (number_text c.args.weight ∷ []) = search rules in
    on_ok_weaker c.put_row.result
    (λ (e : c.put_row.new.out.items ≡ c.args.out.now.items ++ row_text c.push_number.new.self).
    e ∙ ap (λ t. c.args.out.now.items ++ t) (row_text-numbered fields c.push_number.new.self c.args.weight c.if-weight-eq0.false row))
    c.put_row.ensures.ok
