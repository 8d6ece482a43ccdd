use Rattle.std.proofs.Common.{rules, ◌≡◌, ◌∷◌, ◌++◌, ◌∙◌, [], ap, decimal, codes}
use Rattle.std.proofs.lemmas.Result.{on_ok_weaker}
use Rattle.core_rows.specs.Fields.{number_text, row_text}
use Rattle.core_rows.proofs.Plain.{number_text-plain}
use Rattle.core_cert.specs.Written.{line_fields, tier_fields}
use Rattle.core_cert.proofs.Plainly.{plain_more}
use Rattle.core_cert.proofs.Printed.{nothing, row_text-numbered}
use Rattle.core_cert.proofs.record.put_amount.Goals as goal

pub returns-then-amount-eq0 : goal.returns-then-amount-eq0
returns-then-amount-eq0 c =
    nothing ((codes "amount" ∷ line_fields c.args.case.now c.args.l) ++ (decimal c.args.day ∷ tier_fields c.args.case.now c.args.tier)) _ _ c.ranges.amount c.if-amount-eq0.true

pub put_row-requires : goal.put_row-requires
put_row-requires c = plain_more _ _ _ c.in_ok-push_number.ensures.ok (number_text-plain _) c.in_ok-push_closing.ensures.plain

pub returns : goal.returns
returns c =
    let fields = (codes "amount" ∷ line_fields c.args.case.now c.args.l) ++ (decimal c.args.day ∷ tier_fields c.args.case.now c.args.tier) in
    let row : c.push_number.new.self ≡ fields ++ (number_text c.args.amount ∷ []) = search rules in
    on_ok_weaker c.put_row.result
    (λ (e : c.put_row.new.out.items ≡ c.args.out.now.items ++ row_text c.push_number.new.self).
    e ∙ ap (λ t. c.args.out.now.items ++ t) (row_text-numbered fields c.push_number.new.self c.args.amount c.if-amount-eq0.false row))
    c.put_row.ensures.ok
