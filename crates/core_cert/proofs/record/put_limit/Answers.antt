use Rattle.std.proofs.Common.{rules, ◌≡◌, ◌∷◌, ◌++◌, ◌∙◌, [], ap, decimal, codes, refl}
use Rattle.std.proofs.lemmas.Result.{on_ok_weaker}
use Rattle.core_rows.specs.Fields.{number_text, row_text}
use Rattle.core_rows.proofs.Plain.{number_text-plain}
use Rattle.core_book.specs.View.{instrument}
use Rattle.core_cert.specs.Written.{tier_fields}
use Rattle.core_cert.proofs.Plainly.{plain_first, plain_more, plain_name, plain_word}
use Rattle.core_cert.proofs.Printed.{nothing, row_text-numbered}
use Rattle.core_cert.proofs.record.put_limit.Goals as goal

pub returns-then-weight-eq0 : goal.returns-then-weight-eq0
returns-then-weight-eq0 c =
    nothing (codes "limit" ∷ (instrument c.args.case.now c.args.i).name ∷ decimal c.args.day ∷ tier_fields c.args.case.now c.args.tier) _ _ c.ranges.weight c.if-weight-eq0.true

pub push_closing-requires : goal.push_closing-requires
push_closing-requires c =
    plain_more _ _ _ c.in_ok-push-2.ensures.ok (plain_name _ _ c.bytes.ensures.value c.bytes.ensures.grammar)
    (plain_first _ _ _ c.make-fields.ensures c.in_ok-push.ensures.ok (plain_word (codes "limit") refl))

pub put_row-requires : goal.put_row-requires
put_row-requires c = plain_more _ _ _ c.in_ok-push_number.ensures.ok (number_text-plain _) c.in_ok-push_closing.ensures.plain

pub returns : goal.returns
returns c =
    let fields = codes "limit" ∷ (instrument c.args.case.now c.args.i).name ∷ decimal c.args.day ∷ tier_fields c.args.case.now c.args.tier in
    let row : c.push_number.new.self ≡ fields ++ (number_text c.args.weight ∷ []) = search rules in
    on_ok_weaker c.put_row.result
    (λ (e : c.put_row.new.out.items ≡ c.args.out.now.items ++ row_text c.push_number.new.self).
    e ∙ ap (λ t. c.args.out.now.items ++ t) (row_text-numbered fields c.push_number.new.self c.args.weight c.if-weight-eq0.false row))
    c.put_row.ensures.ok
