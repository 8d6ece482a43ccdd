use Rattle.std.proofs.Common.{rules, ◌≡◌, ◌∷◌, ◌++◌, ◌∙◌, [], ap, decimal}
use Rattle.std.proofs.lemmas.Result.{on_ok_weaker}
use Rattle.core_rows.specs.Fields.{number_text, row_text}
use Rattle.core_rows.proofs.Plain.{number_text-plain}
use Rattle.core_cert.proofs.Plainly.{plain_first, plain_more, plain_name, plain_word}
use Rattle.core_cert.proofs.Printed.{nothing, row_text-numbered}
use Rattle.core_cert.proofs.record.put_day.Goals as goal

pub returns-then-number-eq0 : goal.returns-then-number-eq0
returns-then-number-eq0 c = nothing (c.args.word.now ∷ c.args.name ∷ decimal c.args.day ∷ []) _ _ c.ranges.number c.if-number-eq0.true

pub put_row-requires : goal.put_row-requires
put_row-requires c =
    let named = plain_more _ _ _ c.in_ok-push-2.ensures.ok (plain_name _ _ c.bytes.ensures.value c.bytes.ensures.grammar)
    (plain_first _ _ _ c.make-fields.ensures c.in_ok-push.ensures.ok (plain_word _ c.requires.word)) in
    plain_more _ _ _ c.in_ok-push_number-2.ensures.ok (number_text-plain _)
    (plain_more _ _ _ c.in_ok-push_number.ensures.ok (number_text-plain _) named)

pub returns : goal.returns
returns c =
    let fields = c.args.word.now ∷ c.args.name ∷ decimal c.args.day ∷ [] in
    let row : c.push_number-2.new.self ≡ fields ++ (number_text c.args.number ∷ []) = search rules in
    on_ok_weaker c.put_row.result
    (λ (e : c.put_row.new.out.items ≡ c.args.out.now.items ++ row_text c.push_number-2.new.self).
    e ∙ ap (λ t. c.args.out.now.items ++ t) (row_text-numbered fields c.push_number-2.new.self c.args.number c.if-number-eq0.false row))
    c.put_row.ensures.ok
