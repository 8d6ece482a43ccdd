use Rattle.core_cert.proofs.Plainly.{plain_first, plain_more, plain_name, plain_side, plain_word}
use Rattle.core_cert.proofs.record.line_record.Goals as goal

pub returns-clause-plain : goal.returns-clause-plain
returns-clause-plain c =
    plain_more _ _ _ c.in_ok-push-3.ensures.ok (plain_side _ _ c.side_word.ensures)
    (plain_more _ _ _ c.in_ok-push-2.ensures.ok (plain_name _ _ c.bytes.ensures.value c.bytes.ensures.grammar)
    (plain_first _ _ _ c.make-fields.ensures c.in_ok-push.ensures.ok (plain_word _ c.requires.word)))
