use Rattle.core_rows.proofs.Plain.{number_text-plain}
use Rattle.core_cert.proofs.Plainly.{plain_first, plain_more, plain_word}
use Rattle.core_cert.proofs.record.put_number.Goals as goal

pub put_row-requires : goal.put_row-requires
put_row-requires c =
    plain_more _ _ _ c.in_ok-push_number.ensures.ok (number_text-plain _)
    (plain_first _ _ _ c.make-fields.ensures c.in_ok-push.ensures.ok (plain_word _ c.requires.word))
