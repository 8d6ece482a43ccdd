use Rattle.std.proofs.Common.{refl, codes}
use Rattle.core_rows.specs.Written.{IsPlainRow}
use Rattle.core_rows.proofs.Plain.{number_text-plain, row-plain-one, row-plain-push, word-plain}
use Rattle.core_top.proofs.demo.text_of.Goals as goal

pub put_row-requires : goal.put_row-requires
put_row-requires c =
    let word : IsPlainRow c.in_ok-fields.fields = rw c.in_ok-fields.ensures (row-plain-one (codes "demo") (word-plain (codes "demo") refl)) in
    let count = row-plain-push _ _ _ c.in_ok-push_number.ensures.ok word.plain (number_text-plain _) in
    let numerator = row-plain-push _ _ _ c.in_ok-push_number-2.ensures.ok count.plain (number_text-plain _) in
    row-plain-push _ _ _ c.in_ok-push_number-3.ensures.ok numerator.plain (number_text-plain _)
