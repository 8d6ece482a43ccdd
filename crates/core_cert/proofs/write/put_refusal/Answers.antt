use Rattle.std.proofs.Common.{rules, ◌≡◌, ◌++◌, ◌∷◌, [], codes}
use Rattle.std.proofs.lemmas.Result.{IfOk-equal}
use Rattle.core_rows.specs.Fields.{row_text}
use Rattle.core_cert.specs.Written.{constraint_records, word_record}
use Rattle.core_cert.proofs.Joined.{refusing_joined}
use Rattle.core_cert.proofs.write.put_refusal.Goals as goal

pub returns : goal.returns
returns c =
    let weights = c.args.weights.now in
    let cannot : c.put_word.new.out.items ≡ c.args.out.now.items ++ row_text (codes "cannot" ∷ []) = search rules in
    let den : c.put_number.new.out.items ≡ c.put_word.new.out.items ++ row_text (word_record (codes "weights") weights.den) = search rules in
    IfOk-equal c.put_constraints.result _ _ _ (rw (den, cannot) at c.put_constraints.ensures)
    (refusing_joined c.args.out.now.items (codes "cannot" ∷ []) (word_record (codes "weights") weights.den) (constraint_records c.args.case.now weights))
