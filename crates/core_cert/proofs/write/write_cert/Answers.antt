use Rattle.std.proofs.Common.{rules, ◌≡◌, ◌++◌, ◌∷◌, ◌∙◌, [], ap, codes, FitsSigned}
use Rattle.std.specs.Int.{w128}
use Rattle.std.proofs.lemmas.Int.{to_z-of_z}
use Rattle.core_rows.specs.Fields.{row_text}
use Rattle.core_rows.specs.Written.{rows_text}
use Rattle.core_cert.specs.Written.{cert_text, first_record, inner_records}
use Rattle.core_cert.proofs.CertSize.{cert_text-short}
use Rattle.core_cert.proofs.Joined.{cert_joined}
use Rattle.core_cert.proofs.write.write_cert.Goals as goal
use Rattle.core_cert.proofs.write.write_cert.Goals.{in-Closes+in_ok-put_closing-in-Closes, in-Cannot+in_ok-put_refusal-in-Cannot}

text_is : (c : goal.In_ok-put_word) → c.put_word.new.out.items ≡ cert_text c.args.case.now c.args.cert.now
text_is c =
    let records = inner_records c.args.case.now c.args.cert.now in
    let first : c.put_first.new.out.items ≡ [] ++ row_text (first_record c.args.case.now) = search rules in
    let inner : c.match-cert.out.items ≡ c.put_first.new.out.items ++ rows_text records =
    elim c.match-cert.branch [
      | in-Closes+in_ok-put_closing-in-Closes w ↦
          let fits : FitsSigned w128 w.in-Closes.loss = search rules in
          rw (w.out-is, w.in-Closes.is) (rw (to_z-of_z w128 w.in-Closes.loss fits) at w.in_ok-put_closing-in-Closes.ensures)
      | in-Cannot+in_ok-put_refusal-in-Cannot w ↦ rw (w.out-is, w.in-Cannot.is) w.in_ok-put_refusal-in-Cannot.ensures
    ] in
    let last : c.put_word.new.out.items ≡ c.match-cert.out.items ++ row_text (codes "end" ∷ []) = search rules in
    last
    ∙ ap (λ t. t ++ row_text (codes "end" ∷ [])) (inner ∙ ap (λ t. t ++ rows_text records) first)
    ∙ cert_joined (first_record c.args.case.now) (codes "end" ∷ []) records

pub returns-clause-text : goal.returns-clause-text
returns-clause-text c = text_is c

pub returns-clause-size : goal.returns-clause-size
returns-clause-size c = rw (text_is c) (cert_text-short c.args.case.now c.args.cert.now c.well_formed-2.ensures c.requires.fits)
