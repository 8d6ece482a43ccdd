use Rattle.std.proofs.Common.{◌≡◌, rules, ◌∙◌, ap, ◌++◌, ◌∷◌, [], List, codes, decimal}
use Rattle.std.proofs.lemmas.Result.{on_ok_weaker}
use Rattle.core_rows.specs.Names.{Record}
use Rattle.core_rows.specs.Written.{rows_text}
use Rattle.core_cert.specs.Written.{floored}
use Rattle.core_report.specs.Records.{ratio_record, rounded_up}
use Rattle.core_report.proofs.Printed.{Prints, prints-on}
use Rattle.core_report.proofs.text.put_loss.Goals as goal

pub returns : goal.returns
returns c =
    let loss = c.args.loss in
    let den = c.args.den in
    let start = c.args.out.now.items in
    let one = c.put_ratio.new.out.items in
    let two = c.put_ratio-2.new.out.items in
    let losses : List Record = ratio_record (codes "loss") loss den ∷ [] in
    let margins : List Record = ratio_record (codes "margin") (floored loss) den ∷ [] in
    let charge : Record = codes "charge" ∷ decimal (rounded_up (floored loss) den) ∷ [] in
    let first : Prints start losses one = search rules in
    let second : Prints one margins two = search rules in
    let third : c.push_number.new.self ≡ charge = search rules in
    on_ok_weaker c.put.result
    (λ (e : c.put.new.out.items ≡ two ++ rows_text (c.push_number.new.self ∷ [])).
    prints-on start two c.put.new.out.items (losses ++ margins) (charge ∷ []) (prints-on start one two losses margins first second)
    (e ∙ ap (λ row. two ++ rows_text (row ∷ [])) third))
    c.put.ensures
