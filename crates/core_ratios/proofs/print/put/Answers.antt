use Rattle.std.proofs.Common.{◌≡◌, ◌++◌, ◌∙◌, sym, ap}
use Rattle.std.proofs.lemmas.Result.{on_ok_weaker}
use Rattle.core_sums.proofs.Joined.{each-one}
use Rattle.core_rows.specs.Fields.{row_text}
use Rattle.core_ratios.proofs.print.put.Goals as goal

pub returns : goal.returns
returns c =
    on_ok_weaker c.put_row.result
    (λ (e : c.put_row.new.out.items ≡ c.args.out.now.items ++ row_text c.row.inside.fields).
    e ∙ ap (λ r. c.args.out.now.items ++ row_text r) c.row.view_is ∙ ap (λ t. c.args.out.now.items ++ t) (sym (each-one c.args.row.now row_text)))
    c.put_row.ensures.ok
