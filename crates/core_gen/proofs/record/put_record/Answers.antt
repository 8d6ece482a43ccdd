use Rattle.std.proofs.Common.{rules, ◌≡◌, ◌++◌, ap, sym, map, decimal}
use Rattle.std.proofs.lemmas.Result.{IfOk-equal}
use Rattle.core_sums.proofs.Joined.{each-one}
use Rattle.core_rows.specs.Fields.{row_text}
use Rattle.core_gen.proofs.Printed.{numbered-plain}
use Rattle.core_gen.proofs.record.put_record.Goals as goal

pub put_row-requires : goal.put_row-requires
put_row-requires c =
    let words = map (λ w. w.now) c.args.words.now in
    let numbers = c.args.numbers.now in
    let row : c.push_numbers.new.fields ≡ words ++ map decimal numbers = search rules in
    rw row (numbered-plain words numbers c.requires)

pub returns : goal.returns
returns c =
    let words = map (λ w. w.now) c.args.words.now in
    let numbers = c.args.numbers.now in
    let row : c.push_numbers.new.fields ≡ words ++ map decimal numbers = search rules in
    IfOk-equal c.put_row.result _ _ _ (rw row at c.put_row.ensures.ok)
    (ap (λ t. c.args.out.now.items ++ t) (sym (each-one (words ++ map decimal numbers) row_text)))
