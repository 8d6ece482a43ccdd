use Rattle.std.proofs.Common.{rules, ◌≡◌, ◌∷◌, [], codes, refl}
use Rattle.std.proofs.lemmas.Result.{on_ok_weaker}
use Rattle.core_rows.proofs.Plain.{row-plain-more, row-plain-one, word-plain}
use Rattle.core_gen.specs.Demo.{instr_record, instrument_name, limit_record, position_record}
use Rattle.core_gen.proofs.Printed.{Adds, both, instrument-plain}
use Rattle.core_gen.proofs.record.put_instrument.Goals as goal

pub put_record-requires : goal.put_record-requires
put_record-requires c =
    let named : c.as_str-name.result.now ≡ instrument_name c.args.i = search rules in
    row-plain-more _ _ (word-plain (codes "instr") refl)
    (row-plain-more _ _ (rw named (instrument-plain c.args.i))
    (row-plain-more _ _ (word-plain (codes "future") refl)
    (row-plain-one _ (word-plain (codes "MKT") refl))))

pub put_record-requires-2 : goal.put_record-requires-2
put_record-requires-2 c =
    let named : c.as_str-name.result.now ≡ instrument_name c.args.i = search rules in
    row-plain-more _ _ (word-plain (codes "limit") refl)
    (row-plain-one _ (rw named (instrument-plain c.args.i)))

pub put_record-requires-3 : goal.put_record-requires-3
put_record-requires-3 c =
    let named : c.as_str-name.result.now ≡ instrument_name c.args.i = search rules in
    row-plain-more _ _ (word-plain (codes "position") refl)
    (row-plain-one _ (rw named (instrument-plain c.args.i)))

pub returns : goal.returns
returns c =
    let i = c.args.i in
    let named : c.as_str-name.result.now ≡ instrument_name i = search rules in
    let number : c.from.result ≡ i = search rules in
    let instr = instr_record i in
    let limit = limit_record i in
    let position = position_record i in
    let start = c.args.out.now.items in
    let first = c.put_record.new.out.items in
    let second = c.put_record-2.new.out.items in
    let one : Adds start (instr ∷ []) first = rw (named, number) at c.in_ok-put_record.ensures in
    let two : Adds first (limit ∷ []) second = rw named at c.in_ok-put_record-2.ensures in
    on_ok_weaker c.put_record-3.result
    (λ (three : Adds second (position ∷ []) c.put_record-3.new.out.items).
    both _ _ _ (instr ∷ limit ∷ []) (position ∷ [])
    (both _ _ _ (instr ∷ []) (limit ∷ []) one two) three)
    (rw named at c.put_record-3.ensures)
