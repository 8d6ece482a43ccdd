use Rattle.std.proofs.Common.{◌∷◌, [], codes, decimal}
use Rattle.std.proofs.lemmas.Result.{on_ok_weaker}
use Rattle.core_rows.specs.Names.{Record}
use Rattle.core_gen.proofs.Printed.{Adds, both}
use Rattle.core_gen.proofs.record.put_heading.Goals as goal

pub returns : goal.returns
returns c =
    let core : Record = codes "core" ∷ codes "1" ∷ [] in
    let house : Record = codes "house" ∷ codes "2024-01-01" ∷ decimal 5 ∷ decimal 6 ∷ [] in
    let market : Record = codes "market" ∷ codes "MKT" ∷ [] in
    let start = c.args.out.now.items in
    let first = c.put_record.new.out.items in
    let second = c.put_record-2.new.out.items in
    let one : Adds start (core ∷ []) first = c.in_ok-put_record.ensures in
    let two : Adds first (house ∷ []) second = c.in_ok-put_record-2.ensures in
    on_ok_weaker c.put_record-3.result
    (λ (three : Adds second (market ∷ []) c.put_record-3.new.out.items).
    both _ _ _ (core ∷ house ∷ []) (market ∷ []) (both _ _ _ (core ∷ []) (house ∷ []) one two) three)
    c.put_record-3.ensures
