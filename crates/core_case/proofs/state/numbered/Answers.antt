use Rattle.std.proofs.Common.{◌+◌, ◌++◌, length, map, arith}
use Rattle.std.proofs.lemmas.List.{length-map}
use Rattle.core_case.specs.Stated.{names_in}
use Rattle.core_case.proofs.StateNames.{name_at}
use Rattle.core_rows.proofs.NamesApart.{one_more_name}
use Rattle.core_case.proofs.state.numbered.Goals as goal

pub loop-row-preserved : goal.loop-row-preserved
loop-row-preserved c =
    let before = map (λ k. k.now) c.args.names.keys in
    let names = before ++ names_in (map (λ r. r.now) c.args.rows.now) in
    let at = name_at before (λ r. r.now) c.args.rows.now c.loop-row.row-index c.row-item.result c.word.result.now (length c.args.names.keys)
    (length-map c.args.names.keys (λ k. k.now)) c.loop-row-test.true c.row-item.is c.word.ensures in
    one_more_name names (length c.args.names.keys + c.loop-row.row-index) (length c.args.names.keys + (c.loop-row.row-index + 1)) c.loop-row.names.keys c.insert.new.self.keys c.word.result
    (omega arith) c.requires at.0 at.1 c.loop-row.invariant c.in_ok-insert.ensures.keys
