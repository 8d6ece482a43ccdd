use Rattle.std.proofs.Common.{◌≡◌, ◌∙◌, ap, map}
use Rattle.core_rows.specs.Names.{field, place_of}
use Rattle.core_case.proofs.StateRows.{one_more_row}
use Rattle.core_case.proofs.state.markets.Goals as goal

pub loop-row-preserved : goal.loop-row-preserved
loop-row-preserved c =
    let names = map (λ k. k.now) c.args.markets.now.names.keys in
    let here : c.place_of.result ≡ place_of (field c.row-item.result.now 3) names = c.place_of.ensures ∙ ap (λ w. place_of w names) c.word.ensures in
    c.in_ok-push.ensures.items ∙ one_more_row (λ r. place_of (field r 3) names) (λ r. r.now) c.args.rows.now c.loop-row.row-index c.row-item.result
    c.loop-row.places.items c.place_of.result c.loop-row.invariant c.loop-row-test.true c.row-item.is here
