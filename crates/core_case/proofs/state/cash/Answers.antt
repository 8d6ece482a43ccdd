use Rattle.std.proofs.Common.{◌≡◌, rules, ◌∙◌, map, pos, FitsSigned, w64}
use Rattle.std.proofs.lemmas.Int.{to_z-of_z}
use Rattle.core_case.specs.Stated.{cash_among}
use Rattle.core_case.proofs.StateRows.{no_number, one_more_number}
use Rattle.core_case.proofs.state.cash.Goals as goal

pub loop-t-init : goal.loop-t-init
loop-t-init c = c.in_ok-cash.ensures.items ∙ no_number (λ t. cash_among (map (λ r. r.now) c.args.rows.now) (pos t))

pub loop-t-preserved : goal.loop-t-preserved
loop-t-preserved c =
    let rows = map (λ r. r.now) c.args.rows.now in
    let fits : FitsSigned w64 c.cash_on.result = search rules in
    let here : c.cash_on.result ≡ cash_among rows (pos c.loop-t.t) = search rules in
    let pushed = rw to_z-of_z at c.in_ok-push.ensures.items in
    pushed ∙ one_more_number (λ t. cash_among rows (pos t)) c.loop-t.t c.loop-t.cash.items c.cash_on.result c.loop-t.invariant here
