use Rattle.std.proofs.Common.{◌≡◌, ◌∙◌, ap, subst, List, map, IfOk}
use Rattle.core_book.specs.Inside.{tier_view}
use Rattle.core_rows.specs.Names.{Record}
use Rattle.core_case.specs.Faults.{of_kind}
use Rattle.core_case.specs.Stated.{depth_among, names_in}
use Rattle.core_case.specs.declared.kinds.RecordKind.TheVariants.{Tier}
use Rattle.core_case.proofs.state.book_depth.Goals as goal

pub returns : goal.returns
returns c =
    let rs : List Record = c.args.register.now in
    let tiers = ap (map (λ r. r.now)) c.deref.ensures.value ∙ c.in_ok-tier_rows.ensures in
    let instruments = ap (map (λ r. r.now)) c.deref-2.ensures.value ∙ c.in_ok-instrument_rows.ensures in
    subst
    (λ (rows : List Record). IfOk c.depth.result (λ v. map (λ tiers. map tier_view tiers.items) v.items ≡ map (depth_among rs (of_kind Tier rs)) (names_in rows)))
    instruments
    (subst
    (λ (rows : List Record). IfOk c.depth.result (λ v.
    map (λ tiers. map tier_view tiers.items) v.items ≡ map (depth_among rs rows) (names_in (map (λ r. r.now) c.deref-2.result.now))))
    tiers
    c.depth.ensures)
