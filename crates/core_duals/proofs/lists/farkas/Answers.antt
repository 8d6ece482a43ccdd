use Rattle.std.proofs.Common.{◌≡◌, List, map, OnOk, Err, ap, subst, ◌∙◌}
use Rattle.fractions.specs.Fraction.{Fraction}
use Rattle.exact_frac.specs.Value128.{value128}
use Rattle.core_sums.specs.Widths.{most}
use Rattle.core_duals.specs.Lists.{farkas_of, CommonLeaves}
use Rattle.core_duals.specs.declared.scaled.DualFault.TheVariants.{TooWide}
use Rattle.core_duals.proofs.lists.farkas.Goals as goal

pub returns-clause-fits : goal.returns-clause-fits
returns-clause-fits g c =
    let e : map value128 c.deref.result.now ≡ farkas_of (g.S.Store.dictionary c.args.dict.now) c.args.row =
    ap (map value128) c.deref.ensures.value ∙ c.in_ok-list.ensures in
    subst (λ (qs : List Fraction). OnOk c.over_common.result (CommonLeaves most qs → ⊥)) e
    c.over_common.ensures.fits

pub returns-clause-too_wide : goal.returns-clause-too_wide
returns-clause-too_wide g c =
    let e : map value128 c.deref.result.now ≡ farkas_of (g.S.Store.dictionary c.args.dict.now) c.args.row =
    ap (map value128) c.deref.ensures.value ∙ c.in_ok-list.ensures in
    subst (λ (qs : List Fraction). c.over_common.result ≡ Err TooWide → CommonLeaves most qs) e
    c.over_common.ensures.too_wide
