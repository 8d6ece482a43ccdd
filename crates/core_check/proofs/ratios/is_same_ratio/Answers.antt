-- What `==` answers of the two reduced fractions is what the comparison of the products answers.
use Rattle.std.proofs.Common.{◌≡◌, ◌∙◌, ap₂, unsigned_abs}
use Rattle.std.proofs.lemmas.Int.{to_z-of_z}
use Rattle.std.specs.Ordering.{is_eq}
use Rattle.exact_frac.specs.Value128.{value128}
use Rattle.fractions.specs.Fraction.{Fraction, reduce}
use Rattle.fractions.specs.Order.{q_cmp}
use Rattle.core_check.proofs.Crosswise.{same_ratio}
use Rattle.core_check.proofs.ratios.is_same_ratio.Goals as goal

pub returns : goal.returns
returns c =
    let n_fits = c.ranges.n in
    let d_fits = c.ranges.d in
    let m_fits = c.ranges.m in
    let e_fits = c.ranges.e in
    let first : value128 c.of.result ≡ reduce c.args.n (unsigned_abs c.args.d) = simp to_z-of_z at c.of.ensures in
    let second : value128 c.of-2.result ≡ reduce c.args.m (unsigned_abs c.args.e) = simp to_z-of_z at c.of-2.ensures in
    c.eq.ensures
    ∙ ap₂ (λ (q r : Fraction). is_eq (q_cmp q r)) first second
    ∙ same_ratio c.args.n c.args.d c.args.m c.args.e c.requires.first_den c.requires.second_den
