use Rattle.std.proofs.Common.{◌≡◌, ℕ, ◌<◌, List, replicate, sym, subst}
use Rattle.fractions.specs.Fraction.{zero_q}
use Rattle.exact_frac.specs.Value128.{value128}
use Rattle.core_dict.specs.Rows.{fraction_at}
use Rattle.core_duals.proofs.Placing.{zero_at}
use Rattle.core_duals.proofs.lists.zeros.Goals as goal

pub returns-clause-zero : goal.returns-clause-zero
returns-clause-zero c =
    let items : c.in_ok-list.list.items ≡ replicate c.args.n c.zero.result =
    c.in_ok-list.ensures.items_if_clones_equal (λ y e. e) in
    subst (λ (xs : List _). (k : ℕ) → k < c.args.n → fraction_at value128 xs k ≡ zero_q) (sym items)
    (λ k l. zero_at c.args.n k c.zero.result c.zero.ensures l)
