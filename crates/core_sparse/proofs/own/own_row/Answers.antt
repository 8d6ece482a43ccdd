use Rattle.std.proofs.Common.{ℕ, ◌<◌, List, length, unsigned_abs, ap, ◌∙◌, subst, refl}
use Rattle.fractions.specs.Fraction.{Fraction, ◌/ℚ◌}
use Rattle.fractions.specs.Leaves.{OverLeaves}
use Rattle.core_dict.proofs.Outcomes.{apart}
use Rattle.core_sparse.specs.Items.{col_at}
use Rattle.core_sparse.specs.Steps.{divided_value, AreDivided, Entry, OwnValue}
use Rattle.core_sparse.proofs.Dividing.{divided_kept, divided_number, leaves_at, no_own_leaves}
use Rattle.core_sparse.proofs.Others.{same_fault}
use Rattle.core_sparse.proofs.own.own_row.Goals as goal

pub returns-in_err-own_items-clause-left : goal.returns-in_err-own_items-clause-left
returns-in_err-own_items-clause-left g c =
    λ e. let read = g.E.Exact.value in
    let most : ℕ = unsigned_abs g.E.Exact.MOST in
    let xs = c.args.before.now.items.items in
    let h = subst
    (λ (us : List _). (k : ℕ) × (k < length us)
    × OverLeaves most (divided_value read c.args.col us k) (read c.args.pivot)) c.deref.ensures.value
    (c.in_err-own_items.ensures.left
    (same_fault c.from_residual.result _ _ c.from_residual.ensures.1 e)) in
    Entry (col_at xs h.0) (c.requires.before.cols h.0 h.1)
    (leaves_at read c.args.cols c.args.col xs (read c.args.pivot) c.requires.pivot c.requires.before c.requires.entry
    most h.0 h.1 h.2)

pub returns-in_err-after-clause-left : goal.returns-in_err-after-clause-left
returns-in_err-after-clause-left g c =
    λ e. OwnValue (subst (λ (y : Fraction). OverLeaves (unsigned_abs g.E.Exact.MOST)
    (g.E.Exact.value c.args.before.now.value) y) c.requires.entry (c.in_err-after.ensures.left.0 refl))

pub returns-clause-exact : goal.returns-clause-exact
returns-clause-exact g c =
    let read = g.E.Exact.value in
    let xs = c.args.before.now.items.items in
    let made = subst
    (λ (us : List _). AreDivided read c.args.col (read c.args.pivot) us c.own_items.new.after.items)
    c.deref.ensures.value c.in_ok-own_items.ensures.exact in
    record {
      kept = divided_kept read c.args.cols c.args.col xs (read c.args.pivot) c.requires.pivot c.requires.before
          c.requires.entry c.own_items.new.after.items made;
      entries = divided_number read c.args.cols c.args.col xs (read c.args.pivot) c.requires.pivot c.requires.before
          c.requires.entry c.own_items.new.after.items made;
      value = c.in_ok-after.ensures.exact
          ∙ ap (λ (y : Fraction). read c.args.before.now.value /ℚ y) c.requires.entry;
    }

pub returns-clause-fits : goal.returns-clause-fits
returns-clause-fits g c =
    let read = g.E.Exact.value in
    let most : ℕ = unsigned_abs g.E.Exact.MOST in
    let fits = subst
    (λ (us : List _). (k : ℕ) → k < length us
    → OverLeaves most (divided_value read c.args.col us k) (read c.args.pivot) → ⊥) c.deref.ensures.value
    c.in_ok-own_items.ensures.fits in
    no_own_leaves read c.args.cols c.args.col c.args.before.now (read c.args.pivot) c.requires.pivot c.requires.before
    c.requires.entry most fits (λ h. apart (c.in_ok-after.ensures.left.1 h))
