use Rattle.std.proofs.Common.{ℕ, ◌<◌, List, length, unsigned_abs, sym, subst, refl}
use Rattle.fractions.specs.Leaves.{OverLeaves}
use Rattle.core_dict.specs.Rows.{fraction_at, divided_entry, Entry}
use Rattle.core_dict.proofs.Outcomes.{on_err, no_own_leaves}
use Rattle.core_dict.proofs.Reading.{fraction_is, not_left}
use Rattle.core_dict.proofs.steps.own_row.Goals as goal

pub returns-in_err-own_entries-clause-left : goal.returns-in_err-own_entries-clause-left
returns-in_err-own_entries-clause-left g c =
    let read = g.E.Exact.value in
    let h = subst
    (λ (xs : List _). (j : ℕ) × (j < length xs)
    × OverLeaves (unsigned_abs g.E.Exact.MOST) (divided_entry c.args.col (fraction_at read xs) j)
    (fraction_at read xs c.args.col))
    c.deref.ensures.value c.in_err-own_entries.ensures.left in
    on_err _ _ (Entry h.0 h.1 h.2)

pub returns-clause-fits : goal.returns-clause-fits
returns-clause-fits g c =
    let read = g.E.Exact.value in
    let at = fraction_is read c.args.before.now.entries.items c.args.col c.index.result.now c.requires.col_in c.index.ensures in
    no_own_leaves
    (subst
    (λ (xs : List _). (j : ℕ) → j < length xs
    → OverLeaves (unsigned_abs g.E.Exact.MOST) (divided_entry c.args.col (fraction_at read xs) j)
    (fraction_at read xs c.args.col) → ⊥)
    c.deref.ensures.value c.in_ok-own_entries.ensures.fits)
    (not_left _ _ _ _ _ refl (sym at) c.in_ok-after.ensures.left.1)
