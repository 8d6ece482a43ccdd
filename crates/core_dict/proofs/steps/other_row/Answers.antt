use Rattle.std.proofs.Common.{◌≡◌, ℕ, ◌<◌, List, length, unsigned_abs, sym, ap, ◌∙◌, subst, refl, arith}
use Rattle.std.proofs.lemmas.List.{with_items_is}
use Rattle.core_dict.specs.Rows.{fraction_at, entry_after, EntriesLeave, Entries, Value}
use Rattle.core_dict.proofs.Outcomes.{on_err, apart, less_same, leaves_same, no_row_leaves}
use Rattle.core_dict.proofs.Reading.{fraction_is}
use Rattle.core_dict.proofs.steps.other_row.Goals as goal

pub returns-in_err-other_entries-clause-left : goal.returns-in_err-other_entries-clause-left
returns-in_err-other_entries-clause-left g c =
    let read = g.E.Exact.value in
    let most : ℕ = unsigned_abs g.E.Exact.MOST in
    let h = subst
    (λ (xs : List _). EntriesLeave most (length xs) (read c.args.pivot) c.args.col
    (fraction_at read c.deref-2.result.now) (fraction_at read xs))
    c.deref.ensures.value c.in_err-other_entries.ensures.left in
    let k = subst
    (λ (ys : List _). EntriesLeave most (length c.args.before.now.entries.items) (read c.args.pivot) c.args.col
    (fraction_at read ys) (fraction_at read c.args.before.now.entries.items))
    c.deref-2.ensures.value h in
    on_err _ _ (Entries k)

pub returns-in_err-after-clause-left : goal.returns-in_err-after-clause-left
returns-in_err-after-clause-left g c =
    let at = fraction_is g.E.Exact.value c.args.before.now.entries.items c.args.col c.index.result.now
    c.requires.col_in c.index.ensures in
    on_err _ _ (Value (leaves_same refl (sym at) refl (c.in_err-after.ensures.left.0 refl)))

pub returns-clause-exact : goal.returns-clause-exact
returns-clause-exact g c =
    let read = g.E.Exact.value in
    let at = fraction_is read c.args.before.now.entries.items c.args.col c.index.result.now
    c.requires.col_in c.index.ensures in
    let h = subst
    (λ (xs : List _). (j : ℕ) → j < length xs → fraction_at read c.other_entries.new.after j
    ≡ entry_after (read c.args.pivot) c.args.col (fraction_at read c.deref-2.result.now) (fraction_at read xs) j)
    c.deref.ensures.value c.in_ok-other_entries.ensures.exact in
    let k = subst
    (λ (ys : List _). (j : ℕ) → j < length c.args.before.now.entries.items
    → fraction_at read c.other_entries.new.after j
    ≡ entry_after (read c.args.pivot) c.args.col (fraction_at read ys)
    (fraction_at read c.args.before.now.entries.items) j)
    c.deref-2.ensures.value h in
    let written = with_items_is c.args.after.now.entries c.other_entries.new.after
    (omega (
      arith,
      c.other_entries.auto.after,
      c.deref_mut.ensures.len,
      c.deref_mut.ensures.value,
      c.args.after.now.entries.ok.0,
    )) in
    record {
      entries = λ j l. ap (λ (ws : List _). fraction_at read ws j) written ∙ k j l;
      value = c.in_ok-after.ensures.exact ∙ less_same refl (sym at) refl;
    }

pub returns-clause-fits : goal.returns-clause-fits
returns-clause-fits g c =
    let read = g.E.Exact.value in
    let most : ℕ = unsigned_abs g.E.Exact.MOST in
    let at = fraction_is read c.args.before.now.entries.items c.args.col c.index.result.now
    c.requires.col_in c.index.ensures in
    let h = subst
    (λ (xs : List _). EntriesLeave most (length xs) (read c.args.pivot) c.args.col
    (fraction_at read c.deref-2.result.now) (fraction_at read xs) → ⊥)
    c.deref.ensures.value c.in_ok-other_entries.ensures.fits in
    let k = subst
    (λ (ys : List _). EntriesLeave most (length c.args.before.now.entries.items) (read c.args.pivot) c.args.col
    (fraction_at read ys) (fraction_at read c.args.before.now.entries.items) → ⊥)
    c.deref-2.ensures.value h in
    no_row_leaves k (λ v. apart (c.in_ok-after.ensures.left.1 (leaves_same refl at refl v)))
