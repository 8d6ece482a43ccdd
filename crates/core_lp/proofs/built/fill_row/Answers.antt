use Rattle.std.proofs.Common.{◌≡◌, ◌∙◌, sym, ap, subst, ℕ, ℤ, ◌+◌, ◌<◌, length, get_or, arith, rules, FitsSigned, w64}
use Rattle.std.proofs.lemmas.Int.{to_z-of_z}
use Rattle.std.proofs.lemmas.List.{get_or_default}
use Rattle.core_dict.specs.Programme.{with_entry, with_bound}
use Rattle.core_lp.specs.declared.names.Col.TheVariants as col
use Rattle.core_lp.specs.CaseProgramme.{columns, entry_at, bound_of}
use Rattle.core_lp.specs.Known.{IsColumn}
use Rattle.core_lp.proofs.Filling.{IsFilled, filled-none, filled-more, filled-all}
use Rattle.core_lp.proofs.Naming.{column-known}
use Rattle.core_lp.proofs.built.fill_row.Goals as goal

pub loop-j-init : goal.loop-j-init
loop-j-init c =
    let flows = c.args.flows.now in
    let p0 = c.args.programme.now in
    let f : ℕ → ℤ = λ k. entry_at flows c.args.name (get_or c.args.cols.now k col.Loss) in
    let b = bound_of flows c.args.name in
    let fits : FitsSigned w64 c.bound.result = search rules in
    let put : c.set_bound.new.self ≡ with_bound p0 c.args.i c.bound.result = simp to_z-of_z at c.set_bound.ensures in
    subst (IsFilled p0 c.args.i f b 0) (sym (put ∙ ap (with_bound p0 c.args.i) c.bound.ensures.value))
    (filled-none p0 c.args.i f b c.requires.row_in)

pub entry-requires-clause-column : goal.entry-requires-clause-column
entry-requires-clause-column c =
    let flows = c.args.flows.now in
    let count = ap length c.requires.cols in
    let under : c.loop-j.j < length (columns flows) = omega (arith, c.loop-j-test.true, count) in
    subst (λ xs. IsColumn flows (get_or xs c.loop-j.j (col.Close 0 0 0))) (sym c.requires.cols)
    (column-known flows c.loop-j.j (col.Close 0 0 0) under)

pub loop-j-preserved : goal.loop-j-preserved
loop-j-preserved c =
    let flows = c.args.flows.now in
    let p0 = c.args.programme.now in
    let f : ℕ → ℤ = λ k. entry_at flows c.args.name (get_or c.args.cols.now k col.Loss) in
    let b = bound_of flows c.args.name in
    let fits : FitsSigned w64 c.entry.result = search rules in
    let put : c.set.new.self ≡ with_entry c.loop-j.programme c.args.i c.loop-j.j c.entry.result = simp to_z-of_z at c.set.ensures in
    let under : c.loop-j.j < length c.args.cols.now = c.loop-j-test.true in
    let value : c.entry.result ≡ f c.loop-j.j =
    c.entry.ensures.value ∙ ap (entry_at flows c.args.name) (get_or_default c.args.cols.now c.loop-j.j (col.Close 0 0 0) col.Loss under) in
    subst (IsFilled p0 c.args.i f b (c.loop-j.j + 1)) (sym put)
    (filled-more p0 c.args.i f b c.requires.row_in c.loop-j.j c.loop-j.programme c.entry.result c.loop-j.invariant
    (omega (arith, under, c.requires.width)) value)

pub returns : goal.returns
returns c =
    filled-all c.args.flows.now c.args.programme.now c.args.i c.loop-j.j c.args.cols.now c.args.name c.loop-j.programme
    c.requires.width c.requires.cols (omega (arith, c.loop-j-test.false, c.loop-j.auto.j-end)) c.loop-j.invariant
