use Rattle.std.proofs.Common.{sym, ◌∙◌, subst, length, ◌<◌, ℕ}
use Rattle.core_dict.proofs.Choice.{at_equal, at_other}
use Rattle.core_dict.proofs.Outcomes.{if_ok, less_same, leaves_same}
use Rattle.core_dict.proofs.Reading.{fraction_is}
use Rattle.core_dict.proofs.steps.other_entry.Goals as goal

pub returns-then-j-col-clause-exact : goal.returns-then-j-col-clause-exact
returns-then-j-col-clause-exact g c = sym (at_equal c.args.j c.args.col _ _ c.if-j-col.true)

pub returns-then-j-col-clause-left : goal.returns-then-j-col-clause-left
returns-then-j-col-clause-left g c = (λ e. absurd cc, λ h. absurd (h.0 c.if-j-col.true))

pub returns-clause-exact : goal.returns-clause-exact
returns-clause-exact g c =
    let read = g.E.Exact.value in
    let own_in : c.args.j < length c.args.own.now =
    subst (λ (n : ℕ). c.args.j < n) (sym c.requires.own_in) c.requires.place_in in
    if_ok c.less_times.result _ _
    (λ x e. e ∙ less_same
    (sym (fraction_is read c.args.before.now c.args.j c.index-before-j.result c.requires.place_in c.index-before-j.is))
    (sym (fraction_is read c.args.before.now c.args.col c.index-before-col.result c.requires.col_in c.index-before-col.is))
    (sym (fraction_is read c.args.own.now c.args.j c.index-own-j.result own_in c.index-own-j.is))
    ∙ sym (at_other c.args.j c.args.col _ _ c.if-j-col.false))
    c.less_times.ensures.exact

pub returns-clause-left : goal.returns-clause-left
returns-clause-left g c =
    let read = g.E.Exact.value in
    let own_in : c.args.j < length c.args.own.now =
    subst (λ (n : ℕ). c.args.j < n) (sym c.requires.own_in) c.requires.place_in in
    let a = fraction_is read c.args.before.now c.args.j c.index-before-j.result c.requires.place_in c.index-before-j.is in
    let q = fraction_is read c.args.before.now c.args.col c.index-before-col.result c.requires.col_in c.index-before-col.is in
    let b = fraction_is read c.args.own.now c.args.j c.index-own-j.result own_in c.index-own-j.is in (
      λ e. (c.if-j-col.false, leaves_same (sym a) (sym q) (sym b) (c.less_times.ensures.left.0 e)),
      λ h. c.less_times.ensures.left.1 (leaves_same a q b h.1),
    )
