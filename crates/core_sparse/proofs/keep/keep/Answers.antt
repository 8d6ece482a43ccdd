use Rattle.std.proofs.Common.{◌<◌, List, sym, ap, ◌∙◌, subst, arith}
use Rattle.core_dict.proofs.Outcomes.{apart}
use Rattle.core_sparse.specs.Items.{col_at, number, AreItems}
use Rattle.core_sparse.specs.SparseLaw.{number_none}
use Rattle.core_sparse.proofs.Places.{kept_pushed, number_last, number_others}
use Rattle.core_sparse.proofs.keep.keep.Goals as goal

pub returns-then-is_zero-clause-here : goal.returns-then-is_zero-clause-here
returns-then-is_zero-clause-here g c =
    number_none g.E.Exact.value c.args.items.now.items c.args.col
    (λ k l e. let b : col_at c.args.items.now.items k < c.args.col = c.requires.behind k l in omega (arith, b, e))
    ∙ sym (c.is_zero.ensures.0 c.if-is_zero.true)

pub returns-clause-kept : goal.returns-clause-kept
returns-clause-kept g c =
    λ n l h. subst (λ (zs : List _). AreItems g.E.Exact.value n zs) (sym c.in_ok-push.ensures)
    (kept_pushed g.E.Exact.value n c.args.items.now.items (record { col = c.args.col; value = c.args.value }) h l
    c.requires.behind (λ e. apart (sym c.if-is_zero.false ∙ c.is_zero.ensures.1 e)))

pub returns-clause-here : goal.returns-clause-here
returns-clause-here g c =
    ap (λ (zs : List _). number g.E.Exact.value zs c.args.col) c.in_ok-push.ensures
    ∙ number_last g.E.Exact.value c.args.items.now.items (record { col = c.args.col; value = c.args.value })
    c.requires.behind

pub returns-clause-others : goal.returns-clause-others
returns-clause-others g c =
    λ j ne. ap (λ (zs : List _). number g.E.Exact.value zs j) c.in_ok-push.ensures
    ∙ number_others g.E.Exact.value c.args.items.now.items (record { col = c.args.col; value = c.args.value }) j ne
