use Rattle.std.proofs.Common.{ℕ, List, unsigned_abs, ap, ◌∙◌, refl}
use Rattle.core_dict.proofs.Outcomes.{apart}
use Rattle.core_sparse.specs.Items.{columns, value_at}
use Rattle.core_sparse.proofs.Dividing.{columns_more, values_more, fits_more}
use Rattle.core_sparse.proofs.own.own_items.Goals as goal

pub loop-item-preserved : goal.loop-item-preserved
loop-item-preserved g c =
    let read = g.E.Exact.value in
    let s : ℕ = c.args.col in
    let p = read c.args.pivot in
    let xs = c.args.before.now in
    let x = c.item-item.result in
    let i : ℕ = c.loop-item.item-index in
    record {
      cols = ap columns c.in_ok-push.ensures
          ∙ columns_more read s p xs c.loop-item.after.items i x
          (record { col = x.col; value = c.in_ok-value.value }) c.loop-item-test.true c.item-item.is
          c.loop-item.invariant.cols refl;
      values = λ k l. ap (λ (zs : List _). value_at read zs k) c.in_ok-push.ensures
          ∙ values_more read s p xs c.loop-item.after.items i x
          (record { col = x.col; value = c.in_ok-value.value }) c.loop-item-test.true c.item-item.is
          c.loop-item.invariant.cols refl c.loop-item.invariant.values c.in_ok-value.ensures.exact k l;
      fits = fits_more read s p xs c.loop-item.after.items i x
          (record { col = x.col; value = c.in_ok-value.value }) c.loop-item-test.true c.item-item.is
          c.loop-item.invariant.cols refl (unsigned_abs g.E.Exact.MOST) c.loop-item.invariant.fits
          (λ h. apart (c.in_ok-value.ensures.left.1 h));
    }
