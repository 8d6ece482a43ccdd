use Rattle.std.proofs.Common.{sym, ◌∙◌, None, get_or}
use Rattle.core_model.specs.Closing.{is_by}
use Rattle.core_flows.proofs.Telescope.{day_before-start, day_before-taken, day_before-kept}
use Rattle.core_flows.proofs.tables.last_paid.Goals as goal
use Rattle.core_flows.proofs.tables.last_paid.Goals.{then-is_by, else-is_by}

pub loop-v-init : goal.loop-v-init
loop-v-init c = sym (day_before-start (λ v. is_by (get_or c.args.pay_days.now v None) c.args.day))

pub loop-v-preserved : goal.loop-v-preserved
loop-v-preserved c =
    elim c.if-is_by.branch [
      | then-is_by w ↦ day_before-taken (λ v. is_by (get_or c.args.pay_days.now v None) c.args.day) c.loop-v.v c.if-is_by.last
          (sym c.is_by.ensures ∙ w.if-is_by.true) w.last-is
      | else-is_by w ↦ day_before-kept (λ v. is_by (get_or c.args.pay_days.now v None) c.args.day) c.loop-v.v c.if-is_by.last
          (sym c.is_by.ensures ∙ w.if-is_by.false) (w.last-is ∙ c.loop-v.invariant)
    ]
