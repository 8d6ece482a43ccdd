use Rattle.std.proofs.Common.{ap, refl, sym, true≢false, unsigned_abs, Err}
use Rattle.core_dict.specs.Dictionary.{Dictionary}
use Rattle.core_rules.specs.Candidates.{before, Preference}
use Rattle.core_rules.specs.Rules.{rule_view}
use Rattle.core_run.specs.Run.{turn}
use Rattle.core_run.proofs.Steps.{step_pivots, pivot_row, pivot_col, pivot_entry, pivots_whole, pivot_leaves}
use Rattle.core_run.proofs.turn.make_turn.Goals as goal

pub pivot-requires-clause-row_in : goal.pivot-requires-clause-row_in
pivot-requires-clause-row_in g c =
    let d : Dictionary = g.D.Store.dictionary c.args.dict.now in
    let b : Preference = before (rule_view c.args.rule.now) in
    pivot_row b d 0 c.in-Ok-Pivot.row c.in-Ok-Pivot.col
    (step_pivots c.args.pivots c.in-Ok-Pivot.row c.in-Ok-Pivot.col (turn b d) c.in-Ok-Pivot.field-0
    c.in-Ok-Pivot.ensures.step c.in-Ok-Pivot.field-0-is)

pub pivot-requires-clause-col_in : goal.pivot-requires-clause-col_in
pivot-requires-clause-col_in g c =
    let d : Dictionary = g.D.Store.dictionary c.args.dict.now in
    let b : Preference = before (rule_view c.args.rule.now) in
    pivot_col b d 0 c.in-Ok-Pivot.row c.in-Ok-Pivot.col
    (step_pivots c.args.pivots c.in-Ok-Pivot.row c.in-Ok-Pivot.col (turn b d) c.in-Ok-Pivot.field-0
    c.in-Ok-Pivot.ensures.step c.in-Ok-Pivot.field-0-is)

pub pivot-requires-clause-entry : goal.pivot-requires-clause-entry
pivot-requires-clause-entry g c =
    let d : Dictionary = g.D.Store.dictionary c.args.dict.now in
    let b : Preference = before (rule_view c.args.rule.now) in
    pivot_entry b d 0 c.in-Ok-Pivot.row c.in-Ok-Pivot.col
    (step_pivots c.args.pivots c.in-Ok-Pivot.row c.in-Ok-Pivot.col (turn b d) c.in-Ok-Pivot.field-0
    c.in-Ok-Pivot.ensures.step c.in-Ok-Pivot.field-0-is)

pub returns-in-Ok-clause-turned : goal.returns-in-Ok-clause-turned
returns-in-Ok-clause-turned g c =
    let d : Dictionary = g.D.Store.dictionary c.args.dict.now in
    let b : Preference = before (rule_view c.args.rule.now) in
    pivots_whole b d (unsigned_abs g.E.Exact.MOST) c.in-Ok-Pivot.row c.in-Ok-Pivot.col
    (step_pivots c.args.pivots c.in-Ok-Pivot.row c.in-Ok-Pivot.col (turn b d) c.in-Ok-Pivot.field-0
    c.in-Ok-Pivot.ensures.step c.in-Ok-Pivot.field-0-is)
    (g.D.Store.dictionary c.pivot.new.self)
    (λ h. true≢false (sym (c.in-Ok-Pivot.ensures.left.1 h))) c.in-Ok.ensures.fits c.in-Ok.ensures.pivoted

pub returns-in-Err-Left-clause-turned : goal.returns-in-Err-Left-clause-turned
returns-in-Err-Left-clause-turned g c =
    let d : Dictionary = g.D.Store.dictionary c.args.dict.now in
    let b : Preference = before (rule_view c.args.rule.now) in (
      c.in-Err-Left.ensures.unchanged,
      refl,
      pivot_leaves b d (unsigned_abs g.E.Exact.MOST) c.in-Ok-Pivot.row c.in-Ok-Pivot.col
          (step_pivots c.args.pivots c.in-Ok-Pivot.row c.in-Ok-Pivot.col (turn b d) c.in-Ok-Pivot.field-0
          c.in-Ok-Pivot.ensures.step c.in-Ok-Pivot.field-0-is)
          (c.in-Err-Left.ensures.left (ap Err c.in-Err-Left.field-0-is)),
    )
