use Rattle.std.proofs.Common.{ap, arith, false, true}
use Rattle.core_dict.specs.Dictionary.{Dictionary}
use Rattle.core_rules.specs.Candidates.{before, Candidate}
use Rattle.core_rules.specs.Rules.{rule_view}
use Rattle.core_rules.specs.declared.cand.Cand.{Cand}
use Rattle.core_run.proofs.RowsSoFar.{tested, row_is, row_passed, row_first, row_at, row_taken, row_stays}
use Rattle.core_run.proofs.RowsSoFar.{var_ranked}
use Rattle.core_run.proofs.leaving.row_after.Goals as goal

pub returns-then-not-is_negative : goal.returns-then-not-is_negative
returns-then-not-is_negative g c =
    let d : Dictionary = g.D.Store.dictionary c.args.dict.now in
    row_passed (before (rule_view c.args.rule.now)) d c.args.row c.args.so_far
    (tested (g.E.Exact.value c.value-value.result) (d.value c.args.row) c.is_negative.result false
    c.is_negative.ensures c.value-value.ensures c.if-not-is_negative.true)
    c.requires.so_far

pub returns-in_default : goal.returns-in_default
returns-in_default g c =
    let d : Dictionary = g.D.Store.dictionary c.args.dict.now in
    let x : Cand = record { var = c.basic.result; value = c.wide.result } in
    row_first (before (rule_view c.args.rule.now)) d c.args.row c.args.so_far x
    (tested (g.E.Exact.value c.value-value.result) (d.value c.args.row) c.is_negative.result true
    c.is_negative.ensures c.value-value.ensures c.if-not-is_negative.false)
    (row_is d c.args.row x (g.E.Exact.value c.value-value.result) c.basic.ensures c.wide.ensures
    c.value-value.ensures)
    c.requires.so_far c.in_default.is

pub prefers-requires-clause-kept_ranked : goal.prefers-requires-clause-kept_ranked
prefers-requires-clause-kept_ranked g c =
    let d : Dictionary = g.D.Store.dictionary c.args.dict.now in
    let h = row_at (before (rule_view c.args.rule.now)) d c.args.row c.args.so_far c.in-Some.held
    c.requires.so_far c.in-Some.is in
    let l = h.inside in let m = c.requires.row_in in
    var_ranked (rule_view c.args.rule.now) d (g.met.D.Store.is_dictionary c.args.dict.now)
    c.requires.ranked c.in-Some.held.cand.var c.in-Some.held.row
    (ap (λ (x : Candidate). x.var) h.is) (omega (arith, l, m))

pub prefers-requires-clause-next_ranked : goal.prefers-requires-clause-next_ranked
prefers-requires-clause-next_ranked g c =
    var_ranked (rule_view c.args.rule.now) (g.D.Store.dictionary c.args.dict.now)
    (g.met.D.Store.is_dictionary c.args.dict.now) c.requires.ranked c.basic.result c.args.row
    c.basic.ensures c.requires.row_in

pub returns-then-prefers : goal.returns-then-prefers
returns-then-prefers g c =
    let d : Dictionary = g.D.Store.dictionary c.args.dict.now in
    let x : Cand = record { var = c.basic.result; value = c.wide.result } in
    row_taken (before (rule_view c.args.rule.now)) d c.args.row c.args.so_far c.in-Some.held x
    (tested (g.E.Exact.value c.value-value.result) (d.value c.args.row) c.is_negative.result true
    c.is_negative.ensures c.value-value.ensures c.if-not-is_negative.false)
    (row_is d c.args.row x (g.E.Exact.value c.value-value.result) c.basic.ensures c.wide.ensures
    c.value-value.ensures)
    c.requires.so_far c.in-Some.is c.prefers.result c.prefers.ensures c.if-prefers.true

pub returns-else-prefers : goal.returns-else-prefers
returns-else-prefers g c =
    let d : Dictionary = g.D.Store.dictionary c.args.dict.now in
    let x : Cand = record { var = c.basic.result; value = c.wide.result } in
    row_stays (before (rule_view c.args.rule.now)) d c.args.row c.args.so_far c.in-Some.held x
    (tested (g.E.Exact.value c.value-value.result) (d.value c.args.row) c.is_negative.result true
    c.is_negative.ensures c.value-value.ensures c.if-not-is_negative.false)
    (row_is d c.args.row x (g.E.Exact.value c.value-value.result) c.basic.ensures c.wide.ensures
    c.value-value.ensures)
    c.requires.so_far c.in-Some.is c.prefers.result c.prefers.ensures c.if-prefers.false
