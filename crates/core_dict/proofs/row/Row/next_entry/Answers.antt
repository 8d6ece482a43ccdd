use Rattle.std.proofs.Common.{◌≡◌, ◌≢◌, ℕ, ◌<◌, ◌≤◌, length, sym, ◌∙◌, arith, below_more}
use Rattle.fractions.specs.Fraction.{zero_q}
use Rattle.core_dict.specs.Rows.{entry_of}
use Rattle.core_dict.proofs.Reading.{fraction_is}
use Rattle.core_dict.proofs.row.Row.next_entry.Goals as goal

pub loop-col-preserved : goal.loop-col-preserved
loop-col-preserved g c =
    let read = g.E.Exact.value in
    let x = c.args.self.now in
    let at : c.loop-col.col < length x.entries.items = omega arith in
    let here : entry_of read x c.loop-col.col ≡ zero_q =
    fraction_is read x.entries.items c.loop-col.col c.index-value.result.now at c.index-value.ensures
    ∙ c.is_zero.ensures.0 c.if-not-is_zero.false in
    λ j l m. below_more (λ (j : ℕ). c.args.from ≤ j → entry_of read x j ≡ zero_q) c.loop-col.col
    (λ j m l. c.loop-col.invariant j l m) (λ l. here) j m l

pub returns-then-not-is_zero : goal.returns-then-not-is_zero
returns-then-not-is_zero g c =
    let read = g.E.Exact.value in
    let x = c.args.self.now in
    let at : c.loop-col.col < length x.entries.items = omega arith in
    let here : entry_of read x c.loop-col.col ≡ read c.index-value.result.now =
    fraction_is read x.entries.items c.loop-col.col c.index-value.result.now at c.index-value.ensures in
    let not_zero : read c.index-value.result.now ≢ zero_q =
    λ e. let t = c.is_zero.ensures.1 e in let f = c.if-not-is_zero.true in cc in
    record {
      from_there = c.loop-col.auto.col;
      inside = at;
      value = sym here;
      not_zero = λ e. not_zero (sym here ∙ e);
      before = c.loop-col.invariant;
    }
