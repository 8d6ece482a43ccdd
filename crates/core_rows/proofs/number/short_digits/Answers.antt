use Rattle.std.proofs.Common.{arith}
use Rattle.core_rows.proofs.Digits.{one-more}
use Rattle.core_rows.proofs.number.short_digits.Goals as goal

pub overflow_mul-value : goal.overflow_mul-value
overflow_mul-value c = let room = one-more c.loop-b.value c.loop-b.b-index (omega arith) c.loop-b.invariant.within in omega (arith, room)

pub overflow_add-value : goal.overflow_add-value
overflow_add-value c = let room = one-more c.loop-b.value c.loop-b.b-index (omega arith) c.loop-b.invariant.within in omega (arith, room)
