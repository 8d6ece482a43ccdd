use Rattle.core_top.specs.Judged.{refused, too_wide}
use Rattle.core_top.proofs.judged.judge.Goals as goal

pub returns-in-Err-No-clause-ends : goal.returns-in-Err-No-clause-ends
returns-in-Err-No-clause-ends c = refused c.in-Err-No.condition c.in-Err-No.place (rw c.in-Err-No.field-0-is at c.in-Err-No.ensures.refused)

pub returns-in-Err-TooWide-clause-ends : goal.returns-in-Err-TooWide-clause-ends
returns-in-Err-TooWide-clause-ends c = too_wide c.in-Err-TooWide.condition c.in-Err-TooWide.place (rw c.in-Err-TooWide.field-0-is at c.in-Err-TooWide.ensures.refused)
