use Rattle.core_top.specs.Report.{printed, replay_leaves}
use Rattle.core_top.proofs.report.reported.Goals as goal

pub returns-in-Ok : goal.returns-in-Ok
returns-in-Ok c = printed c.in-Ok.text.items c.in-Ok.ensures.text

pub returns-in_ok-text-in-Err-TooWide : goal.returns-in_ok-text-in-Err-TooWide
returns-in_ok-text-in-Err-TooWide c =
    rw (c.in_ok-text-in-Err-TooWide.ensures, c.scenario.ensures)
    (replay_leaves c.in-Err-TooWide.scenario c.in-Err-TooWide.day (rw c.in-Err-TooWide.field-0-is at c.in-Err-TooWide.ensures.stops))
