use Rattle.std.proofs.Common.{◌≡◌, take}
use Rattle.std.specs.List.{All}
use Rattle.core_book.specs.Edits.{IsEdit}
use Rattle.core_edits.specs.Faults.{judge}
use Rattle.core_edits.specs.Stated.{edits_of}
use Rattle.core_rows.proofs.FirstFault.{IsSoundTo}
use Rattle.core_edits.proofs.read.edits_among.Given as goal

-- the records so far are sound, and these are their edits, which the case takes
abbrev pub invariant-loop-i : goal.invariant-loop-i
invariant-loop-i l = record {
  sound : IsSoundTo (judge l.case) l.rows l.i;
  stated : l.edits.items ≡ edits_of l.case (take l.i l.rows);
  known : All (IsEdit l.case) l.edits.items;
}
