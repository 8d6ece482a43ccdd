use Rattle.std.proofs.Common.{◌≡◌, drop}
use Rattle.std.specs.Option.{option_or}
use Rattle.core_rows.specs.Steps.{by_form, first_of}
use Rattle.core_rows.proofs.FieldWalk.{fault_from}
use Rattle.core_rows.proofs.shape.ranges_fault.Given as goal

abbrev pub invariant-loop-i : goal.invariant-loop-i
invariant-loop-i g l =
    let forms = g.S.Shape.forms l.shape in
    (first_of (by_form g.S.Shape.form_fault forms (drop 1 l.row)) ≡ fault_from g.S.Shape.form_fault forms l.row l.i)
    × (first_of (by_form g.S.Shape.range_fault forms (drop 1 l.row)) ≡ option_or l.first (fault_from g.S.Shape.range_fault forms l.row l.i))
