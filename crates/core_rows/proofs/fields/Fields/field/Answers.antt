use Rattle.std.proofs.Common.{◌∙◌}
use Rattle.csv.specs.Records.{fields_of}
use Rattle.core_rows.proofs.Places.{field_at-slice_get, field_within}
use Rattle.core_rows.proofs.fields.Fields.field.Goals as goal

pub returns-clause-value : goal.returns-clause-value
returns-clause-value c = rw (← c.self.view_is) (c.get.ensures.value ∙ field_at-slice_get (fields_of c.self.inside.row) c.args.i)

pub returns-clause-place : goal.returns-clause-place
returns-clause-place c =
    rw (← c.self.view_is) (field_within (fields_of c.self.inside.row) c.args.i c.get.result (c.get.ensures.value ∙ field_at-slice_get (fields_of c.self.inside.row) c.args.i))
