use Rattle.std.proofs.Common.{Err, sym, ap, ◌∙◌}
use Rattle.core_dict.specs.Dictionary.{Dictionary}
use Rattle.core_dict.specs.Pivot.{pivot}
use Rattle.core_sparse.proofs.sparse.SparseStore.pivot.Goals as goal

pub exchange-requires-clause-entry : goal.exchange-requires-clause-entry
exchange-requires-clause-entry g c =
    λ e. c.requires.entry (ap (λ (d : Dictionary). d.entry c.args.row c.args.col) (sym c.in-Ok.ensures.same) ∙ e)

pub returns-in-Ok-clause-pivoted : goal.returns-in-Ok-clause-pivoted
returns-in-Ok-clause-pivoted g c =
    c.exchange.ensures ∙ ap (λ (d : Dictionary). pivot d c.args.row c.args.col) c.in-Ok.ensures.same

pub returns-in-Err-Left-clause-left : goal.returns-in-Err-Left-clause-left
returns-in-Err-Left-clause-left g c = λ e. c.in-Err-Left.ensures.left (ap Err c.in-Err-Left.field-0-is)
