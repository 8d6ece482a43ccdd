use Rattle.std.proofs.Common.{◌∙◌, sym, ap}
use Rattle.core_cert.specs.Faults.{line_named}
use Rattle.core_cert.specs.declared.names.LineKey.{LineKey}
use Rattle.core_cert.proofs.NamePlaces.{line-found, line-missing}
use Rattle.core_cert.proofs.names.CaseNames.line_named.Goals as goal

pub returns-in-Some : goal.returns-in-Some
returns-in-Some c =
    let key : LineKey = record { instrument = c.word.result; side = c.word-2.result } in
    line-found c.self.inside.case.now c.args.row.now key c.self.inside.lines.keys c.in-Some.line c.word.ensures c.word-2.ensures c.self.invariant.lines
    (sym c.get_index_of.ensures.index ∙ c.in-Some.is)
    ∙ ap (λ x. line_named x c.args.row.now) c.self.view_is

pub returns-in-None : goal.returns-in-None
returns-in-None c =
    let key : LineKey = record { instrument = c.word.result; side = c.word-2.result } in
    c.len.ensures.len
    ∙ line-missing c.self.inside.case.now c.args.row.now key c.self.inside.lines.keys c.word.ensures c.word-2.ensures c.self.invariant.lines
    (sym c.get_index_of.ensures.index ∙ c.in-None.is)
    ∙ ap (λ x. line_named x c.args.row.now) c.self.view_is
