use Rattle.std.proofs.Common.{◌<◌, ap, arith}
use Rattle.core_model.specs.Closing.{line_count}
use Rattle.core_cert.proofs.NamesApart.{no_lines, one_more_line, line-key}
use Rattle.core_cert.proofs.names.numbered_lines.Goals as goal

pub loop-l-init : goal.loop-l-init
loop-l-init c = no_lines c.args.case.now c.new-lines.result.keys c.new-lines.ensures.empty

pub loop-l-preserved : goal.loop-l-preserved
loop-l-preserved c =
    let within : c.loop-l.l < line_count c.args.case.now = omega (arith, c.loop-l-test.true, c.lines-l-end.ensures) in
    let key = line-key c.args.case.now c.loop-l.l c.line-line.result.instrument c.args.instruments.now c.index-instruments-line.result c.line-line.result.side
    c.bytes.result.now c.side_word.result.now c.well_formed-2.ensures within (ap (λ x. x.instrument) c.line-line.ensures) (ap (λ x. x.side) c.line-line.ensures)
    c.requires c.index-instruments-line.is c.bytes.ensures.value c.side_word.ensures in
    one_more_line c.args.case.now c.loop-l.l c.loop-l.lines.keys c.insert.new.self.keys (record { instrument = c.bytes.result; side = c.side_word.result })
    c.well_formed-2.ensures within key c.loop-l.invariant c.in_ok-insert.ensures.keys
