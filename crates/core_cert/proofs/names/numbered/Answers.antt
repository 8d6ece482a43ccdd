use Rattle.std.proofs.Common.{◌∙◌, ◌+◌, refl, sym, ap, get_or}
use Rattle.core_rows.proofs.NamesApart.{one_more_name}
use Rattle.core_cert.proofs.names.numbered.Goals as goal

pub loop-name-preserved : goal.loop-name-preserved
loop-name-preserved c =
    one_more_name c.args.names.now c.loop-name.name-index (c.loop-name.name-index + 1) c.loop-name.set.keys c.insert.new.self.keys c.bytes.result
    refl c.requires c.loop-name-test.true (c.bytes.ensures.value ∙ c.name-item.is ∙ ap (get_or c.args.names.now c.loop-name.name-index) (sym c.bytes.ensures.value))
    c.loop-name.invariant c.in_ok-insert.ensures.keys
