use Rattle.std.proofs.Common.{◌∙◌, sym}
use Rattle.std.specs.Str.{bytes_eq}
use Rattle.core_rows.proofs.NamePlaces.{list_any-map}
use Rattle.core_cert.proofs.names.has_name.Goals as goal

pub returns : goal.returns
returns c = c.contains.ensures ∙ sym (list_any-map (bytes_eq c.args.word.now) (λ k. k.now) c.args.names.now.keys)
