use Rattle.std.proofs.Common.{◌≡◌, ◌∙◌, ◌+◌, sym, ap, length, true, is_some, arith}
use Rattle.core_rows.specs.Fields.{name_of}
use Rattle.core_rows.specs.Names.{field}
use Rattle.core_case.specs.Kinds.{heading_view}
use Rattle.core_case.proofs.SoundPaths.{found-implies, path-sound}
use Rattle.core_case.proofs.prices.sound_prices.Goals as goal

pub returns-clause-sound : goal.returns-clause-sound
returns-clause-sound c =
    let count : length c.args.row.now ≡ c.args.heading.last + 4 = omega arith in
    let scenario : is_some (name_of (field c.args.row.now 1)) ≡ true =
    ap (λ word. is_some (name_of word)) (sym c.word.ensures) ∙ ap is_some (sym c.name_of.ensures) ∙ c.if-is_none.ensures in
    let instrument : is_some (name_of (field c.args.row.now 2)) ≡ true =
    ap (λ word. is_some (name_of word)) (sym c.word-else-is_none.ensures) ∙ ap is_some (sym c.name_of-else-is_none.ensures) ∙ c.if-is_none-2.ensures in
    found-implies c.prices_from.result (path-sound (heading_view c.args.heading) c.args.row.now count scenario instrument) c.prices_from.ensures.sound
