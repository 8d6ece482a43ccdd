use Rattle.std.proofs.Common.{sym, ◌∙◌}
use Rattle.core_rows.proofs.NamePlaces.{place-found, place-missing}
use Rattle.core_case.proofs.state.place_of.Goals as goal

pub returns-in-Some : goal.returns-in-Some
returns-in-Some c =
    place-found c.args.name.now c.args.names.now.names.keys c.in-Some.place (sym c.get_index_of.ensures.index ∙ c.in-Some.is)

pub returns-in-None : goal.returns-in-None
returns-in-None c =
    c.len.ensures.len ∙ place-missing c.args.name.now c.args.names.now.names.keys (sym c.get_index_of.ensures.index ∙ c.in-None.is)
