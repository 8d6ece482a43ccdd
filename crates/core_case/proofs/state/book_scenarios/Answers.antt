use Rattle.std.proofs.Common.{sym, ◌∙◌, ap, subst, map}
use Rattle.std.specs.List.{All}
use Rattle.core_rows.specs.Fields.{IsName}
use Rattle.core_rows.specs.Names.{field}
use Rattle.core_case.proofs.StateWhole.{scenarios_named}
use Rattle.core_case.proofs.state.book_scenarios.Goals as goal

pub scenarios-requires : goal.scenarios-requires
scenarios-requires c = let seen = ap (map (λ r. r.now)) c.deref.ensures.value ∙ c.in_ok-rows.ensures in subst (All (λ r. IsName (field r 1))) (sym seen) (scenarios_named c.args.register.now c.requires)
