use Rattle.std.proofs.Common.{sym, ◌∙◌, ap, subst, map}
use Rattle.std.specs.List.{All}
use Rattle.core_rows.specs.Fields.{IsName}
use Rattle.core_rows.specs.Names.{field}
use Rattle.core_case.proofs.StateWhole.{pools_named}
use Rattle.core_case.proofs.state.book_pools.Goals as goal

pub pools-requires : goal.pools-requires
pools-requires c = let seen = ap (map (λ r. r.now)) c.deref.ensures.value ∙ c.in_ok-rows.ensures in subst (All (λ r. IsName (field r 1))) (sym seen) (pools_named c.args.register.now c.requires)
