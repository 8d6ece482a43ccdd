use Rattle.std.proofs.Common.{◌∙◌, sym, ap, ap₂, [], ◌∷◌, ◌++◌, map}
use Rattle.std.proofs.lemmas.List.{map-append}
use Rattle.core_lp.specs.CaseProgramme.{weights_in}
use Rattle.core_lp.proofs.Pools.{map-none, map-more}
use Rattle.core_lp.proofs.weights.weights.Goals as goal

pub loop-pool-init : goal.loop-pool-init
loop-pool-init c = ap (map (λ list. list.items)) c.in_ok-all.ensures.items ∙ sym (map-none (weights_in c.args.case.now))

pub loop-pool-preserved : goal.loop-pool-preserved
loop-pool-preserved c =
    ap (map (λ list. list.items)) c.in_ok-push.ensures.items
    ∙ map-append (λ list. list.items) c.loop-pool.all.items (_ ∷ [])
    ∙ ap₂ ◌++◌ c.loop-pool.invariant (ap (λ xs. xs ∷ []) c.in_ok-weights_in.ensures)
    ∙ sym (map-more c.loop-pool.pool (weights_in c.args.case.now))
