use Rattle.std.proofs.Common.{◌≡◌, rules, sym, ◌∙◌, ap, length, ◌++◌, ◌∷◌, [], FitsSigned}
use mir.Syntax.{w128}
use Rattle.std.proofs.lemmas.Int.{to_z-of_z}
use Rattle.std.proofs.lemmas.List.{length-map}
use Rattle.core_replay.proofs.Standing.{put-view}
use Rattle.core_replay.proofs.payable.PayableFlows.put.Goals as goal

pub returns : goal.returns
returns c =
    let fits : FitsSigned w128 c.args.flow = search rules in
    let more : c.push.new.self.items ≡ c.index_mut.result.now.items ++ (c.args.flow ∷ []) = simp to_z-of_z at c.in_ok-push.ensures.items in
    let long : length c.self.inside.by_day.items ≡ length c.args.self.now = sym (length-map c.self.inside.by_day.items (λ v. v.items)) ∙ ap length c.self.view_is in
    put-view c.self.inside.by_day.items c.args.self.now c.args.day c.index_mut.result.now c.push.new.self c.args.flow c.self.view_is c.requires long c.index_mut.ensures.value more
