use Rattle.std.proofs.Common.{◌≡◌, rules}
use Rattle.core_book.specs.View.{tiers}
use Rattle.core_report.proofs.Placed.{tier-placed}
use Rattle.core_report.proofs.cells.tier_cell.Goals as goal

pub returns : goal.returns
returns c =
    let same : c.from-tiers.result ≡ tiers c.args.case.now = search rules in
    tier-placed c.args.case.now c.args.rows c.args.place c.from-tiers.result c.horizon-kept.ensures.kept same c.requires.place
