use Rattle.std.proofs.Common.{rules, ◌≡◌}
use Rattle.core_gen.proofs.Printed.{seven-prices}
use Rattle.core_gen.proofs.record.prices.Goals as goal

pub returns : goal.returns
returns c = let same : c.from-k.result ≡ c.args.k = search rules in rw same (seven-prices c.args.k)
