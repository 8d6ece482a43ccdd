use Rattle.core_margin.proofs.Reached.{start_stands, run_stands, run_reaches}
use Rattle.core_margin.proofs.run_reaches.Goals as goal

pub returns : goal.returns
returns c =
    let start = c.start_laws.ensures in
    let run = c.run_laws.ensures in
    let stands = run_stands run.keeps run.dictionary run.costs in
    record {
      start = start_stands run.keeps run.dictionary run.costs start.dictionary start.costs;
      stands = stands;
      reached = run_reaches stands run.turn;
    }
