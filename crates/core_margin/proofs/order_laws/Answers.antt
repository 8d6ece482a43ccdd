use Rattle.core_margin.proofs.Same.{margin_is_same, house_order_is_least}
use Rattle.core_margin.proofs.order_laws.Goals as goal

pub returns : goal.returns
returns c =
    let start = c.start_laws.ensures.dictionary in
    let run = c.run_laws.ensures in
    record {
      same = margin_is_same start run.same run.keeps run.dictionary;
      least = house_order_is_least start run.same run.keeps run.dictionary c.rank_law.ensures;
    }
