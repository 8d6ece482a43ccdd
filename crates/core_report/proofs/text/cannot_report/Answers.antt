use Rattle.std.proofs.Common.{rules, ◌++◌, ◌∷◌, [], List, codes}
use Rattle.core_rows.specs.Names.{Record}
use Rattle.core_sums.specs.Sums.{total}
use Rattle.core_model.specs.Check.{bound_terms}
use Rattle.core_report.specs.Records.{full_weight_records, limit_weight_records, pool_weight_records, ratio_record}
use Rattle.core_report.proofs.Printed.{Prints, prints-on}
use Rattle.core_report.proofs.text.cannot_report.Goals as goal

pub returns : goal.returns
returns c =
    let case = c.args.accepted.now.weights.case in
    let w = c.args.accepted.now.weights.weights in
    let one : List Record = (codes "report" ∷ codes "cannot" ∷ []) ∷ [] in
    let two : List Record = ratio_record (codes "short") (total (bound_terms case w)) w.den ∷ [] in
    let three : List Record = full_weight_records case w in
    let four : List Record = limit_weight_records case c.args.accepted.now.dates.now w in
    let five : List Record = pool_weight_records case c.args.accepted.now.dates.now w in
    let six : List Record = (codes "end" ∷ []) ∷ [] in
    let words = c.put_words.new.out.items in
    let short = c.put_ratio.new.out.items in
    let fulls = c.put_fulls.new.out.items in
    let limits = c.put_limits.new.out.items in
    let pools = c.put_pools.new.out.items in
    let end = c.put_end.new.out.items in
    let first : Prints [] one words = search rules in
    let second : Prints words two short = search rules in
    let third : Prints short three fulls = search rules in
    let fourth : Prints fulls four limits = search rules in
    let fifth : Prints limits five pools = search rules in
    let sixth : Prints pools six end = search rules in
    let to_short = prints-on [] words short one two first second in
    let to_fulls = prints-on [] short fulls (one ++ two) three to_short third in
    let to_limits = prints-on [] fulls limits (one ++ two ++ three) four to_fulls fourth in
    let to_pools = prints-on [] limits pools (one ++ two ++ three ++ four) five to_limits fifth in
    prints-on [] pools end (one ++ two ++ three ++ four ++ five) six to_pools sixth
