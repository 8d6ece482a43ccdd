use Rattle.std.proofs.Common.{rules, ◌∙◌, ap, sym, subst, ◌++◌, ◌∷◌, [], List, codes}
use Rattle.std.specs.Int.{w128}
use Rattle.std.proofs.lemmas.Int.{to_z-of_z}
use Rattle.core_sums.proofs.Within128.{kept-fits}
use Rattle.core_rows.specs.Names.{Record}
use Rattle.core_sums.specs.Places.{at}
use Rattle.core_model.specs.Closing.{cash_of, worst_loss}
use Rattle.core_model.specs.Fits.{IsWithin128}
use Rattle.core_model.specs.OfCase.{planned}
use Rattle.core_replay.specs.Ledger.{paid_on}
use Rattle.core_report.specs.Records.{close_records, ledger_records, limit_records, loss_records, pool_records, top_records}
use Rattle.core_report.proofs.Printed.{Prints, prints-on, prints-same}
use Rattle.core_report.proofs.Ranked.{top-placed}
use Rattle.core_report.proofs.Replayed.{ledger-kept, ledger-printed, loss-kept}
use Rattle.core_report.proofs.text.closes_text.Goals as goal

pub put_loss-requires-clause-loss : goal.put_loss-requires-clause-loss
put_loss-requires-clause-loss c =
    let case = c.args.accepted.now.calendar.case in
    let a = planned c.args.accepted.now.calendar in
    let worst = c.args.worst in
    let is = c.requires.worst in
    let kept = subst IsWithin128 (is.place.worst ∙ sym is.loss)
    (loss-kept case a worst.scenario worst.day (is.stays worst.scenario is.place.scenario worst.day is.place.day)) in
    subst IsWithin128 (sym (to_z-of_z w128 worst.loss (kept-fits worst.loss kept))) kept

pub put_ledger-requires-clause-kept : goal.put_ledger-requires-clause-kept
put_ledger-requires-clause-kept c =
    ledger-kept c.args.accepted.now.calendar.case (planned c.args.accepted.now.calendar) c.args.worst.scenario c.args.ledger.now c.args.accepted.now.stays.den c.requires.ledger

pub put_top-requires-clause-placed : goal.put_top-requires-clause-placed
put_top-requires-clause-placed c =
    top-placed c.args.accepted.now.calendar.case (planned c.args.accepted.now.calendar) c.args.top.now c.requires.worst.stays c.requires.top

pub returns : goal.returns
returns c =
    let case = c.args.accepted.now.calendar.case in
    let dates = c.args.accepted.now.dates.now in
    let a = planned c.args.accepted.now.calendar in
    let k = c.args.worst.scenario in
    let ledger = c.args.ledger.now in
    let one : List Record = (codes "report" ∷ codes "closes" ∷ []) ∷ [] in
    let two : List Record = loss_records (worst_loss case a) a.den in
    let three : List Record = close_records case dates a in
    let four : List Record = limit_records case dates a in
    let five : List Record = pool_records case dates a in
    let paid : List Record = ledger_records case dates k (at ledger.paid) (at ledger.total) ledger.den in
    let six : List Record = ledger_records case dates k (paid_on case a k) (cash_of case a k) a.den in
    let seven : List Record = top_records case dates a.den c.args.top.now in
    let eight : List Record = (codes "end" ∷ []) ∷ [] in
    let words = c.put_words.new.out.items in
    let loss = c.put_loss.new.out.items in
    let closes = c.put_closes.new.out.items in
    let limits = c.put_limits.new.out.items in
    let pools = c.put_pools.new.out.items in
    let cash = c.put_ledger.new.out.items in
    let top = c.put_top.new.out.items in
    let end = c.put_end.new.out.items in
    let first : Prints [] one words = search rules in
    let of_worst : Prints words (loss_records c.args.worst.loss a.den) loss = search rules in
    let second = prints-same words loss (loss_records c.args.worst.loss a.den) two (ap (λ z. loss_records z a.den) c.requires.worst.loss) of_worst in
    let third : Prints loss three closes = search rules in
    let fourth : Prints closes four limits = search rules in
    let fifth : Prints limits five pools = search rules in
    let of_ledger : Prints pools paid cash = search rules in
    let sixth = prints-same pools cash paid six (ledger-printed case dates a k ledger c.requires.ledger) of_ledger in
    let seventh : Prints cash seven top = search rules in
    let eighth : Prints top eight end = search rules in
    let to_loss = prints-on [] words loss one two first second in
    let to_closes = prints-on [] loss closes (one ++ two) three to_loss third in
    let to_limits = prints-on [] closes limits (one ++ two ++ three) four to_closes fourth in
    let to_pools = prints-on [] limits pools (one ++ two ++ three ++ four) five to_limits fifth in
    let to_ledger = prints-on [] pools cash (one ++ two ++ three ++ four ++ five) six to_pools sixth in
    let to_top = prints-on [] cash top (one ++ two ++ three ++ four ++ five ++ six) seven to_ledger seventh in
    prints-on [] top end (one ++ two ++ three ++ four ++ five ++ six ++ seven) eight to_top eighth
