use Rattle.std.proofs.Common.{refl, arith}
use Rattle.core_top.specs.Words.{words_of}
use Rattle.core_top.specs.Around.{written, cut, unanswered}
use Rattle.core_top.proofs.Guaranteed.{guaranteed}
use Rattle.core_top.proofs.core_call.Goals as goal

pub returns-in-Err : goal.returns-in-Err
returns-in-Err g c = guaranteed c.margin_laws.ensures.valid c.margin_laws.ensures.never_spent _ (words_of c.args.words.now.items) 8 (unanswered refl) c.due.ensures.kept c.due.ensures.counts (omega arith) (rw c.deref.ensures.value at c.due.ensures.untouched)

pub returns-in-Ok-write_all : goal.returns-in-Ok-write_all
returns-in-Ok-write_all g c =
    guaranteed c.margin_laws.ensures.valid c.margin_laws.ensures.never_spent _ (words_of c.args.words.now.items) c.in-Ok.due.status
    (written c.in-Ok.due.status c.in-Ok.due.text.items (rw c.deref.ensures.value at c.in-Ok.ensures.due) (rw c.deref-in-Ok.ensures.value at c.in-Ok-write_all.ensures.appends))
    c.due.ensures.kept c.due.ensures.counts c.write_all.ensures.counts (rw c.deref.ensures.value at c.due.ensures.untouched)

pub returns : goal.returns
returns g c =
    guaranteed c.margin_laws.ensures.valid c.margin_laws.ensures.never_spent _ (words_of c.args.words.now.items) 7
    (cut c.in-Ok.due.status c.in-Ok.due.text.items (rw c.deref.ensures.value at c.in-Ok.ensures.due) c.in-Err-write_all.ensures.cause (rw c.deref-in-Ok.ensures.value at c.in-Err-write_all.ensures.part))
    c.due.ensures.kept c.due.ensures.counts c.write_all.ensures.counts (rw c.deref.ensures.value at c.due.ensures.untouched)
