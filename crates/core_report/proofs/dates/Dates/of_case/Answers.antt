use Rattle.std.proofs.Common.{◌≡◌, rules, ◌∙◌, ap, ◌++◌, ◌∷◌, [], suc, arith, pos, Some}
use Rattle.std.proofs.lemmas.List.Elements.{All-nil, All-push}
use Rattle.jiff_core.specs.Calendar.{IsBetween}
use Rattle.jiff_core.specs.Date.{epoch_day}
use Rattle.jiff_core.specs.declared.civil.date.Date.{Date}
use Rattle.core_rows.specs.Fields.{day_of}
use Rattle.core_rows.specs.Written.{date_text}
use Rattle.core_book.specs.View.{date}
use Rattle.core_report.proofs.HouseDates.{dates-read, house-date-from, printed-year, read-more, read-none}
use Rattle.core_report.proofs.dates.Dates.of_case.Goals as goal

pub loop-t-init : goal.loop-t-init
loop-t-init c =
    let none : c.in_ok-list.list.items ≡ [] = search rules in
    rw none (All-nil (λ (d : Date). IsBetween (pos 1) (pos 9999) d.year), read-none c.args.case.now)

pub loop-t-preserved : goal.loop-t-preserved
loop-t-preserved c =
    let case = c.args.case.now in
    let t = c.loop-t.t in
    let d = c.date.result in
    let day : epoch_day d ≡ date case t = c.date.ensures in
    let from = house-date-from case t c.last-last.ensures.kept in
    let year : IsBetween (pos 1) (pos 9999) d.year = printed-year d (rw day from) in
    let pushed : c.push.new.self.items ≡ c.loop-t.list.items ++ (d ∷ []) = search rules in
    let read : day_of (date_text d) ≡ Some (date case t) = c.law_of_date_texts.ensures.read d year ∙ ap Some day in
    rw pushed (All-push (λ (d : Date). IsBetween (pos 1) (pos 9999) d.year) c.loop-t.list.items d c.loop-t.invariant.0 year, read-more case t c.loop-t.list.items d c.loop-t.invariant.1 read)

pub returns : goal.returns
returns c =
    let all : c.loop-t.t ≡ suc c.args.case.now.last = omega (arith, c.loop-t-test.false, c.loop-t.auto.t-end, c.last-last.ensures.value) in
    dates-read c.args.case.now c.loop-t.t c.loop-t.list.items all c.loop-t.invariant.1
