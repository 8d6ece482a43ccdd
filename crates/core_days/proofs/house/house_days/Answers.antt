use Rattle.std.proofs.Common.{arith, rules, sym, ◌≡◌, ◌+◌, ◌<◌, length, map}
use Rattle.std.proofs.lemmas.Grind.{common_steps}
use Rattle.jiff.specs.Words.{epoch_day}
use Rattle.core_days.proofs.Walk.{dates-start, dates-on, dates-smaller, dates-within, dates-done, walked-off}
use Rattle.core_days.proofs.house.house_days.Goals as goal

pub loop-date-init : goal.loop-date-init
loop-date-init c = record {
  walked = dates-start c.args.start c.args.holidays.now c.in_ok-days.days.items c.push.new.self.items c.in_ok-days.ensures.items c.in_ok-push.ensures.items;
  wanted = grind (arith, common_steps);
}

pub date_after-date-requires : goal.date_after-date-requires
date_after-date-requires c =
    let few : length c.loop-date.days.items < c.args.last + 1 = search rules in
    dates-within c.args.start c.args.holidays.now c.loop-date.days.items c.loop-date.date (c.args.last + 1) c.loop-date.invariant.walked few
    c.requires.start c.requires.few (omega arith)

pub loop-date-smaller-in-Continue-branch-3 : goal.loop-date-smaller-in-Continue-branch-3
loop-date-smaller-in-Continue-branch-3 c =
    let few : length c.loop-date.days.items < c.args.last + 1 = search rules in
    dates-smaller c.args.start c.args.holidays.now c.loop-date.days.items c.loop-date.date c.date_after-date.result (c.args.last + 1)
    c.loop-date.invariant.walked few c.date_after-date.ensures

pub loop-date-preserved-in-Continue-branch-3 : goal.loop-date-preserved-in-Continue-branch-3
loop-date-preserved-in-Continue-branch-3 c = record {
  walked = dates-on c.args.start c.args.holidays.now c.loop-date.days.items c.push-then-is_working.new.self.items c.loop-date.date
      c.date_after-date.result c.date_after-date.ensures (sym c.if-is_working.ensures) c.in_ok-push-2.ensures.items c.loop-date.invariant.walked;
  wanted = grind (arith, common_steps);
}

pub loop-date-smaller : goal.loop-date-smaller
loop-date-smaller c =
    let few : length c.loop-date.days.items < c.args.last + 1 = search rules in
    dates-smaller c.args.start c.args.holidays.now c.loop-date.days.items c.loop-date.date c.date_after-date.result (c.args.last + 1)
    c.loop-date.invariant.walked few c.date_after-date.ensures

pub loop-date-preserved : goal.loop-date-preserved
loop-date-preserved c = record {
  walked = walked-off (epoch_day c.args.start) (map epoch_day c.args.holidays.now) (map epoch_day c.loop-date.days.items) (epoch_day c.loop-date.date)
      (epoch_day c.date_after-date.result) c.date_after-date.ensures (sym c.if-is_working.ensures) c.loop-date.invariant.walked;
  wanted = omega arith;
}

pub returns : goal.returns
returns c =
    let full : length c.loop-date.days.items ≡ c.args.last + 1 = search rules in
    dates-done c.args.start c.args.holidays.now c.loop-date.days.items c.loop-date.date c.args.last c.loop-date.invariant.walked full
