use Rattle.std.proofs.Common.{◌≡◌, ◌≤◌, ◌∙◌, ap, arith, rules}
use Rattle.core_case.specs.Kinds.{natural_in}
use Rattle.core_case.specs.Faults.{heading_of}
use Rattle.core_case.specs.Stated.{day_in}
use Rattle.core_case.proofs.state.book_with.Goals as goal

pub overflow_cast-last : goal.overflow_cast-last
overflow_cast-last c =
    let last : c.natural_in-last.result ≡ (heading_of c.args.register.now).last = c.natural_in-last.ensures.value ∙ ap (λ r. natural_in r 3) c.house-house.ensures in
    let small : (heading_of c.args.register.now).last ≤ 40 = c.requires.whole.kept.last.1 in
    search (rules, arith)

pub book_cash-requires : goal.book_cash-requires
book_cash-requires c = c.natural_in-last.ensures.value ∙ ap (λ r. natural_in r 3) c.house-house.ensures

pub returns : goal.returns
returns c =
    let start = c.day_in.ensures ∙ ap (λ r. day_in r 1) c.house-house.ensures in
    let horizon : c.natural_in.result ≡ (heading_of c.args.register.now).horizon = c.natural_in.ensures.value ∙ ap (λ r. natural_in r 2) c.house-house.ensures in
    let last : c.natural_in-last.result ≡ (heading_of c.args.register.now).last = c.natural_in-last.ensures.value ∙ ap (λ r. natural_in r 3) c.house-house.ensures in
    λ i. record {
      start = start i;
      horizon = horizon i;
      last = last i;
      holidays = c.in_ok-book_holidays.ensures i;
      instruments = c.in_ok-book_instruments.ensures i;
      markets = c.in_ok-book_markets.ensures i;
      depth = c.in_ok-book_depth.ensures i;
      pools = c.in_ok-book_pools.ensures i;
      members = c.in_ok-book_members.ensures i;
      scenarios = c.in_ok-book_scenarios.ensures i;
      prices = c.requires.prices i;
      lines = c.in_ok-book_lines.ensures i;
      cash = c.in_ok-book_cash.ensures i;
    }
