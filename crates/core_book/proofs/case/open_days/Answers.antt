use Rattle.std.proofs.Common.{◌≡◌, map, sym, ◌∙◌, ap, subst, take, ◌++◌, ◌∷◌, [], get_or, ◌+◌}
use Rattle.std.proofs.lemmas.List.{take_more, map-append}
use Rattle.jiff.specs.Words.{epoch_day}
use Rattle.core_days.specs.Flags.{AreOpenFlags}
use Rattle.core_book.specs.Inside.{AreOpenDays}
use Rattle.core_book.proofs.Lookups.{one-more-market}
use Rattle.core_book.proofs.case.open_days.Goals as goal

pub loop-market-preserved : goal.loop-market-preserved
loop-market-preserved c =
    let so_far = take c.loop-market.market-index c.args.holidays.now in
    let one : AreOpenFlags (map epoch_day c.market-item.result.items) (map epoch_day c.args.days.now) c.in_ok-open_flags.field-0.items =
    subst (λ ds. AreOpenFlags (map epoch_day ds) (map epoch_day c.args.days.now) c.in_ok-open_flags.field-0.items) c.deref.ensures.value c.in_ok-open_flags.ensures in
    let more = one-more-market (map (λ h. map epoch_day h.items) so_far) (map epoch_day c.args.days.now) (map (λ flags. flags.items) c.loop-market.open_days.items)
    (map epoch_day c.market-item.result.items) c.in_ok-open_flags.field-0.items c.loop-market.invariant one in
    let holidays : map (λ h. map epoch_day h.items) so_far ++ (map epoch_day c.market-item.result.items ∷ [])
    ≡ map (λ h. map epoch_day h.items) (take (c.loop-market.market-index + 1) c.args.holidays.now) =
    ap (λ h. map (λ h. map epoch_day h.items) so_far ++ (map epoch_day h.items ∷ [])) c.market-item.is
    ∙ sym (map-append (λ h. map epoch_day h.items) so_far (get_or c.args.holidays.now c.loop-market.market-index c.market-item.result ∷ []))
    ∙ ap (map (λ h. map epoch_day h.items)) (sym (take_more c.args.holidays.now c.loop-market.market-index c.market-item.result c.loop-market-test.true)) in
    let flags : map (λ flags. flags.items) c.loop-market.open_days.items ++ (c.in_ok-open_flags.field-0.items ∷ []) ≡ map (λ flags. flags.items) c.push.new.self.items =
    sym (ap (map (λ flags. flags.items)) c.in_ok-push.ensures.items ∙ map-append (λ flags. flags.items) c.loop-market.open_days.items (c.in_ok-open_flags.field-0 ∷ [])) in
    subst (λ fs. AreOpenDays (map (λ h. map epoch_day h.items) (take (c.loop-market.market-index + 1) c.args.holidays.now)) (map epoch_day c.args.days.now) fs) flags
    (subst (λ hs. AreOpenDays hs (map epoch_day c.args.days.now) (map (λ flags. flags.items) c.loop-market.open_days.items ++ (c.in_ok-open_flags.field-0.items ∷ []))) holidays more)
