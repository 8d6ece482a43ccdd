use Rattle.std.proofs.Common.{◌≢◌, ◌∙◌, sym, subst}
use Rattle.std.specs.List.{AllPairs}
use Rattle.core_book.specs.View.{no_instrument, no_pool}
use Rattle.core_cert.proofs.NamesApart.{names-apart}
use Rattle.core_cert.proofs.names.CaseNames.make.Goals as goal

pub numbered-requires : goal.numbered-requires
numbered-requires c =
    subst (AllPairs (λ x y. x ≢ y)) (sym (c.deref.ensures.value ∙ c.requires.instruments))
    (names-apart (λ x. x.name) c.args.case.now.instruments no_instrument c.well_formed-2.ensures.instruments.2)

pub numbered-requires-3 : goal.numbered-requires-3
numbered-requires-3 c =
    subst (AllPairs (λ x y. x ≢ y)) (sym (c.deref-3.ensures.value ∙ c.requires.pools))
    (names-apart (λ x. x.name) c.args.case.now.pools no_pool c.well_formed-2.ensures.pools.2)
