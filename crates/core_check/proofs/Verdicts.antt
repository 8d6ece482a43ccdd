-- A certificate that the check passes is valid, and no number of it leaves.
use Rattle.std.proofs.Common.{◌≡◌, refl, ◌∙◌, ap, true, not, ◌&&◌, List, [], ◌∷◌}
use Rattle.std.specs.List.{list_all}
use Rattle.core_sums.specs.Widths.{any_leaves}
use Rattle.core_model.specs.Check.{Place, Passed, Failed, Wide, verdict_of}
use Rattle.core_check.proofs.Order.{verdict-first}
use Rattle.core_check.proofs.Passing.{place_holds, place_stays}

-- where no place stops the check, no number of any leaves and each holds
pub record AllPass (xs : List Place) : Type 0 where
  pub stay : list_all place_stays xs ≡ true
  pub hold : list_all place_holds xs ≡ true

pub passed-all : (xs : List Place) → verdict_of xs ≡ Passed → AllPass xs
unfolding verdict_of
passed-all [] e = record { stay = refl; hold = refl }
passed-all (x ∷ xs) e =
    let here =
    verdict-first (any_leaves x.test.numbers) x.test.holds (Wide x.condition x.place) (Failed x.condition x.place) (verdict_of xs) e (λ clash. cc) (λ clash. cc) in
    let rest = passed-all xs here.2 in
    record {
      stay = ap (λ b. not b && list_all place_stays xs) here.0 ∙ rest.stay;
      hold = ap (λ b. b && list_all place_holds xs) here.1 ∙ rest.hold;
    }
