-- The field at a place.
use Rattle.std.proofs.Common.{◌≡◌, ◌<◌, ◌↔◌, ◌∙◌, Bor, ℕ, zero, suc, List, [], ◌∷◌, length, Option, Some, None, IsSome, refl, sym}
use Rattle.std.specs.Prelude.{slice_get, option_map}
use Rattle.std.proofs.lemmas.Option.{slice_get-get_or, slice_get_within}
use Rattle.csv.specs.Records.{field_at}

-- both words for the field at a place
pub field_at-slice_get : (fields : List (List ℕ)) (i : ℕ) → field_at fields i ≡ slice_get fields i
unfolding field_at
field_at-slice_get [] i = refl
field_at-slice_get (f ∷ fs) zero = refl
field_at-slice_get (f ∷ fs) (suc i) = field_at-slice_get fs i

-- there is a field exactly below the number of fields
pub field_within : (fields : List (List ℕ)) (i : ℕ) (field : Option (Bor (List ℕ))) → option_map (λ f. f.now) field ≡ slice_get fields i → IsSome field ↔ (i < length fields)
field_within fields i None e = (λ some. cc some, λ below. let both : None ≡ Some _ = e ∙ slice_get-get_or fields i [] below in cc both)
field_within fields i (Some f) e = (λ some. slice_get_within fields i f.now (sym e), λ below. refl)
