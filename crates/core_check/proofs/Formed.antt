-- Sums that the check has formed are there.
use Rattle.std.proofs.Common.{◌≡◌, ◌∙◌, sym, ap, arith, ℤ, pos, ◌+ℤ◌, List, ◌++◌, false, if◌then◌else◌, Option, Some, None, unwrap_or}
use Rattle.std.proofs.lemmas.Int.{ints}
use Rattle.core_sums.specs.Sums.{total, partial_sums}
use Rattle.core_sums.specs.Widths.{any_leaves, IsWithin128}
use Rattle.core_wide.specs.Steps.{summed}
use Rattle.core_wide.proofs.Adding.{sum-kept}

pub formed-some : (ns xs : List ℤ) → any_leaves (ns ++ partial_sums (pos 0) xs) ≡ false → summed (pos 0) ns xs ≡ Some (total xs)
unfolding summed
formed-some ns xs stays =
    let whole : pos 0 +ℤ total xs ≡ total xs = omega (arith, ints) in
    ap (λ b. if b then None else Some (pos 0 +ℤ total xs)) stays ∙ ap Some whole

-- the sum is the total of its terms, and 128 bits keep it
pub formed : (ns xs : List ℤ) (r : Option ℤ) (z : ℤ) → z ≡ unwrap_or r (pos 0) → r ≡ summed (pos 0) ns xs → any_leaves (ns ++ partial_sums (pos 0) xs) ≡ false
    → (z ≡ total xs) × IsWithin128 z
formed ns xs r z given sum stays =
    let there = formed-some ns xs stays in
    let value : z ≡ total xs = given ∙ ap (λ o. unwrap_or o (pos 0)) (sum ∙ there) in
    (value, sum-kept z ns xs (there ∙ ap Some (sym value)))
