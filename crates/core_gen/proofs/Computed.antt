-- What is computed of each demo case up to 32.
use Rattle.std.proofs.Common.{◌≡◌, ◌∙◌, sym, ap, refl, ℕ, ◌<◌, ◌≤◌, arith, true, nat_le, length, map, get_or}
use Rattle.std.specs.Fmt.{digits}
use Rattle.std.proofs.lemmas.Bool.{leb-true}
use Rattle.core_sums.specs.Places.{below, days_to, each}
use Rattle.core_sums.proofs.Lists.{get_or-below}
use Rattle.core_rows.specs.Fields.{most_bytes}
use Rattle.core_gen.specs.Demo.{demo_text}

-- two functions that agree on 0 to 32
pub up-to-32 : {A : Type 0} (f g : ℕ → A) → map f (below 33) ≡ map g (below 33)
    → (n : ℕ) → n ≤ 32 → f n ≡ g n
up-to-32 f g same n high =
    let under : n < 33 = omega (arith, high) in
    sym (get_or-below 33 n f (f n) under)
    ∙ ap (λ xs. get_or xs n (f n)) same
    ∙ get_or-below 33 n g (f n) under

-- the sizes
short : map (λ n. nat_le (length (demo_text n)) most_bytes) (below 33) ≡ map (λ n. true) (below 33)
unfolding below days_to each digits
short = refl

pub demo_text-short : (n : ℕ) → n ≤ 32 → length (demo_text n) ≤ most_bytes
demo_text-short n high =
    leb-true (length (demo_text n)) most_bytes
    (up-to-32 (λ m. nat_le (length (demo_text m)) most_bytes) (λ m. true) short n high)
