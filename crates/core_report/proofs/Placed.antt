-- Where a place of a list by day, row and tier lies.
use Rattle.std.proofs.Common.{◌≡◌, refl, ℕ, zero, suc, ◌+◌, ◌*◌, ◌/◌, ◌%◌, ◌<◌, arith}
use Rattle.std.proofs.lemmas.Nat.{mod_below}
use Rattle.std.proofs.Math.Nat.{div-lt_iff_lt-mul}
use Rattle.core_book.specs.View.{CaseView, tiers}
use Rattle.core_book.specs.WellFormed.{IsCase}
use Rattle.core_book.proofs.Depth.{some-depth}
use Rattle.core_report.specs.Cells.{IsTierCell}

some-places : (h m n : ℕ) → n < h * m → 0 < m
some-places h zero n under = absurd (omega (arith, under))
some-places h (suc m) n under = omega arith

pub tier-placed : (c : CaseView) (rows n t : ℕ) → IsCase c → t ≡ tiers c → n < c.horizon * (rows * tiers c)
    → IsTierCell c rows n (record { row = n % (rows * t) / t; day = n / (rows * t) + 1; tier = n % (rows * t) % t + 1 })
tier-placed c rows n t kept e under =
    let some = some-places c.horizon (rows * tiers c) n under in
    let day : n / (rows * tiers c) < c.horizon = (div-lt_iff_lt-mul some).1 under in
    let rest : n % (rows * tiers c) < rows * tiers c = mod_below n (rows * tiers c) some in
    let row : n % (rows * tiers c) / tiers c < rows = (div-lt_iff_lt-mul (some-depth c)).1 rest in
    let tier : n % (rows * tiers c) % tiers c < tiers c = mod_below (n % (rows * tiers c)) (tiers c) (some-depth c) in
    let last = kept.last.0 in
    rw e (record {
      day_is = omega arith;
      row_is = refl;
      tier_is = omega arith;
      day_within = (omega arith, omega (arith, day));
      day_last = omega (arith, day, last);
      row_within = row;
      tier_within = (omega arith, omega (arith, tier));
    })
