-- The worked case of two tiers keeps what every case keeps.
use Rattle.std.proofs.Common.{◌≡◌, ◌<◌, ◌^◌, refl, ℕ, zero, suc, ℤ, pos, negsuc, List, [], ◌∷◌, codes, arith, lit≤, lit<, inl, ◌≢◌, ◌⊎◌}
use Rattle.std.proofs.lemmas.Int.{ints}
use Rattle.std.specs.List.{All, AllPairs}
use Rattle.core_rows.specs.Fields.{IsName}
use Rattle.core_book.specs.WellFormed.{IsCase, IsIn, IsHoliday, AreHolidays, IsInstrument, IsTier, AreTiers, IsPool, IsMember, ArePaths, AreIn, IsLine}
use Rattle.core_book.specs.declared.parts.Kind.TheVariants.{Future}
use Rattle.core_book.specs.declared.parts.Side.TheVariants.{Position, Collateral}
use Rattle.core_model.proofs.WorkedCases.{numbers, tier_of, instrument_of, deep}

none : {X : Type 0} → (P : X → Type 0) → All P []
none P k d h = absurd (omega (arith, h))

and : {X : Type 0} → (P : X → Type 0) → (x : X) → (xs : List X) → P x → All P xs → All P (x ∷ xs)
and P x xs p ps zero d h = p
and P x xs p ps (suc k) d h = ps k d (omega (arith, h))

one : {X : Type 0} → (P : X → Type 0) → (x : X) → P x → All P (x ∷ [])
one P x p = and P x [] p (none P)

three : {X : Type 0} → (P : X → Type 0) → (x y z : X) → P x → P y → P z → All P (x ∷ y ∷ z ∷ [])
three P x y z p q r = and P x (y ∷ z ∷ []) p (and P y (z ∷ []) q (one P z r))

no-pair : {X : Type 0} → (R : X → X → Type 0) → AllPairs R []
no-pair R i j d before h = absurd (omega (arith, h))

one-alone : {X : Type 0} → (R : X → X → Type 0) → (x : X) → AllPairs R (x ∷ [])
one-alone R x i j d before h = absurd (omega (arith, before, h))

-- the parts of the case

tier-kept : (cost limit : ℕ) → IsIn (pos 0) (pos (10 ^ 12)) (pos cost) → IsIn (pos 0) (pos (10 ^ 9)) (pos limit) → IsTier 1 (tier_of cost (limit ∷ []))
tier-kept cost limit p q = record { cost = p; limits = (refl, one (IsIn (pos 0) (pos (10 ^ 9))) (pos limit) q) }

instrument-kept : IsInstrument 1 (instrument_of Future 1 0)
instrument-kept = record {
  name = record { filled = lit≤ tt; short = lit≤ tt; letters = refl };
  mult = (omega (arith, ints), omega (arith, ints));
  delay = (lit≤ tt, lit≤ tt);
  lag = lit≤ tt;
  expiry = lit≤ tt;
  security = λ same. refl;
}

tiers-kept : AreTiers 1 (tier_of 0 (6 ∷ []) ∷ tier_of 3 (10 ∷ []) ∷ [])
tiers-kept = record {
  count = (lit≤ tt, lit≤ tt);
  free = refl;
  each = and (IsTier 1) (tier_of 0 (6 ∷ [])) (tier_of 3 (10 ∷ []) ∷ []) (tier-kept 0 6 (omega (arith, ints), omega (arith, ints)) (omega (arith, ints), omega (arith, ints)))
      (one (IsTier 1) (tier_of 3 (10 ∷ [])) (tier-kept 3 10 (omega (arith, ints), omega (arith, ints)) (omega (arith, ints), omega (arith, ints))));
}

holidays-kept : All AreHolidays ([] ∷ [] ∷ [])
holidays-kept = and AreHolidays [] ([] ∷ []) (lit≤ tt, none IsHoliday) (one AreHolidays [] (lit≤ tt, none IsHoliday))

abbrev IsPrice : ℤ → Type 0
IsPrice = IsIn (negsuc 999999999999) (pos (10 ^ 12))

price-kept : (n : ℕ) → IsIn (pos 0) (pos 100) (pos n) → IsPrice (pos n)
price-kept n h = (omega (arith, ints), omega (arith, ints, h.1))

deep-kept : IsCase deep
deep-kept = record {
  start = (omega (arith, ints), omega (arith, ints));
  horizon = (lit≤ tt, lit≤ tt);
  last = (lit≤ tt, lit≤ tt);
  holidays = (lit≤ tt, lit≤ tt, holidays-kept);
  instruments = (lit≤ tt, one (IsInstrument 1) (instrument_of Future 1 0) instrument-kept, one-alone (λ x y. x.name ≢ y.name) (instrument_of Future 1 0));
  markets = (refl, one (λ m. m < 2) 1 (lit< tt));
  depth = (refl, one (AreTiers 1) (tier_of 0 (6 ∷ []) ∷ tier_of 3 (10 ∷ []) ∷ []) tiers-kept);
  pools = (lit≤ tt, none IsPool, no-pair (λ x y. x.name ≢ y.name));
  members = (none (IsMember deep), no-pair (λ x y. (x.pool ≢ y.pool) ⊎ (x.instrument ≢ y.instrument)));
  scenarios = (lit≤ tt, lit≤ tt, one IsName (codes "DOWN") (record { filled = lit≤ tt; short = lit≤ tt; letters = refl }), one-alone (λ x y. x ≢ y) (codes "DOWN"));
  prices = (
    refl,
    one (ArePaths deep) (numbers (100 ∷ 90 ∷ 90 ∷ []) ∷ []) (
      refl,
      one (AreIn 3 (negsuc 999999999999) (pos (10 ^ 12))) (numbers (100 ∷ 90 ∷ 90 ∷ []))
          (refl, three IsPrice (pos 100) (pos 90) (pos 90) (price-kept 100 (omega (arith, ints), omega (arith, ints))) (price-kept 90 (omega (arith, ints), omega (arith, ints))) (price-kept 90 (omega (arith, ints), omega (arith, ints)))),
    ),
  );
  lines = (
    one (IsLine deep) (record { instrument = 0; side = Position; sign = pos 1; amount = pos 10 }) (record {
      known = lit< tt;
      sign = inl refl;
      amount = (omega (arith, ints), omega (arith, ints));
      collateral = λ is. let same : Position ≡ Collateral = is in absurd (cc);
    }),
    one-alone (λ x y. (x.instrument ≢ y.instrument) ⊎ (x.side ≢ y.side)) (record { instrument = 0; side = Position; sign = pos 1; amount = pos 10 }),
  );
  cash = (refl, three (IsIn (negsuc 999999999999999) (pos (10 ^ 15))) (pos 0) (pos 0) (pos 0) (omega (arith, ints), omega (arith, ints)) (omega (arith, ints), omega (arith, ints)) (omega (arith, ints), omega (arith, ints)));
}
