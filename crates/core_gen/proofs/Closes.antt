-- Ten of each line on each of the days 1 to 3 close a demo case.
use Rattle.std.proofs.Common.{◌≡◌, ◌∙◌, sym, ap, subst, refl, ℕ, zero, suc, ◌-◌, ◌<◌, ◌≤◌, arith, ℤ, pos, ◌≤ℤ◌, ◌*ℤ◌, Bool, true, false, not, ◌&&◌, ◌==◌, nat_le, List, [], ◌∷◌, length, map, get_or, fold, max, is_some, None, if◌then◌else◌, eq-eqb}
use Rattle.std.proofs.lemmas.Bool.{ne_eqb}
use Rattle.std.proofs.lemmas.Int.{ints}
use Rattle.std.proofs.lemmas.List.{length-map}
use Rattle.core_sums.specs.Sums.{sum_below, sum_days}
use Rattle.core_sums.specs.Places.{at, below, has, least_below, row_at}
use Rattle.core_sums.proofs.Lists.{get_or-below, length-below}
use Rattle.core_sums.proofs.SumLaws.{sum_below-single}
use Rattle.core_days.specs.Days.{house_day, is_open_on, open_days, pay_day, working_dates}
use Rattle.core_book.specs.View.{TierView, instrument, instrument_of, is_allowed, is_traded, limit, line, no_instrument, no_line, no_tier, takes, tiers}
use Rattle.core_book.specs.declared.parts.Instr.{Instr}
use Rattle.core_book.specs.declared.parts.Line.{Line}
use Rattle.core_model.specs.Closing.{ClosesAsAllowed, ClosesInFull, ClosesLine, IsCalendar, KeepsCaps, KeepsLimits, closed_in, closed_on}
use Rattle.core_gen.specs.Closed.{DemosClose, demo_instrument, demo_line, demo_plan, demo_tier, demo_view}

-- the parts of the case by index
lines-count : (n : ℕ) → length (map demo_line (below n)) ≡ n
lines-count n = length-map (below n) demo_line ∙ length-below n

instruments-count : (n : ℕ) → length (map demo_instrument (below n)) ≡ n
instruments-count n = length-map (below n) demo_instrument ∙ length-below n

line-at : (n l : ℕ) → l < n → line (demo_view n) l ≡ demo_line l
line-at n l under = get_or-below n l demo_line no_line under

instrument-at : (n i : ℕ) → i < n → instrument (demo_view n) i ≡ demo_instrument i
instrument-at n i under = get_or-below n i demo_instrument no_instrument under

market-at : (n i : ℕ) → i < n → get_or (demo_view n).markets i 0 ≡ 1
market-at n i under = get_or-below n i (λ j. 1) 0 under

depth-at : (n i : ℕ) → i < n → row_at (map (λ j. demo_tier ∷ []) (below n)) i ≡ demo_tier ∷ []
depth-at n i under = get_or-below n i (λ j. demo_tier ∷ []) [] under

-- each instrument has one tier
deepest : (is : List ℕ)
    → fold (λ m (xs : List TierView). max m (length xs)) 1 (map (λ j. demo_tier ∷ []) is) ≡ 1
deepest [] = refl
deepest (i ∷ is) = deepest is

one-tier : (n : ℕ) → tiers (demo_view n) ≡ 1
one-tier n = deepest (below n)

-- what holds on each of the five days in tier 1 holds at each place
each-day : (P : ℕ → ℕ → Type 0) → P 1 1 → P 2 1 → P 3 1 → P 4 1 → P 5 1
    → (u j : ℕ) → 1 ≤ u → u ≤ 5 → 1 ≤ j → j ≤ 1 → P u j
each-day P a b c d e zero j from to low high = absurd (omega (arith, from))
each-day P a b c d e (suc u) zero from to low high = absurd (omega (arith, low))
each-day P a b c d e (suc u) (suc (suc j)) from to low high = absurd (omega (arith, high))
each-day P a b c d e (suc zero) (suc zero) from to low high = a
each-day P a b c d e (suc (suc zero)) (suc zero) from to low high = b
each-day P a b c d e (suc (suc (suc zero))) (suc zero) from to low high = c
each-day P a b c d e (suc (suc (suc (suc zero)))) (suc zero) from to low high = d
each-day P a b c d e (suc (suc (suc (suc (suc zero))))) (suc zero) from to low high = e
each-day P a b c d e (suc (suc (suc (suc (suc (suc u)))))) (suc zero) from to low high =
    absurd (omega (arith, to))

low-tier : (n j : ℕ) → j ≤ tiers (demo_view n) → j ≤ 1
low-tier n j high = subst (λ (k : ℕ). j ≤ k) (one-tier n) high

-- no amount is below 0
amount-from_0 : (b : Bool) → pos 0 ≤ℤ (if b then pos 10 else pos 0)
amount-from_0 true = omega (arith, ints)
amount-from_0 false = omega (arith, ints)

calendar : (n : ℕ) → IsCalendar (demo_view n) demo_plan
calendar n = (omega (arith, ints), λ l u j at. amount-from_0 (nat_le u 3))

-- whether a market is open, and whether an instrument of it takes closings in tier 1
abbrev opens : ℕ → ℕ → Bool
opens market t = is_open_on (row_at ([] ∷ [] ∷ []) market) t (house_day (pos 19723) [] t)

abbrev takes_by : ℕ → Instr → List TierView → ℕ → Bool
takes_by market x depth u =
    nat_le 1 u && nat_le u 5
    && is_some (if opens market u then pay_day (opens market) 6 x.lag u else None)
    && nat_le 1 1 && nat_le 1 (length depth)
    && (if not (u == x.expiry) then is_traded x u else 1 == 1)

abbrev takes_on : ℕ → ℕ → Bool
takes_on l u = takes_by 1 (demo_instrument l) (demo_tier ∷ []) u

allowed-by : (n l u : ℕ) → l < n → is_allowed (demo_view n) l u 1 ≡ takes_on l u
allowed-by n l u under =
    let c = demo_view n in
    ap (λ (x : Line). takes c x.instrument u 1) (line-at n l under)
    ∙ ap (λ (m : ℕ). takes_by m (instrument c l) (row_at c.depth l) u) (market-at n l under)
    ∙ ap (λ (x : Instr). takes_by 1 x (row_at c.depth l) u) (instrument-at n l under)
    ∙ ap (λ (xs : List TierView). takes_by 1 (demo_instrument l) xs u) (depth-at n l under)

taken : (l : ℕ) → (takes_on l 1 ≡ true) × (takes_on l 2 ≡ true) × (takes_on l 3 ≡ true)
unfolding has least_below working_dates open_days
taken l = (refl, refl, refl)

never : (P : Type 0) (b : Bool) → b ≡ true → b ≡ false → P
never P true on off = absurd (cc)
never P false on off = absurd (cc)

allowed : (n : ℕ) → ClosesAsAllowed (demo_view n) demo_plan
allowed n l u j place =
    let under : l < n = subst (λ (k : ℕ). l < k) (lines-count n) place.0 in
    let high : j ≤ 1 = low-tier n j place.2.1 in
    each-day (λ v i. is_allowed (demo_view n) l v i ≡ false → demo_plan.amount l v i ≡ pos 0)
    (never _ _ (allowed-by n l 1 under ∙ (taken l).0))
    (never _ _ (allowed-by n l 2 under ∙ (taken l).1))
    (never _ _ (allowed-by n l 3 under ∙ (taken l).2))
    (λ h. refl) (λ h. refl) u j place.1.0 place.1.1 place.2.0 high

-- thirty are closed of each line
full : (n : ℕ) → ClosesInFull (demo_view n) demo_plan
unfolding sum_below
full n l known =
    let under : l < n = subst (λ (k : ℕ). l < k) (lines-count n) known in
    let closed = sum_days 5 (closed_on (demo_view n) demo_plan l) in
    subst (λ (x : Line). ClosesLine x.side closed (x.amount *ℤ pos 1)) (sym (line-at n l under))
    (ap (λ (k : ℕ). sum_days 5 (λ u. sum_days k (demo_plan.amount l u))) (one-tier n))

-- an instrument's one line
abbrev of_line : ℕ → ℕ → ℤ → ℤ
of_line k i z = if k == i then z else pos 0

alone : (n i u j : ℕ) → i < n → closed_in (demo_view n) demo_plan i u j ≡ demo_plan.amount i u j
alone n i u j under =
    let z = demo_plan.amount i u j in
    let f : ℕ → ℤ = λ l. of_line (instrument_of (demo_view n) l) i z in
    let at-line : (l : ℕ) → l < n → f l ≡ of_line l i z =
    λ l below. ap (λ (x : Line). of_line x.instrument i z) (line-at n l below) in
    let chosen : (l : ℕ) (b : Bool) → (l == i) ≡ b → of_line l i z ≡ (if b then z else pos 0) =
    λ l b e. ap (λ (x : Bool). if x then z else pos 0) e in
    ap (λ (k : ℕ). sum_below k f) (lines-count n)
    ∙ sum_below-single n i f under
    (λ l below apart. at-line l below ∙ chosen l false (ne_eqb l i apart))
    ∙ at-line i under ∙ chosen i true (eq-eqb i i refl)

limited : (n i u : ℕ) → i < n → limit (demo_view n) i u 1 ≡ at demo_tier.limits (u - 1)
limited n i u under =
    ap (λ (xs : List TierView). at (get_or xs 0 no_tier).limits (u - 1)) (depth-at n i under)

within : (x y z w : ℤ) → x ≡ z → y ≡ w → z ≤ℤ (w *ℤ pos 1) → x ≤ℤ (y *ℤ pos 1)
within x y z w e d h = rw (e, d) h

limits : (n : ℕ) → KeepsLimits (demo_view n) demo_plan
limits n i u j known day tier counts =
    let under : i < n = subst (λ (k : ℕ). i < k) (instruments-count n) known in
    let c = demo_view n in
    let On : ℕ → ℕ → Type 0 = λ v k. closed_in c demo_plan i v k ≤ℤ (limit c i v k *ℤ pos 1) in
    let on : (v : ℕ) → demo_plan.amount i v 1 ≤ℤ (at demo_tier.limits (v - 1) *ℤ pos 1) → On v 1 =
    λ v h. within _ _ _ _ (alone n i v 1 under) (limited n i v under) h in
    each-day On
    (on 1 (omega (arith, ints)))
    (on 2 (omega (arith, ints)))
    (on 3 (omega (arith, ints)))
    (on 4 (omega (arith, ints)))
    (on 5 (omega (arith, ints)))
    u j day.0 day.1 tier.0 (low-tier n j tier.1)

caps : (n : ℕ) → KeepsCaps (demo_view n) demo_plan
caps n p u known day = let off : p < 0 = known in absurd (omega (arith, off))

pub demos-close : DemosClose
demos-close n = record {
  calendar = calendar n;
  allowed = allowed n;
  full = full n;
  limits = limits n;
  caps = caps n;
}
