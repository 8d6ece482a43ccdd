-- A case after an edit: it is a neighbour of the case, and keeps what a case keeps.
use Rattle.std.proofs.Common.{◌≡◌, ◌≢◌, refl, ◌∙◌, ap, ℕ, suc, ◌-◌, ◌<◌, ◌≤◌, ◌⊎◌, List, [], length, map, set, get_or, ℤ, pos, arith}
use Rattle.std.proofs.lemmas.List.{length-set}
use Rattle.std.proofs.lemmas.List.Elements.{All-set, All-weaker}
use Rattle.std.specs.List.{All, AllPairs}
use Rattle.core_sums.specs.Places.{row_at}
use Rattle.core_book.specs.View.{CaseView, TierView, no_tier, no_line, no_pool, line, pool, tier}
use Rattle.core_book.specs.Limits.{most_amount, least_cash, most_cash}
use Rattle.core_book.specs.WellFormed.{IsCase, IsIn, AreIn, IsTier, AreTiers, IsPool, IsLine, IsMember}
use Rattle.core_book.specs.Edits.{IsEdit, applied, with_limit, with_tier}
use Rattle.core_book.specs.Neighbours.{bare_line, bare_tier, bare_pool, bare_case, IsNeighbour}
use Rattle.core_book.specs.declared.edit.Edit.{Edit}
use Rattle.core_book.specs.declared.edit.Edit.TheVariants.{Limit, Cap, Line, Cash}
use Rattle.core_book.specs.declared.parts.Line as parts
use Rattle.core_book.specs.declared.parts.Pool.{Pool}
use Rattle.core_book.proofs.Alike.{same-mapped, alike-at, alike-pairs}
use Rattle.core_book.proofs.Depth.{depth-kept}

-- what is bare of the parts stays
bare-row : (xs : List TierView) (j u : ℕ) (amount : ℤ) → map bare_tier (set xs j (with_limit (get_or xs j no_tier) u amount)) ≡ map bare_tier xs
bare-row xs j u amount = same-mapped bare_tier xs j (with_limit (get_or xs j no_tier) u amount) no_tier refl

bare-depth : (c : CaseView) (i u j : ℕ) (amount : ℤ)
    → map (map bare_tier) (with_tier c.depth i j (with_limit (tier c i j) u amount)) ≡ map (map bare_tier) c.depth
bare-depth c i u j amount =
    same-mapped (map bare_tier) c.depth i (set (row_at c.depth i) (j - 1) (with_limit (tier c i j) u amount)) []
    (bare-row (row_at c.depth i) (j - 1) u amount)

bare-pools : (c : CaseView) (p : ℕ) (amount : ℤ) → map bare_pool (set c.pools p (record (pool c p) { cap = amount })) ≡ map bare_pool c.pools
bare-pools c p amount = same-mapped bare_pool c.pools p (record (pool c p) { cap = amount }) no_pool refl

bare-lines : (c : CaseView) (l : ℕ) (amount : ℤ) → map bare_line (set c.lines l (record (line c l) { amount = amount })) ≡ map bare_line c.lines
bare-lines c l amount = same-mapped bare_line c.lines l (record (line c l) { amount = amount }) no_line refl

-- a case differs from what an edit makes of it in such numbers alone
pub edited-bare : (c : CaseView) (edit : Edit) → bare_case (applied c edit) ≡ bare_case c
edited-bare c (Limit i u j amount) = ap (λ xs. record (bare_case c) { depth = xs }) (bare-depth c i u j amount)
edited-bare c (Cap p amount) = ap (λ xs. record (bare_case c) { pools = xs }) (bare-pools c p amount)
edited-bare c (Line l amount) = ap (λ xs. record (bare_case c) { lines = xs }) (bare-lines c l amount)
edited-bare c (Cash t amount) = refl

-- ---- what a case keeps
-- a case with other limits, caps, amounts and fixed cash, each of which keeps what it is to keep
module _ (c : CaseView) (kept : IsCase c) where
  IsDepth : List (List TierView) → Type 0
  IsDepth xs = (length xs ≡ length c.instruments) × All (AreTiers c.horizon) xs

  ArePools : List Pool → Type 0
  ArePools xs = (length xs ≡ length c.pools) × All IsPool xs × AllPairs (λ x y. x.name ≢ y.name) xs

  AreLines : List parts.Line → Type 0
  AreLines xs = All (IsLine c) xs × AllPairs (λ x y. (x.instrument ≢ y.instrument) ⊎ (x.side ≢ y.side)) xs

  IsCash : List ℤ → Type 0
  IsCash xs = AreIn (suc c.last) least_cash most_cash xs

  case-with : (depth : List (List TierView)) (pools : List Pool) (lines : List parts.Line) (cash : List ℤ)
      → IsDepth depth → ArePools pools → AreLines lines → IsCash cash
      → IsCase (record c { depth = depth; pools = pools; lines = lines; cash = cash })
  unfolding IsDepth ArePools AreLines IsCash
  case-with depth pools lines cash d p l m =
      let b : CaseView = record c { depth = depth; pools = pools; lines = lines; cash = cash } in
      record {
        start = kept.start;
        horizon = kept.horizon;
        last = kept.last;
        holidays = kept.holidays;
        instruments = kept.instruments;
        markets = kept.markets;
        depth = d;
        pools = (omega (arith, p.0, kept.pools.0), p.1, p.2);
        members = (
          All-weaker (IsMember c) (IsMember b)
              (λ x k. record { pool = omega (arith, k.pool, p.0); known = k.known; weight = k.weight }) c.members kept.members.0,
          kept.members.1,
        );
        scenarios = kept.scenarios;
        prices = kept.prices;
        lines = (
          All-weaker (IsLine c) (IsLine b)
              (λ x k. record { known = k.known; sign = k.sign; amount = k.amount; collateral = k.collateral }) lines l.0,
          l.1,
        );
        cash = m;
      }

  same-depth : IsDepth c.depth
  unfolding IsDepth
  same-depth = kept.depth

  same-pools : ArePools c.pools
  unfolding ArePools
  same-pools = (refl, kept.pools.1, kept.pools.2)

  same-lines : AreLines c.lines
  unfolding AreLines
  same-lines = kept.lines

  same-cash : IsCash c.cash
  unfolding IsCash
  same-cash = kept.cash

  other-depth : (i u j : ℕ) (amount : ℤ) → i < length c.instruments → IsIn (pos 0) most_amount amount
      → 1 ≤ j → j ≤ length (row_at c.depth i) → IsDepth (with_tier c.depth i j (with_limit (tier c i j) u amount))
  unfolding IsDepth
  other-depth i u j amount known range from to =
      let row : List TierView = row_at c.depth i in
      let x : TierView = with_limit (tier c i j) u amount in
      let all = depth-kept c i kept known in
      let old = all.each (j - 1) no_tier (omega (arith, from, to)) in
      let one : IsTier c.horizon x = record {
        cost = old.cost;
        limits = (
          length-set (tier c i j).limits (u - 1) amount ∙ old.limits.0,
          All-set (IsIn (pos 0) most_amount) (tier c i j).limits (u - 1) amount range old.limits.1,
        );
      } in
      let tiers : AreTiers c.horizon (set row (j - 1) x) = record {
        count = (omega (arith, all.count.0, length-set row (j - 1) x), omega (arith, all.count.1, length-set row (j - 1) x));
        free = ap (λ t. t.cost) (alike-at bare_tier row (set row (j - 1) x) 0 no_tier (bare-row row (j - 1) u amount)) ∙ all.free;
        each = All-set (IsTier c.horizon) row (j - 1) x one all.each;
      } in (
        length-set c.depth i (set row (j - 1) x) ∙ kept.depth.0,
        All-set (AreTiers c.horizon) c.depth i (set row (j - 1) x) tiers kept.depth.1,
      )

  other-pools : (p : ℕ) (amount : ℤ) → p < length c.pools → IsIn (pos 0) most_amount amount
      → ArePools (set c.pools p (record (pool c p) { cap = amount }))
  unfolding ArePools
  other-pools p amount known range =
      let x : Pool = record (pool c p) { cap = amount } in (
        length-set c.pools p x,
        All-set IsPool c.pools p x ((kept.pools.1 p no_pool known).0, range) kept.pools.1,
        alike-pairs bare_pool (λ x y. x.name ≢ y.name) c.pools (set c.pools p x) (bare-pools c p amount) kept.pools.2,
      )

  other-lines : (l : ℕ) (amount : ℤ) → l < length c.lines → IsIn (pos 1) most_amount amount
      → AreLines (set c.lines l (record (line c l) { amount = amount }))
  unfolding AreLines
  other-lines l amount known range =
      let x : parts.Line = record (line c l) { amount = amount } in
      let old = kept.lines.0 l no_line known in
      let one : IsLine c x = record { known = old.known; sign = old.sign; amount = range; collateral = old.collateral } in (
        All-set (IsLine c) c.lines l x one kept.lines.0,
        alike-pairs bare_line (λ x y. (x.instrument ≢ y.instrument) ⊎ (x.side ≢ y.side)) c.lines (set c.lines l x)
            (bare-lines c l amount) kept.lines.1,
      )

  other-cash : (t : ℕ) (amount : ℤ) → IsIn least_cash most_cash amount → IsCash (set c.cash t amount)
  unfolding IsCash
  other-cash t amount range = (
    length-set c.cash t amount ∙ kept.cash.0,
    All-set (IsIn least_cash most_cash) c.cash t amount range kept.cash.1,
  )

-- An edited case is a case.
pub edited-case : (c : CaseView) (edit : Edit) → IsCase c → IsEdit c edit → IsCase (applied c edit)
edited-case c (Limit i u j amount) kept (known, from, to, first, last, range) =
    case-with c kept (with_tier c.depth i j (with_limit (tier c i j) u amount)) c.pools c.lines c.cash
    (other-depth c kept i u j amount known range first last) (same-pools c kept) (same-lines c kept) (same-cash c kept)
edited-case c (Cap p amount) kept (known, range) =
    case-with c kept c.depth (set c.pools p (record (pool c p) { cap = amount })) c.lines c.cash
    (same-depth c kept) (other-pools c kept p amount known range) (same-lines c kept) (same-cash c kept)
edited-case c (Line l amount) kept (known, range) =
    case-with c kept c.depth c.pools (set c.lines l (record (line c l) { amount = amount })) c.cash
    (same-depth c kept) (same-pools c kept) (other-lines c kept l amount known range) (same-cash c kept)
edited-case c (Cash t amount) kept (day, range) =
    case-with c kept c.depth c.pools c.lines (set c.cash t amount)
    (same-depth c kept) (same-pools c kept) (same-lines c kept) (other-cash c kept t amount range)

-- And a neighbour.
pub edited-neighbour : (c : CaseView) (edit : Edit) → IsCase c → IsEdit c edit → IsNeighbour c (applied c edit)
edited-neighbour c edit kept is = record { kept = edited-case c edit kept is; same = edited-bare c edit }
