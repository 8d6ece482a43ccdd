-- The weights of a pool's instruments, member by member.
use Rattle.std.proofs.Common.{◌≡◌, ◌≢◌, sym, zero, ◌^◌, ◌≤ℤ◌, unsigned_abs, ◌∙◌, ap, ℕ, suc, ◌+◌, ◌<◌, ◌≤◌, ◌⊎◌, inl, inr, ℤ, pos, ◌+ℤ◌, arith, ◌&&◌, eqb, eq-eqb, ne_eqb, List, length, set, get_or, replicate, map, refl, [], ◌∷◌, ◌++◌}
use Rattle.std.proofs.lemmas.Int.{ints}
use Rattle.std.proofs.lemmas.Bool.{cases_eq}
use Rattle.std.proofs.lemmas.List.{get_or-set_same, get_or-set_other, length-set, length-map, length-replicate, get_or-replicate, ext_get_or}
use Rattle.core_sums.specs.Sums.{sum_below}
use Rattle.core_sums.specs.Places.{at, below}
use Rattle.core_sums.proofs.Within128.{abs-within}
use Rattle.core_sums.proofs.SumLaws.{sum_below-none, sum_below-more}
use Rattle.core_sums.proofs.Lists.{length-below, get_or-below}
use Rattle.core_sums.proofs.Joined.{each-single, each-more}
use Rattle.core_book.specs.View.{CaseView, member, no_member}
use Rattle.core_book.specs.WellFormed.{IsCase, IsMember}
use Rattle.core_lp.specs.CaseProgramme.{only_if, weight_in, weights_in, weights_of}
use Rattle.core_lp.proofs.Sums.{only-false, both_first, both_second}

-- what a member adds to the weight of an instrument
abbrev pub weight_of : CaseView → ℕ → ℕ → ℕ → ℤ
weight_of c p i m = only_if (eqb (member c m).pool p && eqb (member c m).instrument i) (member c m).weight

-- by instrument, the weights of the members below n
pub record AreWeights (c : CaseView) (p n : ℕ) (xs : List ℤ) : Type 0 where
  pub count : length xs ≡ length c.instruments
  pub each : (i : ℕ) → i < length c.instruments → at xs i ≡ sum_below n (weight_of c p i)

pub member-kept : (c : CaseView) (m : ℕ) → IsCase c → m < length c.members → IsMember c (member c m)
member-kept c m kept below = kept.members.0 m no_member below

-- none at first
pub weights-none : (c : CaseView) (p : ℕ) → AreWeights c p 0 (replicate (length c.instruments) (pos 0))
unfolding sum_below
weights-none c p = record {
  count = length-replicate (length c.instruments) (pos 0);
  each = λ i l. get_or-replicate (length c.instruments) i (pos 0) (pos 0) l;
}

module _ (c : CaseView) (p i : ℕ) (kept : IsCase c) where
  -- no member before one of the pool and the instrument is another
  before-none : (m : ℕ) → m < length c.members → (member c m).pool ≡ p → (member c m).instrument ≡ i
      → (j : ℕ) → j < m → weight_of c p i j ≡ pos 0
  before-none m below own of j l = elim (kept.members.1 j m no_member l below) [
    | inl pools ↦ only-false _ (member c j).weight
        (both_first (eqb (member c j).pool p) (eqb (member c j).instrument i)
        (ne_eqb (member c j).pool p (λ e. pools (e ∙ sym own))))
    | inr others ↦ only-false _ (member c j).weight
        (both_second (eqb (member c j).pool p) (eqb (member c j).instrument i)
        (ne_eqb (member c j).instrument i (λ e. others (e ∙ sym of))))
  ]

module _ (c : CaseView) (p m : ℕ) (xs : List ℤ) where
  -- a sum with nought added
  same : (i : ℕ) → weight_of c p i m ≡ pos 0 → sum_below (m + 1) (weight_of c p i) ≡ sum_below m (weight_of c p i)
  same i none = let e = sum_below-more m (weight_of c p i) in omega (arith, ints, e, none)

  -- a member of another pool adds nothing
  pub weights-other : AreWeights c p m xs → (member c m).pool ≢ p → AreWeights c p (m + 1) xs
  weights-other h other = record {
    count = h.count;
    each = λ i l. h.each i l ∙ sym (same i (only-false _ (member c m).weight
        (both_first (eqb (member c m).pool p) (eqb (member c m).instrument i) (ne_eqb (member c m).pool p other))));
  }

  -- and one of the pool gives its instrument its weight
  pub weights-own : IsCase c → m < length c.members → AreWeights c p m xs → (member c m).pool ≡ p
      → AreWeights c p (m + 1) (set xs (member c m).instrument (member c m).weight)
  weights-own kept below h own = record {
    count = length-set xs (member c m).instrument (member c m).weight ∙ h.count;
    each = λ i l. by i l (cases_eq i (member c m).instrument);
  }
    where
      x : ℕ
      x = (member c m).instrument

      known : x < length c.instruments
      known = (member-kept c m kept below).known

      here : weight_of c p x m ≡ (member c m).weight
      here = ap (λ b. only_if (b && eqb x x) (member c m).weight) (eq-eqb (member c m).pool p own)
          ∙ ap (λ b. only_if b (member c m).weight) (eq-eqb x x refl)

      by : (i : ℕ) → i < length c.instruments → (i ≡ x) ⊎ (i ≢ x)
          → at (set xs x (member c m).weight) i ≡ sum_below (m + 1) (weight_of c p i)
      by i l (inl e) =
          ap (at (set xs x (member c m).weight)) e
          ∙ get_or-set_same xs x (member c m).weight (pos 0) (let n = h.count in omega (arith, n, known))
          ∙ (let none = sum_below-none m (weight_of c p x) (before-none c p x kept m below own refl) in
          let more = sum_below-more m (weight_of c p x) in
          let all : (member c m).weight ≡ sum_below (m + 1) (weight_of c p x) = omega (arith, ints, none, more, here) in all)
          ∙ ap (λ (k : ℕ). sum_below (m + 1) (weight_of c p k)) (sym e)
      by i l (inr d) =
          get_or-set_other xs x i (member c m).weight (pos 0) d ∙ h.each i l
          ∙ sym (same i (only-false _ (member c m).weight
          (both_second (eqb (member c m).pool p) (eqb x i) (ne_eqb x i (λ e. d (sym e))))))

-- at the end they are the pool's
pub weights-all : (c : CaseView) (p n : ℕ) (xs : List ℤ) → n ≡ length c.members → AreWeights c p n xs → xs ≡ weights_in c p
weights-all c p n xs e h =
    ext_get_or (pos 0) xs (weights_in c p)
    (h.count ∙ sym (length-map (below (length c.instruments)) (weight_in c p) ∙ length-below (length c.instruments)))
    (λ i l. let k : i < length c.instruments = let f = h.count in omega (arith, l, f) in
    h.each i k ∙ ap (λ (m : ℕ). sum_below m (weight_of c p i)) e
    ∙ sym (get_or-below (length c.instruments) i (weight_in c p) (pos 0) k))

-- ---- lists of all pools
pub map-none : {B : Type 0} (f : ℕ → B) → map f (below 0) ≡ []
unfolding below
map-none f = refl

pub map-more : {B : Type 0} (n : ℕ) (f : ℕ → B) → map f (below (n + 1)) ≡ map f (below n) ++ f n ∷ []
map-more n f = sym (each-single (below (n + 1)) f) ∙ each-more n (λ i. f i ∷ []) ∙ ap (λ zs. zs ++ f n ∷ []) (each-single (below n) f)

-- ---- how large a weight is
module _ (c : CaseView) (p i : ℕ) (kept : IsCase c) where
  IsSmall : ℤ → Type 0
  IsSmall z = (pos 0 ≤ℤ z) × (z ≤ℤ pos (10 ^ 6))

  -- one member more
  one-more : (n : ℕ) → n < length c.members → IsSmall (sum_below n (weight_of c p i))
      → ((member c n).pool ≡ p) ⊎ ((member c n).pool ≢ p) → ((member c n).instrument ≡ i) ⊎ ((member c n).instrument ≢ i)
      → IsSmall (sum_below n (weight_of c p i) +ℤ weight_of c p i n)
  unfolding IsSmall
  one-more n below before (inl own) (inl of) =
      let weight = (member-kept c n kept below).weight in
      let nought = sum_below-none n (weight_of c p i) (before-none c p i kept n below own of) in
      let here : weight_of c p i n ≡ (member c n).weight =
      ap (λ b. only_if (b && eqb (member c n).instrument i) (member c n).weight) (eq-eqb (member c n).pool p own)
      ∙ ap (λ b. only_if b (member c n).weight) (eq-eqb (member c n).instrument i of) in
      (omega (arith, ints, nought, here, weight.0), omega (arith, ints, nought, here, weight.1))
  one-more n below before (inl own) (inr other) =
      let e = only-false _ (member c n).weight (both_second (eqb (member c n).pool p) (eqb (member c n).instrument i)
      (ne_eqb (member c n).instrument i other)) in
      (omega (arith, ints, before.0, e), omega (arith, ints, before.1, e))
  one-more n below before (inr other) of =
      let e = only-false _ (member c n).weight (both_first (eqb (member c n).pool p) (eqb (member c n).instrument i)
      (ne_eqb (member c n).pool p other)) in
      (omega (arith, ints, before.0, e), omega (arith, ints, before.1, e))

  weights-within : (n : ℕ) → n ≤ length c.members → IsSmall (sum_below n (weight_of c p i))
  unfolding sum_below IsSmall
  weights-within zero l = (omega (arith, ints), omega (arith, ints))
  weights-within (suc n) l =
      one-more n (omega (arith, l)) (weights-within n (omega (arith, l))) (cases_eq (member c n).pool p) (cases_eq (member c n).instrument i)

  pub weight-small : unsigned_abs (weight_in c p i) ≤ 10 ^ 6
  unfolding IsSmall
  weight-small = let h = weights-within (length c.members) (omega arith) in
      abs-within (weight_in c p i) (10 ^ 6) (omega (arith, ints, h.0)) h.1

-- ---- what stands in the lists of all pools
pub pools-count : (c : CaseView) (xs : List (List ℤ)) → xs ≡ weights_of c → length xs ≡ length c.pools
pools-count c xs e = ap length e ∙ length-map (below (length c.pools)) (weights_in c) ∙ length-below (length c.pools)

pub row-is : (c : CaseView) (xs : List (List ℤ)) (p : ℕ) → xs ≡ weights_of c → p < length c.pools → get_or xs p [] ≡ weights_in c p
row-is c xs p e l = ap (λ ys. get_or ys p []) e ∙ get_or-below (length c.pools) p (weights_in c) [] l

pub row-length : (c : CaseView) (p : ℕ) → length (weights_in c p) ≡ length c.instruments
row-length c p = length-map (below (length c.instruments)) (weight_in c p) ∙ length-below (length c.instruments)

pub weight-at : (c : CaseView) (p i : ℕ) → i < length c.instruments → get_or (weights_in c p) i (pos 0) ≡ weight_in c p i
weight-at c p i l = get_or-below (length c.instruments) i (weight_in c p) (pos 0) l
