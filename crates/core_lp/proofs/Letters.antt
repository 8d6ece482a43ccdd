-- Places of letters in an order, and ranks by the place of a variable.
use Rattle.std.proofs.Common.{◌≡◌, ◌≢◌, refl, sym, ◌∙◌, ap, ℕ, zero, suc, ◌+◌, ◌-◌, ◌<◌, ◌≤◌, List, [], ◌∷◌, length, get_or, set, map, replicate, arith, eq-eqb, ne_eqb, if◌then◌else◌, below_more}
use Rattle.std.proofs.lemmas.List.{get_or_append_left, get_or-append_right, get_or-map, length-append, length-map, length-set, length-replicate, get_or-set_same, get_or-set_other, ext_get_or}
use Rattle.core_lp.specs.declared.names.Col.{Col}
use Rattle.core_lp.specs.declared.names.Col.TheVariants as col
use Rattle.core_lp.specs.declared.names.RowName.{RowName}
use Rattle.core_lp.specs.declared.names.RowName.TheVariants as row
use Rattle.core_lp.specs.Ranks.{column_letter, letter_of, place_in, ranks_by}

-- the first place that holds a letter
pub place-first : (xs : List ℕ) (x i : ℕ) → i < length xs → ((k : ℕ) → k < i → get_or xs k 0 ≢ x) → get_or xs i 0 ≡ x
    → i ≡ place_in xs x
place-first [] x i l h e = absurd (omega (arith, l))
place-first (y ∷ ys) x zero l h e = sym (ap (λ b. if b then 0 else suc (place_in ys x)) (eq-eqb x y (sym e)))
place-first (y ∷ ys) x (suc i) l h e =
    ap suc (place-first ys x i (omega (arith, l)) (λ k m. h (suc k) (omega (arith, m))) e)
    ∙ sym (ap (λ b. if b then 0 else suc (place_in ys x)) (ne_eqb x y (λ f. h 0 (omega arith) (sym f))))

-- and none
pub place-none : (xs : List ℕ) (x : ℕ) → ((k : ℕ) → k < length xs → get_or xs k 0 ≢ x) → length xs ≡ place_in xs x
place-none [] x h = refl
place-none (y ∷ ys) x h =
    ap suc (place-none ys x (λ k m. h (suc k) (omega (arith, m))))
    ∙ sym (ap (λ b. if b then 0 else suc (place_in ys x)) (ne_eqb x y (λ f. h 0 (omega arith) (sym f))))

-- ---- ranks by place
module _ (cols : List Col) (rows : List RowName) (order : List ℕ) where
  pub ranks-length : length (ranks_by cols rows order) ≡ length cols + length rows
  ranks-length =
      length-append (map (λ x. place_in order column_letter) cols) (map (λ x. place_in order (letter_of x)) rows)
      ∙ ap (λ (n : ℕ). n + length (map (λ x. place_in order (letter_of x)) rows)) (length-map cols (λ x. place_in order column_letter))
      ∙ ap (λ (n : ℕ). length cols + n) (length-map rows (λ x. place_in order (letter_of x)))

  pub rank-of-column : (k : ℕ) → k < length cols → get_or (ranks_by cols rows order) k 0 ≡ place_in order column_letter
  rank-of-column k l =
      get_or_append_left (map (λ x. place_in order column_letter) cols) (map (λ x. place_in order (letter_of x)) rows) 0 k
      (let e = length-map cols (λ x. place_in order column_letter) in omega (arith, l, e))
      ∙ get_or-map (λ x. place_in order column_letter) cols k col.Loss 0 l

  pub rank-of-row : (k : ℕ) → length cols ≤ k → k - length cols < length rows
      → get_or (ranks_by cols rows order) k 0 ≡ place_in order (letter_of (get_or rows (k - length cols) (row.Full 0)))
  rank-of-row k l m =
      get_or-append_right (map (λ x. place_in order column_letter) cols) (map (λ x. place_in order (letter_of x)) rows)
      (length cols) k 0 (length-map cols (λ x. place_in order column_letter)) l
      ∙ get_or-map (λ x. place_in order (letter_of x)) rows (k - length cols) (row.Full 0) 0 m

-- the first n of these ranks are those of a list
pub record AreRanked (ranks : List ℕ) (n : ℕ) (xs : List ℕ) : Type 0 where
  pub count : length xs ≡ length ranks
  pub done : (k : ℕ) → k < n → get_or xs k 0 ≡ get_or ranks k 0

pub ranked-none : (ranks : List ℕ) → AreRanked ranks 0 (replicate (length ranks) 0)
ranked-none ranks = record { count = length-replicate (length ranks) 0; done = λ k l. absurd (omega (arith, l)) }

pub ranked-more : (ranks xs : List ℕ) (n z : ℕ) → AreRanked ranks n xs → n < length ranks → z ≡ get_or ranks n 0
    → AreRanked ranks (n + 1) (set xs n z)
ranked-more ranks xs n z h l e = record {
  count = length-set xs n z ∙ h.count;
  done = below_more (λ (k : ℕ). get_or (set xs n z) k 0 ≡ get_or ranks k 0) n
      (λ k m. get_or-set_other xs n k z 0 (λ g. omega (arith, m, g)) ∙ h.done k m)
      (get_or-set_same xs n z 0 (let c = h.count in omega (arith, l, c)) ∙ e);
}

pub ranked-all : (ranks xs : List ℕ) (n : ℕ) → AreRanked ranks n xs → n ≡ length ranks → xs ≡ ranks
ranked-all ranks xs n h e = ext_get_or 0 xs ranks h.count (λ k l. h.done k (let c = h.count in omega (arith, l, c, e)))
