-- The text of a number reads as this number, and no other text does.
use Rattle.std.proofs.Common.{◌≡◌, ◌==◌, ◌&&◌, ◌<◌, ◌≤◌, ◌+◌, ◌-◌, ◌*◌, ◌/◌, ◌%◌, ◌^◌, ◌++◌, ◌∷◌, ◌∙◌, [], ℕ, zero, suc, ℤ, pos, negsuc, ◌≤ℤ◌, neg_ℤ, List, length, get_or, Option, Some, None, refl, sym, ap, true, false, not, arith, fold, option_map, append_assoc, append-nil, nat_le, inl, inr, lit<}
use Rattle.std.specs.List.{list_all}
use Rattle.std.specs.Fmt.{decimal, digits}
use Rattle.std.proofs.lemmas.Fmt.{decimal_by_steps_wide, decimal_digit, decimal_step_wide}
use Rattle.std.proofs.lemmas.Bool.{and_from, and_parts, cases_Bool, eqb-false, eqb-true, le-leb, leb-true, ne_eqb, not-true}
use Rattle.std.proofs.lemmas.Int.{ints}
use Rattle.std.proofs.lemmas.List.Folds.{list_all-append}
use Rattle.core_sums.specs.Widths.{most}
use Rattle.core_rows.specs.Fields.{at_most, digits_value, is_digit, number_text, positive, wide}

-- digits that write a number, the first of which is 0 only where the number is
record Writes (n : ℕ) (ds : List ℕ) : Type 0 where
  some : 0 < length ds
  digits : list_all is_digit ds ≡ true
  value : digits_value ds ≡ n
  first : 0 < n → get_or ds 0 48 ≡ 48 → ⊥

digit-of : (d : ℕ) → d < 10 → is_digit (48 + d) ≡ true
digit-of d h = and_from _ _ (le-leb 48 (48 + d) (omega arith)) (le-leb (48 + d) 57 (omega arith))

fold-end : (acc : ℕ) (ds : List ℕ) (b : ℕ) → fold (λ n c. n * 10 + (c - 48)) acc (ds ++ (b ∷ [])) ≡ fold (λ n c. n * 10 + (c - 48)) acc ds * 10 + (b - 48)
fold-end acc [] b = refl
fold-end acc (d ∷ ds) b = fold-end (acc * 10 + (d - 48)) ds b

writes-one : (n : ℕ) → n < 10 → Writes n ((48 + n) ∷ [])
writes-one n h = record {
  some = omega arith;
  digits = and_from _ _ (digit-of n h) refl;
  value = omega arith;
  first = λ above e. absurd (omega (arith, e));
}

writes-more : (n : ℕ) (ds : List ℕ) → 10 ≤ n → Writes (n / 10) ds → Writes n (ds ++ ((48 + n % 10) ∷ []))
writes-more n [] h w = absurd (omega (arith, w.some))
writes-more n (d ∷ ds) h w =
    let low : n % 10 < 10 = omega arith in
    let front : 0 < n / 10 = omega arith in
    record {
      some = omega arith;
      digits = rw (list_all-append is_digit (d ∷ ds) ((48 + n % 10) ∷ [])) (and_from _ _ w.digits (and_from _ _ (digit-of (n % 10) low) refl));
      value = fold-end 0 (d ∷ ds) (48 + n % 10) ∙ ap (λ m. m * 10 + (48 + n % 10 - 48)) w.value ∙ omega arith;
      first = λ above e. w.first front e;
    }

writes : (n : ℕ) → n < 10 ^ 64 → Writes n (decimal n)
writes n h = decimal_by_steps_wide Writes writes-one writes-more n h

-- such digits are read as the number
positive-read : (n : ℕ) (ds : List ℕ) → 0 < n → Writes n ds → positive ds ≡ Some n
positive-read n [] above w = absurd (omega (arith, w.some))
positive-read n (b ∷ bs) above w =
    let other : (b == 48) ≡ false = ne_eqb b 48 (w.first above) in
    rw (w.digits, other) (ap Some w.value)

at_most-read : (n : ℕ) → n ≤ most → at_most most (Some n) ≡ Some n
at_most-read n h = rw (le-leb n most h) refl

-- digits that begin with no 0 are no sign
positive-number : (n : ℕ) (ds : List ℕ) → 0 < n → n ≤ most → Writes n ds → wide ds ≡ Some (pos n)
positive-number n [] above h w = absurd (omega (arith, w.some))
positive-number n (b ∷ bs) above h w =
    let parts = and_parts (is_digit b) (list_all is_digit bs) w.digits in
    let low = leb-true 48 b (and_parts _ _ parts.0).0 in
    let sign : (b == 45) ≡ false = ne_eqb b 45 (λ e. absurd (omega (arith, low, e))) in
    let other : (b == 48) ≡ false = ne_eqb b 48 (w.first above) in
    rw (sign, other, w.digits) (ap (λ m. option_map pos (at_most most (Some m))) w.value ∙ ap (option_map pos) (at_most-read n h))

-- so are the digits of a number, which are few enough
below-digits : (n : ℕ) → n ≤ most → n < 10 ^ 64
below-digits n h = omega arith

nought-read : wide (number_text (pos 0)) ≡ Some (pos 0)
unfolding digits
nought-read = refl

-- the text of a number is read as the number
pub number-read : (v : ℤ) → neg_ℤ (pos most) ≤ℤ v → v ≤ℤ pos most → wide (number_text v) ≡ Some v
number-read (pos zero) low high = nought-read
number-read (pos (suc n)) low high =
    let small : suc n ≤ most = omega (arith, ints, high) in
    positive-number (suc n) (decimal (suc n)) (omega arith) small (writes (suc n) (below-digits (suc n) small))
number-read (negsuc n) low high =
    let small : suc n ≤ most = omega (arith, ints, low) in
    ap (λ o. option_map (λ m. neg_ℤ (pos m)) (at_most most o)) (positive-read (suc n) (decimal (suc n)) (omega arith) (writes (suc n) (below-digits (suc n) small)))
    ∙ ap (option_map (λ m. neg_ℤ (pos m))) (at_most-read (suc n) small)

abbrev grown : ℕ → List ℕ → ℕ
grown = fold (λ n b. n * 10 + (b - 48))

grown-above : (acc : ℕ) (ds : List ℕ) → acc ≤ grown acc ds
grown-above acc [] = omega arith
grown-above acc (d ∷ ds) = let more = grown-above (acc * 10 + (d - 48)) ds in omega (arith, more)

-- one digit more
decimal-grown : (acc d : ℕ) → 0 < acc → is_digit d ≡ true → acc * 10 + (d - 48) < 10 ^ 64 → decimal (acc * 10 + (d - 48)) ≡ decimal acc ++ (d ∷ [])
decimal-grown acc d above digit small =
    let parts = and_parts (nat_le 48 d) (nat_le d 57) digit in
    let low = leb-true 48 d parts.0 in
    let high = leb-true d 57 parts.1 in
    let n = acc * 10 + (d - 48) in
    let front : n / 10 ≡ acc = omega (arith, low, high) in
    let last : 48 + n % 10 ≡ d = omega (arith, low, high) in
    decimal_step_wide n (omega (arith, above)) small ∙ ap (λ m. decimal m ++ ((48 + n % 10) ∷ [])) front ∙ ap (λ b. decimal acc ++ (b ∷ [])) last

-- the digits after those of a number
decimal-fold : (acc : ℕ) (ds : List ℕ) → 0 < acc → list_all is_digit ds ≡ true → grown acc ds < 10 ^ 64 → decimal (grown acc ds) ≡ decimal acc ++ ds
decimal-fold acc [] above digits small = sym (append-nil (decimal acc))
decimal-fold acc (d ∷ ds) above all small =
    let parts = and_parts (is_digit d) (list_all is_digit ds) all in
    let next = acc * 10 + (d - 48) in
    let bound = grown-above next ds in
    let step = decimal-grown acc d above parts.0 (omega (arith, bound, small)) in
    decimal-fold next ds (omega (arith, above)) parts.1 small ∙ ap (λ (t : List ℕ). t ++ ds) step ∙ append_assoc (decimal acc) (d ∷ []) ds

-- digits that are read as a number are its text
positive-only : (ds : List ℕ) (n : ℕ) → positive ds ≡ Some n → n ≤ most → (0 < n) × (ds ≡ decimal n)
positive-only [] n e small = cc e
positive-only (b ∷ bs) n e small = elim (cases_Bool (list_all is_digit (b ∷ bs) && not (b == 48))) [
  | inl good ↦
      let start = 0 * 10 + (b - 48) in
      let value : grown start bs ≡ n = cc (rw good at e) in
      let parts = and_parts (list_all is_digit (b ∷ bs)) (not (b == 48)) good in
      let each = and_parts (is_digit b) (list_all is_digit bs) parts.0 in
      let range = and_parts (nat_le 48 b) (nat_le b 57) each.0 in
      let low = leb-true 48 b range.0 in
      let high = leb-true b 57 range.1 in
      let other = eqb-false b 48 (not-true (b == 48) parts.1) in
      let above : 0 < start = omega (arith, low, other) in
      let few : grown start bs < 10 ^ 64 = rw value (below-digits n small) in
      let digit : decimal start ≡ b ∷ [] = decimal_digit start (omega (arith, high)) ∙ ap (λ d. d ∷ []) (omega (arith, low)) in
      let bound = grown-above start bs in
      (omega (arith, value, above, bound), sym (ap decimal (sym value) ∙ decimal-fold start bs above each.1 few ∙ ap (λ (t : List ℕ). t ++ bs) digit))
  | inr bad ↦ cc (rw bad at e)
]

at_most-only : (o : Option ℕ) (n : ℕ) → at_most most o ≡ Some n → (o ≡ Some n) × (n ≤ most)
at_most-only None n e = cc e
at_most-only (Some m) n e = elim (cases_Bool (nat_le m most)) [
  | inl small ↦ let same : m ≡ n = cc (rw small at e) in (ap Some same, rw (sym same) (leb-true m most small))
  | inr large ↦ cc (rw large at e)
]

-- what was read is a number of digits, with its sign
read-only : (sign : ℕ → ℤ) (ds : List ℕ) (v : ℤ) → option_map sign (at_most most (positive ds)) ≡ Some v → (n : ℕ) × (0 < n) × (ds ≡ decimal n) × (sign n ≡ v)
read-only sign ds v e = elim (at_most most (positive ds)) as (λ o. at_most most (positive ds) ≡ o → (n : ℕ) × (0 < n) × (ds ≡ decimal n) × (sign n ≡ v)) [
  | None ↦ λ none. cc (rw none at e)
  | Some n ↦ λ some.
      let small = at_most-only (positive ds) n some in
      let text = positive-only ds n small.0 small.1 in
      (n, text.0, text.1, cc (rw some at e))
] refl

signed-text : (sign : ℕ → ℤ) (n : ℕ) → 0 < n → sign n ≡ neg_ℤ (pos n) → number_text (sign n) ≡ 45 ∷ decimal n
signed-text sign zero above e = absurd (omega (arith, above))
signed-text sign (suc n) above e = ap number_text e

empty : (bs : List ℕ) → length bs ≡ 0 → bs ≡ []
empty [] e = refl
empty (b ∷ bs) e = absurd (omega (arith, e))

-- a text that is read as a number is the text of this number
pub number-only : (field : List ℕ) (v : ℤ) → wide field ≡ Some v → field ≡ number_text v
number-only [] v e = cc e
number-only (b ∷ bs) v e = elim (cases_Bool (b == 45)) [
  | inl minus ↦
      let text = read-only (λ m. neg_ℤ (pos m)) bs v (rw minus at e) in
      cc (eqb-true b 45 minus, signed-text (λ m. neg_ℤ (pos m)) text.0 text.1 refl, text.2, text.3)
  | inr plus ↦ elim (cases_Bool ((b == 48) && (length bs == 0))) [
    | inl nought ↦
        let parts = and_parts (b == 48) (length bs == 0) nought in
        let number : v ≡ pos 0 = cc (rw (plus, nought) at e) in
        let byte = eqb-true b 48 parts.0 in
        let only = empty bs (eqb-true (length bs) 0 parts.1) in
        rw (number, byte, only) (sym (decimal_digit 0 (lit< tt)))
    | inr other ↦
        let text = read-only pos (b ∷ bs) v (rw (plus, other) at e) in
        text.2 ∙ ap number_text text.3
  ]
]
