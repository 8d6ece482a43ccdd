-- The lines before a day, line by line.
use Rattle.std.proofs.Common.{◌≡◌, sym, ◌∙◌, ap, subst, ℕ, zero, suc, ◌+◌, ◌-◌, ◌<◌, ◌≤◌, ◌⊎◌, inl, inr, arith, ℤ, ◌*ℤ◌, true, false, List, [], ◌∷◌, ◌++◌, length, map, get_or, slice_set, length-set, Vec, Global}
use Rattle.std.proofs.lemmas.List.{get_or-set_same, get_or-set_other, get_or_append_left, get_or-append_right, length-append, get_or-map, map-set}
use Rattle.std.proofs.lemmas.Bool.{cases_lt}
use Rattle.core_sums.specs.Places.{below, each, row_at}
use Rattle.core_sums.specs.Widths.{any_leaves}
use Rattle.core_book.specs.View.{CaseView, line, instrument_of}
use Rattle.core_model.specs.Closing.{Plan, line_count}
use Rattle.core_replay.specs.Ledger.{opening_numbers, line_numbers, lines_numbers}
use Rattle.core_wide.specs.Steps.{Stays, Leaves}
use Rattle.core_replay.specs.Steps.{IsStanding, AreStanding, no_standing}
use Rattle.core_replay.specs.declared.lines.Standing.{Standing}
use Rattle.core_replay.proofs.LineFlows.{still_open-first, day_before-first}
use Rattle.core_sums.proofs.Leaving.{none-below, one-of-below, none-each, one-of-each}

-- a flow is put behind those of its day
pub put-view : (vs : List (Vec ℤ Global)) (payable : List (List ℤ)) (i : ℕ) (old new : Vec ℤ Global) (x : ℤ) → map (λ v. v.items) vs ≡ payable → i < length payable → length vs ≡ length payable
    → old ≡ get_or vs i old → new.items ≡ old.items ++ (x ∷ []) → map (λ v. v.items) (slice_set vs i new) ≡ slice_set payable i (row_at payable i ++ (x ∷ []))
put-view vs payable i old new x view within long here more =
    let row : row_at (map (λ v. v.items) vs) i ≡ old.items = get_or-map (λ v. v.items) vs i old [] (omega (arith, within, long)) ∙ ap (λ v. v.items) (sym here) in
    map-set (λ v. v.items) vs i new ∙ ap (λ xs. slice_set (map (λ v. v.items) vs) i xs) (more ∙ ap (λ xs. xs ++ (x ∷ [])) (sym row))
    ∙ ap (λ ds. slice_set ds i (row_at ds i ++ (x ∷ []))) view

-- the lines before day 0, of which n are opened
pub record AreOpened (c : CaseView) (a : Plan) (n : ℕ) (xs : List Standing) : Type 0 where
  pub count : length xs ≡ n
  pub opened : (i : ℕ) → i < n → IsStanding c a i 0 (get_or xs i no_standing)
  pub stays : (i : ℕ) → i < n → Stays ((line c i).amount *ℤ a.den)

pub opened-none : (c : CaseView) (a : Plan) (xs : List Standing) → xs ≡ [] → AreOpened c a 0 xs
opened-none c a xs e = record {
  count = ap length e;
  opened = λ i under. absurd (omega (arith, under));
  stays = λ i under. absurd (omega (arith, under));
}

pub opened-more : (c : CaseView) (a : Plan) (n : ℕ) (xs ys : List Standing) (z : ℤ) → AreOpened c a n xs
    → (z ≡ (line c n).amount *ℤ a.den) × Stays ((line c n).amount *ℤ a.den)
    → ys ≡ xs ++ (record { still_open = z; marked_on = 0 } ∷ []) → AreOpened c a (n + 1) ys
opened-more c a n xs ys z before here e = record {
  count = ap length e ∙ omega (arith, length-append xs (new ∷ []), before.count);
  opened = λ i under. subst (λ zs. IsStanding c a i 0 (get_or zs i no_standing)) (sym e) (at_line i under (cases_lt i n));
  stays = λ i under. stay i under (cases_lt i n);
}
  where
    new : Standing
    new = record { still_open = z; marked_on = 0 }

    first : IsStanding c a n 0 new
    first = record { open_is = here.0 ∙ sym (still_open-first c a n); marked = sym (day_before-first c (instrument_of c n)) }

    at_line : (i : ℕ) → i < n + 1 → (i < n) ⊎ (n ≤ i) → IsStanding c a i 0 (get_or (xs ++ (new ∷ [])) i no_standing)
    at_line i under (inl lower) =
        subst (IsStanding c a i 0) (sym (get_or_append_left xs (new ∷ []) no_standing i (omega (arith, lower, before.count)))) (before.opened i lower)
    at_line i under (inr high) =
        let same : n ≡ i = omega (arith, under, high) in
        let gap : n - n ≡ 0 = omega arith in
        let there : get_or (xs ++ (new ∷ [])) n no_standing ≡ new =
        get_or-append_right xs (new ∷ []) n n no_standing before.count (omega arith) ∙ ap (λ (j : ℕ). get_or (new ∷ []) j no_standing) gap in
        subst (λ (j : ℕ). IsStanding c a j 0 (get_or (xs ++ (new ∷ [])) j no_standing)) same (subst (IsStanding c a n 0) (sym there) first)

    stay : (i : ℕ) → i < n + 1 → (i < n) ⊎ (n ≤ i) → Stays ((line c i).amount *ℤ a.den)
    stay i under (inl lower) = before.stays i lower
    stay i under (inr high) = let same : n ≡ i = omega (arith, under, high) in subst (λ (j : ℕ). Stays ((line c j).amount *ℤ a.den)) same here.1

pub opened-standing : (c : CaseView) (a : Plan) (n : ℕ) (xs : List Standing) → n ≡ line_count c → AreOpened c a n xs → AreStanding c a 0 0 xs
opened-standing c a n xs e all = record {
  count = all.count ∙ e;
  gone = λ l under below. absurd (omega (arith, under));
  to_go = λ l from below. all.opened l (omega (arith, e, below));
}

pub opened-stays : (c : CaseView) (a : Plan) (n : ℕ) (xs : List Standing) → n ≡ line_count c → AreOpened c a n xs → any_leaves (opening_numbers c a 0) ≡ false
opened-stays c a n xs e all = none-below (line_count c) (λ l. (line c l).amount *ℤ a.den) (λ l under. all.stays l (omega (arith, e, under)))

pub opening-leaves : (c : CaseView) (a : Plan) (l : ℕ) → l < line_count c → Leaves ((line c l).amount *ℤ a.den) → any_leaves (opening_numbers c a 0) ≡ true
opening-leaves c a l under out = one-of-below (line_count c) l (λ l. (line c l).amount *ℤ a.den) under out

-- one more line has gone through day t
pub standing-more : (c : CaseView) (a : Plan) (t l : ℕ) (xs : List Standing) (new : Standing) → l < length xs → AreStanding c a t l xs
    → IsStanding c a l (suc t) new → AreStanding c a t (l + 1) (slice_set xs l new)
standing-more c a t l xs new inside before here = record {
  count = length-set xs l new ∙ before.count;
  gone = λ i under below. at_line i under below (cases_lt i l);
  to_go = λ i from below.
      subst (IsStanding c a i t) (sym (get_or-set_other xs l i new no_standing (λ e. omega (arith, e, from)))) (before.to_go i (omega (arith, from)) below);
}
  where
    at_line : (i : ℕ) → i < l + 1 → i < line_count c → (i < l) ⊎ (l ≤ i) → IsStanding c a i (suc t) (get_or (slice_set xs l new) i no_standing)
    at_line i under below (inl lower) =
        subst (IsStanding c a i (suc t)) (sym (get_or-set_other xs l i new no_standing (λ e. omega (arith, e, lower)))) (before.gone i lower below)
    at_line i under below (inr high) =
        let same : l ≡ i = omega (arith, under, high) in
        subst (λ (j : ℕ). IsStanding c a j (suc t) (get_or (slice_set xs l new) j no_standing)) same
        (subst (IsStanding c a l (suc t)) (sym (get_or-set_same xs l new no_standing inside)) here)

pub standing-done : (c : CaseView) (a : Plan) (t n : ℕ) (xs : List Standing) → n ≡ line_count c → AreStanding c a t n xs → AreStanding c a (suc t) 0 xs
standing-done c a t n xs e all = record {
  count = all.count;
  gone = λ l under below. absurd (omega (arith, under));
  to_go = λ l from below. all.gone l (omega (arith, e, below)) below;
}

-- the numbers of all lines on a day from 1 on
pub lines-stay : (c : CaseView) (a : Plan) (k t n : ℕ) → 1 ≤ t → n ≡ line_count c → ((i : ℕ) → i < n → any_leaves (line_numbers c a k t i) ≡ false)
    → any_leaves (lines_numbers c a k t) ≡ false
lines-stay c a k zero n from e each = absurd (omega arith)
lines-stay c a k (suc t) n from e each = none-each (line_count c) (line_numbers c a k (suc t)) (λ i under. each i (omega (arith, e, under)))

pub lines-leave : (c : CaseView) (a : Plan) (k t l : ℕ) → 1 ≤ t → l < line_count c → any_leaves (line_numbers c a k t l) ≡ true
    → any_leaves (lines_numbers c a k t) ≡ true
lines-leave c a k zero l from under out = absurd (omega arith)
lines-leave c a k (suc t) l from under out = one-of-each (line_count c) l (line_numbers c a k (suc t)) under out
