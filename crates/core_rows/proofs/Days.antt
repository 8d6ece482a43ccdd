-- The parts of a field that writes a date.
use Rattle.std.proofs.Common.{◌≡◌, ◌≢◌, ◌≤◌, ℕ, List, [], ◌∷◌, ◌++◌, length, take, drop, get_or, arith, refl, Option, Some, None, Bool, true, false, ap, ◌∙◌, ℤ}
use Rattle.std.specs.Prelude.{if◌then◌else◌, ◌&&◌, ◌==◌, option_and_then}
use Rattle.std.specs.List.{list_all}
use Rattle.std.proofs.lemmas.List.Folds.{list_all-append}
use Rattle.std.proofs.lemmas.Grind.{common_steps}
use Rattle.core_rows.specs.Fields.{is_digit, digits_value, at_most, civil_day, day_of}

-- a field of another length writes no date
pub not_ten : (field : List ℕ) → length field ≢ 10 → day_of field ≡ None
not_ten [] other = refl
not_ten (a ∷ []) other = refl
not_ten (a ∷ b ∷ []) other = refl
not_ten (a ∷ b ∷ c ∷ []) other = refl
not_ten (a ∷ b ∷ c ∷ d ∷ []) other = refl
not_ten (a ∷ b ∷ c ∷ d ∷ s ∷ []) other = refl
not_ten (a ∷ b ∷ c ∷ d ∷ s ∷ e ∷ []) other = refl
not_ten (a ∷ b ∷ c ∷ d ∷ s ∷ e ∷ f ∷ []) other = refl
not_ten (a ∷ b ∷ c ∷ d ∷ s ∷ e ∷ f ∷ t ∷ []) other = refl
not_ten (a ∷ b ∷ c ∷ d ∷ s ∷ e ∷ f ∷ t ∷ g ∷ []) other = refl
not_ten (a ∷ b ∷ c ∷ d ∷ s ∷ e ∷ f ∷ t ∷ g ∷ h ∷ []) other = absurd (other refl)
not_ten (a ∷ b ∷ c ∷ d ∷ s ∷ e ∷ f ∷ t ∷ g ∷ h ∷ i ∷ rest) other = refl

-- the number of a field of digits, where it is at most the greatest
abbrev pub part : ℕ → List ℕ → Option ℕ
part greatest field = if list_all is_digit field then at_most greatest (Some (digits_value field)) else None

-- the date of three parts
abbrev pub of_parts : Option ℕ → Option ℕ → Option ℕ → Option ℤ
of_parts year month day = option_and_then (λ y. option_and_then (λ m. option_and_then (λ d. civil_day y m d) day) month) year

-- the greatest number of two digits, and of four
two_digits : (e f : ℕ) → list_all is_digit (e ∷ f ∷ []) ≡ true → digits_value (e ∷ f ∷ []) ≤ 99
two_digits e f all = grind (arith, common_steps)

four_digits : (a b c d : ℕ) → list_all is_digit (a ∷ b ∷ c ∷ d ∷ []) ≡ true → digits_value (a ∷ b ∷ c ∷ d ∷ []) ≤ 9999
four_digits a b c d all = grind (arith, common_steps)

-- a number within the limit is kept
at_most-in : (greatest n : ℕ) → n ≤ greatest → at_most greatest (Some n) ≡ Some n
at_most-in greatest n h = grind (arith, common_steps)

-- the three tests, and the three limits, which leave out no number of so many digits
chain : (year month day dashes : Bool) (y m d : ℕ) → (year ≡ true → y ≤ 9999) → (month ≡ true → m ≤ 99) → (day ≡ true → d ≤ 99)
    → (if (year && (month && day)) && dashes then civil_day y m d else None)
    ≡ (if dashes then of_parts (if year then at_most 9999 (Some y) else None) (if month then at_most 99 (Some m) else None) (if day then at_most 99 (Some d) else None) else None)
chain true true true true y m d hy hm hd = rw (at_most-in 9999 y (hy refl), at_most-in 99 m (hm refl), at_most-in 99 d (hd refl)) refl
chain true true true false y m d hy hm hd = refl
chain true true false true y m d hy hm hd = rw (at_most-in 9999 y (hy refl), at_most-in 99 m (hm refl)) refl
chain true true false false y m d hy hm hd = refl
chain true false day true y m d hy hm hd = rw (at_most-in 9999 y (hy refl)) refl
chain true false day false y m d hy hm hd = refl
chain false month day true y m d hy hm hd = refl
chain false month day false y m d hy hm hd = refl

-- equal tests choose the same
same_test : (b c : Bool) (o : Option ℤ) → b ≡ c → (if b then o else None) ≡ (if c then o else None)
same_test b c o e = ap (λ t. if t then o else None) e

-- three tests, in either grouping
and_assoc : (a b c : Bool) → ((a && b) && c) ≡ (a && (b && c))
and_assoc true b c = refl
and_assoc false b c = refl

-- the date of a field of ten bytes, by its parts
pub day_from : (field : List ℕ) → length field ≡ 10
    → day_of field ≡ (if (get_or field 4 0 == 45) && (get_or field 7 0 == 45) then of_parts (part 9999 (take 4 field)) (part 99 (take 2 (drop 5 field))) (part 99 (drop 8 field)) else None)
day_from (a ∷ b ∷ c ∷ d ∷ s ∷ e ∷ f ∷ t ∷ g ∷ h ∷ []) ten =
    let year = a ∷ b ∷ c ∷ d ∷ [] in
    let month = e ∷ f ∷ [] in
    let day = g ∷ h ∷ [] in
    let digit_tests : list_all is_digit (a ∷ b ∷ c ∷ d ∷ e ∷ f ∷ g ∷ h ∷ []) ≡ (list_all is_digit year && (list_all is_digit month && list_all is_digit day)) =
    list_all-append is_digit year (month ++ day) ∙ ap (λ t. list_all is_digit year && t) (list_all-append is_digit month day) in
    let tests : ((list_all is_digit (a ∷ b ∷ c ∷ d ∷ e ∷ f ∷ g ∷ h ∷ []) && (s == 45)) && (t == 45)) ≡ ((list_all is_digit year && (list_all is_digit month && list_all is_digit day)) && ((s == 45) && (t == 45))) =
    and_assoc (list_all is_digit (a ∷ b ∷ c ∷ d ∷ e ∷ f ∷ g ∷ h ∷ [])) (s == 45) (t == 45) ∙ ap (λ u. u && ((s == 45) && (t == 45))) digit_tests in
    same_test _ _ (civil_day (digits_value year) (digits_value month) (digits_value day)) tests
    ∙ chain (list_all is_digit year) (list_all is_digit month) (list_all is_digit day) ((s == 45) && (t == 45)) (digits_value year) (digits_value month) (digits_value day) (four_digits a b c d) (two_digits e f) (two_digits g h)
day_from field ten = absurd (omega arith)

-- the same with a dash at both places
pub dashed : (field : List ℕ) → length field ≡ 10 → get_or field 4 0 ≡ 45 → get_or field 7 0 ≡ 45
    → day_of field ≡ of_parts (part 9999 (take 4 field)) (part 99 (take 2 (drop 5 field))) (part 99 (drop 8 field))
dashed field ten first second =
    let test : ((get_or field 4 0 == 45) && (get_or field 7 0 == 45)) ≡ true = rw (first, second) refl in
    day_from field ten ∙ ap (λ t. if t then of_parts (part 9999 (take 4 field)) (part 99 (take 2 (drop 5 field))) (part 99 (drop 8 field)) else None) test

-- without one there is no date
pub not_dashed : (field : List ℕ) → length field ≡ 10 → ((get_or field 4 0 == 45) && (get_or field 7 0 == 45)) ≡ false → day_of field ≡ None
not_dashed field ten test =
    day_from field ten ∙ ap (λ t. if t then of_parts (part 9999 (take 4 field)) (part 99 (take 2 (drop 5 field))) (part 99 (drop 8 field)) else None) test
