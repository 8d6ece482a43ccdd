-- Filters, first places and pairs of a list, as proofs on records need them.
use Rattle.std.proofs.Common.{◌≡◌, refl, sym, ◌∙◌, ap, subst, ℕ, zero, suc, ◌+◌, ◌<◌, ◌≤◌, arith, Bool, true, false, cond, not, ◌&&◌, List, [], ◌∷◌, ◌++◌, length, take, map, filter, get_or, Some, None, is_some}
use Rattle.std.proofs.lemmas.List.{length-append, get_or-map, get_or-take, length-map, length-take-le}
use Rattle.std.proofs.lemmas.List.Elements.{All-cons, All-nil, All-map, filter-append}
use Rattle.std.proofs.lemmas.List.Folds.{find-append}
use Rattle.std.proofs.lemmas.List.Quantifiers.{all_pairs_push}
use Rattle.std.specs.Option.{unwrap_or, option_or}
use Rattle.std.specs.List.{All, AllPairs, find, position_or_len}

-- an element that passes stands at a place of the filtered list
abbrev pub PassesAt : {A : Type 0} → (A → Bool) → List A → ℕ → A → Type 0
PassesAt p xs i d = (k : ℕ) × (k < length (filter p xs)) × (get_or (filter p xs) k d ≡ get_or xs i d)

pub passes-at : {A : Type 0} (p : A → Bool) (xs : List A) (i : ℕ) (d : A) → i < length xs → p (get_or xs i d) ≡ true → PassesAt p xs i d
passes-at p [] i d within pass = absurd (omega (arith, within))
passes-at {A} p (x ∷ xs) zero d within pass = subst (λ b. (k : ℕ) × (k < length (cond b (x ∷ filter p xs) (filter p xs))) × (get_or (cond b (x ∷ filter p xs) (filter p xs)) k d ≡ x)) (sym pass) (zero, omega arith, refl)
passes-at {A} p (x ∷ xs) (suc i) d within pass = by (p x) (passes-at p xs i d (omega (arith, within)) pass)
  where
    by : (b : Bool) → PassesAt p xs i d → (k : ℕ) × (k < length (cond b (x ∷ filter p xs) (filter p xs))) × (get_or (cond b (x ∷ filter p xs) (filter p xs)) k d ≡ get_or xs i d)
    by true rest = (suc rest.0, omega (arith, rest.1), rest.2)
    by false rest = rest

-- and each element of the filtered list stood in the list, and passes
abbrev pub StoodAt : {A : Type 0} → (A → Bool) → List A → ℕ → A → Type 0
StoodAt p xs k d = (i : ℕ) × (i < length xs) × (p (get_or xs i d) ≡ true) × (get_or (filter p xs) k d ≡ get_or xs i d)

pub stood-at : {A : Type 0} (p : A → Bool) (xs : List A) (k : ℕ) (d : A) → k < length (filter p xs) → StoodAt p xs k d
stood-at p [] k d within = absurd (omega (arith, within))
stood-at {A} p (x ∷ xs) k d within = by (p x) refl k within (λ j below. stood-at p xs j d below)
  where
    by : (b : Bool) → p x ≡ b → (k : ℕ) → k < length (cond b (x ∷ filter p xs) (filter p xs)) → ((j : ℕ) → j < length (filter p xs) → StoodAt p xs j d)
        → (i : ℕ) × (i < length (x ∷ xs)) × (p (get_or (x ∷ xs) i d) ≡ true) × (get_or (cond b (x ∷ filter p xs) (filter p xs)) k d ≡ get_or (x ∷ xs) i d)
    by true e zero under rest = (zero, omega arith, e, refl)
    by true e (suc k) under rest = let here : StoodAt p xs k d = rest k (omega (arith, under)) in (suc here.0, omega (arith, here.1), here.2, here.3)
    by false e k under rest = let here : StoodAt p xs k d = rest k under in (suc here.0, omega (arith, here.1), here.2, here.3)

-- what holds of each element that passes holds of all of the filtered list
pub All-filter_at : {A : Type 0} (P : A → Type 0) (p : A → Bool) (xs : List A) (d : A)
    → ((i : ℕ) → i < length xs → p (get_or xs i d) ≡ true → P (get_or xs i d)) → All P (filter p xs)
All-filter_at P p [] d each = All-nil P
All-filter_at {A} P p (x ∷ xs) d each = by (p x) refl (All-filter_at P p xs d (λ i within pass. each (suc i) (omega (arith, within)) pass))
  where
    by : (b : Bool) → p x ≡ b → All P (filter p xs) → All P (cond b (x ∷ filter p xs) (filter p xs))
    by true e rest = All-cons P x (filter p xs) (each zero (omega arith) e) rest
    by false e rest = rest

-- the same of what a function gives of them
pub All-map_filter_at : {A B : Type 0} (P : B → Type 0) (f : A → B) (p : A → Bool) (xs : List A) (d : A)
    → ((i : ℕ) → i < length xs → p (get_or xs i d) ≡ true → P (f (get_or xs i d))) → All P (map f (filter p xs))
All-map_filter_at P f p xs d each = All-map P f (filter p xs) (All-filter_at (λ x. P (f x)) p xs d each)

-- pairs of an element and those after it
pub AllPairs-nil : {A : Type 0} (R : A → A → Type 0) → AllPairs R []
AllPairs-nil R i j d less within = absurd (omega (arith, within))

pub AllPairs-cons : {A : Type 0} (R : A → A → Type 0) (x : A) (xs : List A) → All (R x) xs → AllPairs R xs → AllPairs R (x ∷ xs)
AllPairs-cons R x xs first rest zero zero d less within = absurd (omega (arith, less))
AllPairs-cons R x xs first rest zero (suc j) d less within = first j d (omega (arith, within))
AllPairs-cons R x xs first rest (suc i) zero d less within = absurd (omega (arith, less))
AllPairs-cons R x xs first rest (suc i) (suc j) d less within = rest i j d (omega (arith, less)) (omega (arith, within))

-- pairs of the elements before and one more
pub AllPairs-push : {A : Type 0} (R : A → A → Type 0) (xs : List A) (x : A) → AllPairs R xs → All (λ y. R y x) xs → AllPairs R (xs ++ (x ∷ []))
AllPairs-push R xs x before last = all_pairs_push R xs x before last

-- pairs of what a function gives
pub AllPairs-map : {A B : Type 0} (R : B → B → Type 0) (f : A → B) (xs : List A) → AllPairs (λ x y. R (f x) (f y)) xs → AllPairs R (map f xs)
AllPairs-map R f [] each = AllPairs-nil R
AllPairs-map R f (x ∷ xs) each =
    AllPairs-cons R (f x) (map f xs) (All-map (R (f x)) f xs (λ k d within. each zero (suc k) d (omega arith) (omega (arith, within))))
    (AllPairs-map R f xs (λ i j d less within. each (suc i) (suc j) d (omega (arith, less)) (omega (arith, within))))

-- what holds of each two elements that pass holds of each two of the filtered list
pub AllPairs-filter_at : {A : Type 0} (R : A → A → Type 0) (p : A → Bool) (xs : List A) (d : A)
    → ((i j : ℕ) → i < j → j < length xs → p (get_or xs i d) ≡ true → p (get_or xs j d) ≡ true → R (get_or xs i d) (get_or xs j d)) → AllPairs R (filter p xs)
AllPairs-filter_at R p [] d each = AllPairs-nil R
AllPairs-filter_at {A} R p (x ∷ xs) d each =
    by (p x) refl (AllPairs-filter_at R p xs d (λ i j less within one two. each (suc i) (suc j) (omega (arith, less)) (omega (arith, within)) one two))
  where
    by : (b : Bool) → p x ≡ b → AllPairs R (filter p xs) → AllPairs R (cond b (x ∷ filter p xs) (filter p xs))
    by true e rest =
        AllPairs-cons R x (filter p xs) (All-filter_at (R x) p xs d (λ j within pass. each zero (suc j) (omega arith) (omega (arith, within)) e pass)) rest
    by false e rest = rest

pub AllPairs-map_filter_at : {A B : Type 0} (R : B → B → Type 0) (f : A → B) (p : A → Bool) (xs : List A) (d : A)
    → ((i j : ℕ) → i < j → j < length xs → p (get_or xs i d) ≡ true → p (get_or xs j d) ≡ true → R (f (get_or xs i d)) (f (get_or xs j d))) → AllPairs R (map f (filter p xs))
AllPairs-map_filter_at R f p xs d each = AllPairs-map R f (filter p xs) (AllPairs-filter_at (λ x y. R (f x) (f y)) p xs d each)

-- two filters one after the other are a filter by both tests
pub filter-filter : {A : Type 0} (p q both : A → Bool) → ((x : A) → both x ≡ (p x && q x)) → (xs : List A) → filter q (filter p xs) ≡ filter both xs
filter-filter p q both same [] = refl
filter-filter {A} p q both same (x ∷ xs) = by (p x) (filter-filter p q both same xs) ∙ ap (λ b. cond b (x ∷ filter both xs) (filter both xs)) (sym (same x))
  where
    inner : (b : Bool) → filter q (filter p xs) ≡ filter both xs → cond b (x ∷ filter q (filter p xs)) (filter q (filter p xs)) ≡ cond b (x ∷ filter both xs) (filter both xs)
    inner true rest = ap (λ ys. x ∷ ys) rest
    inner false rest = rest

    by : (b : Bool) → filter q (filter p xs) ≡ filter both xs → filter q (cond b (x ∷ filter p xs) (filter p xs)) ≡ cond (b && q x) (x ∷ filter both xs) (filter both xs)
    by true rest = inner (q x) rest
    by false rest = rest

-- a filter over one more element
pub filter-push : {A : Type 0} (p : A → Bool) (xs : List A) (x : A) → filter p (xs ++ (x ∷ [])) ≡ filter p xs ++ cond (p x) (x ∷ []) []
filter-push p xs x = filter-append p xs (x ∷ [])

pub length-filter_push : {A : Type 0} (p : A → Bool) (xs : List A) (x : A) → length (filter p (xs ++ (x ∷ []))) ≡ length (filter p xs) + cond (p x) 1 0
length-filter_push p xs x =
    ap length (filter-push p xs x) ∙ length-append (filter p xs) (cond (p x) (x ∷ []) []) ∙ ap (λ n. length (filter p xs) + n) (by (p x))
  where
    by : (b : Bool) → length (cond b (x ∷ []) []) ≡ cond b 1 0
    by true = refl
    by false = refl

-- the first that passes over one more element
pub find-push : {A : Type 0} (p : A → Bool) (xs : List A) (x : A) → find p (xs ++ (x ∷ [])) ≡ option_or (find p xs) (cond (p x) (Some x) None)
find-push p xs x = find-append p xs (x ∷ [])

-- what is found in the front of a list is found in the list
pub find-take : {A : Type 0} (p : A → Bool) (n : ℕ) (xs : List A) → is_some (find p (take n xs)) ≡ true → find p xs ≡ find p (take n xs)
find-take p zero xs found = absurd (cc)
find-take p (suc n) [] found = refl
find-take {A} p (suc n) (x ∷ xs) found = by (p x) found (λ h. find-take p n xs h)
  where
    by : (b : Bool) → is_some (cond b (Some x) (find p (take n xs))) ≡ true → (is_some (find p (take n xs)) ≡ true → find p xs ≡ find p (take n xs))
        → cond b (Some x) (find p xs) ≡ cond b (Some x) (find p (take n xs))
    by true h rest = refl
    by false h rest = rest h

-- what is found stands at a place, and passes
abbrev pub FoundAt : {A : Type 0} → (A → Bool) → List A → A → Type 0
FoundAt p xs d = (i : ℕ) × (i < length xs) × (p (get_or xs i d) ≡ true) × (find p xs ≡ Some (get_or xs i d))

pub found-at : {A : Type 0} (p : A → Bool) (xs : List A) (d : A) → is_some (find p xs) ≡ true → FoundAt p xs d
found-at p [] d found = absurd (cc)
found-at {A} p (x ∷ xs) d found = by (p x) refl found (λ h. found-at p xs d h)
  where
    by : (b : Bool) → p x ≡ b → is_some (cond b (Some x) (find p xs)) ≡ true → (is_some (find p xs) ≡ true → FoundAt p xs d)
        → (i : ℕ) × (i < length (x ∷ xs)) × (p (get_or (x ∷ xs) i d) ≡ true) × (cond b (Some x) (find p xs) ≡ Some (get_or (x ∷ xs) i d))
    by true e h rest = (zero, omega arith, e, refl)
    by false e h rest = let here : FoundAt p xs d = rest h in (suc here.0, omega (arith, here.1), here.2, here.3)

-- where none is found, none passes
pub none-passes : {A : Type 0} (p : A → Bool) (xs : List A) (d : A) → is_some (find p xs) ≡ false → (i : ℕ) → i < length xs → p (get_or xs i d) ≡ false
none-passes p [] d none i within = absurd (omega (arith, within))
none-passes {A} p (x ∷ xs) d none i within = by (p x) refl none i within (λ h j below. none-passes p xs d h j below)
  where
    by : (b : Bool) → p x ≡ b → is_some (cond b (Some x) (find p xs)) ≡ false → (i : ℕ) → i < length (x ∷ xs)
        → (is_some (find p xs) ≡ false → (j : ℕ) → j < length xs → p (get_or xs j d) ≡ false) → p (get_or (x ∷ xs) i d) ≡ false
    by true e h i under rest = absurd (cc)
    by false e h zero under rest = e
    by false e h (suc i) under rest = rest h i (omega (arith, under))

-- none passes in the front of a list, where none is found there
pub none-before : {A : Type 0} (p : A → Bool) (xs : List A) (d : A) (j : ℕ) → j ≤ length xs → is_some (find p (take j xs)) ≡ false → (i : ℕ) → i < j → p (get_or xs i d) ≡ false
none-before {A} p xs d j within none i less = ap p (sym (get_or-take j xs i d less)) ∙ none-passes p (take j xs) d none i (below j xs within less)
  where
    below : (j : ℕ) (xs : List A) → j ≤ length xs → i < j → i < length (take j xs)
    below j xs within less = omega (arith, within, less, length-take-le j xs within)

-- an element that passes stands at a first place
pub position-below : {A : Type 0} (q : A → Bool) (xs : List A) (k : ℕ) (d : A) → k < length xs → q (get_or xs k d) ≡ true → position_or_len q xs < length xs
position-below q [] k d within pass = absurd (omega (arith, within))
position-below {A} q (x ∷ xs) k d within pass = by (q x) refl k within pass (λ j below h. position-below q xs j d below h)
  where
    by : (b : Bool) → q x ≡ b → (k : ℕ) → k < length (x ∷ xs) → q (get_or (x ∷ xs) k d) ≡ true
        → ((j : ℕ) → j < length xs → q (get_or xs j d) ≡ true → position_or_len q xs < length xs)
        → cond (not b) (1 + position_or_len q xs) 0 < suc (length xs)
    by true e k under h rest = omega arith
    by false e zero under h rest = absurd (cc)
    by false e (suc k) under h rest = let more = rest k (omega (arith, under)) h in omega (arith, more)

-- what a function gives of an element that passes stands at a first place among those of the filtered list
pub position-kept : {A B : Type 0} (p : A → Bool) (f : A → B) (q : B → Bool) (xs : List A) (i : ℕ) (d : A)
    → i < length xs → p (get_or xs i d) ≡ true → q (f (get_or xs i d)) ≡ true → position_or_len q (map f (filter p xs)) < length (map f (filter p xs))
position-kept p f q xs i d within pass here =
    let kept = passes-at p xs i d within pass in
    let below : kept.0 < length (filter p xs) = kept.1 in
    let long : length (map f (filter p xs)) ≡ length (filter p xs) = length-map (filter p xs) f in
    position-below q (map f (filter p xs)) kept.0 (f d) (omega (arith, below, long))
    (ap q (get_or-map f (filter p xs) kept.0 d (f d) below ∙ ap f kept.2) ∙ here)

-- the first of the filtered list that passes is the first of the list that passes both tests
pub first-kept : {A B : Type 0} (p : A → Bool) (f : A → B) (q : B → Bool) (test : A → Bool) → ((x : A) → test x ≡ p x && q (f x)) → (xs : List A) (d : A)
    → get_or (filter p xs) (position_or_len q (map f (filter p xs))) d ≡ unwrap_or (find test xs) d
first-kept p f q test same [] d = refl
first-kept {A} {B} p f q test same (x ∷ xs) d =
    by (p x) (q (f x)) refl (first-kept p f q test same xs d) ∙ ap (λ b. unwrap_or (cond b (Some x) (find test xs)) d) (sym (same x))
  where
    one-more : (n : ℕ) → 1 + n ≡ suc n
    one-more n = omega arith

    by : (a b : Bool) → q (f x) ≡ b → get_or (filter p xs) (position_or_len q (map f (filter p xs))) d ≡ unwrap_or (find test xs) d
        → get_or (cond a (x ∷ filter p xs) (filter p xs)) (position_or_len q (map f (cond a (x ∷ filter p xs) (filter p xs)))) d ≡ unwrap_or (cond (a && b) (Some x) (find test xs)) d
    by true true e rest = ap (λ c. get_or (x ∷ filter p xs) (cond (not c) (1 + position_or_len q (map f (filter p xs))) 0) d) e
    by true false e rest =
        ap (λ c. get_or (x ∷ filter p xs) (cond (not c) (1 + position_or_len q (map f (filter p xs))) 0) d) e
        ∙ ap (λ n. get_or (x ∷ filter p xs) n d) (one-more (position_or_len q (map f (filter p xs)))) ∙ rest
    by false b e rest = rest
