-- Blocks: the records of one kind, with rising places, and the numbers that they state.
use Rattle.std.proofs.Common.{◌≡◌, ◌∷◌, ◌++◌, ◌∙◌, [], ℕ, zero, suc, ◌<◌, ◌≤◌, ◌⊎◌, ℤ, pos, List, Bool, true, false, Some, None, refl, sym, ap, subst, inl, inr, arith}
use Rattle.std.specs.Prelude.{not, ◌&&◌, ◌||◌, ◌==◌, nat_lt}
use Rattle.std.specs.List.{All, find}
use Rattle.std.specs.Option.{option_or, unwrap_or}
use Rattle.std.specs.Ordering.{int_eq}
use Rattle.std.proofs.lemmas.Bool.{and_from, and_left, and_parts, and_right, cases_Bool, cases_lt, cond-false, cond-true, eq-eqb, lt-ltb, ne_eqb, not-true, both_ways}
use Rattle.std.proofs.lemmas.Bool.Decides.{Decides-int_eq}
use Rattle.std.proofs.lemmas.Slice.Eq.{bytes_eq-Decides}
use Rattle.std.proofs.lemmas.List.Elements.{All-append, All-cons, All-nil}
use Rattle.std.proofs.lemmas.List.Folds.{find-append}
use Rattle.core_sums.specs.Places.{below, days_to, each}
use Rattle.core_rows.specs.Names.{Record}
use Rattle.core_rows.specs.Fields.{number_text}
use Rattle.core_rows.specs.Written.{IsPlainRow}
use Rattle.core_book.specs.View.{CaseView}
use Rattle.core_cert.specs.declared.kinds.RecordKind.{RecordKind}
use Rattle.core_cert.specs.Kinds.{is_kind, forms, word_of}
use Rattle.core_cert.specs.Faults.{fields_fault, line_step, margin_step, name_step, place_in}
use Rattle.core_cert.specs.Stated.{last_number, number_at}
use Rattle.core_cert.specs.Written.{numbered}
use Rattle.core_cert.proofs.Rising.{each-append, each-one}
use Rattle.core_cert.proofs.RoundTripOrder.{HasKind, Passes, can_follow, kind-is, same_kind}
use Rattle.core_cert.proofs.RoundTripSound.{AreSound, IsSound, last_after, last_after-append, sound-append}

-- the records of a kind at a place
abbrev pub is_at : CaseView → RecordKind → ℕ → Record → Bool
is_at c kind p r = is_kind kind r && (place_in c kind r == p)

-- the first record that passes a test ends with a number, which is 0 where there is none
abbrev pub States : (Record → Bool) → List Record → ℤ → Type 0
States test rs z = ((find test rs ≡ None) × (z ≡ pos 0)) ⊎ ((r : Record) × (find test rs ≡ Some r) × (last_number r ≡ z))

pub states-number : (c : CaseView) (kind : RecordKind) (p : ℕ) (rs : List Record) (z : ℤ) → States (is_at c kind p) rs z → number_at c rs kind p ≡ z
states-number c kind p rs z (inl h) = ap (λ r. last_number (unwrap_or r [])) h.0 ∙ sym h.1
states-number c kind p rs z (inr h) = ap (λ r. last_number (unwrap_or r [])) h.1 ∙ h.2

-- what is found in joined lists
pub none-append : (test : Record → Bool) (rs ss : List Record) → find test rs ≡ None → find test ss ≡ None → find test (rs ++ ss) ≡ None
none-append test rs ss er es = find-append test rs ss ∙ ap (λ r. option_or r (find test ss)) er ∙ es

pub states-left : (test : Record → Bool) (rs ss : List Record) (z : ℤ) → States test rs z → find test ss ≡ None → States test (rs ++ ss) z
states-left test rs ss z (inl h) none = inl (none-append test rs ss h.0 none, h.1)
states-left test rs ss z (inr h) none = inr (h.0, find-append test rs ss ∙ ap (λ r. option_or r (find test ss)) h.1, h.2)

pub states-right : (test : Record → Bool) (rs ss : List Record) (z : ℤ) → find test rs ≡ None → States test ss z → States test (rs ++ ss) z
states-right test rs ss z none (inl h) = inl (none-append test rs ss none h.0, h.1)
states-right test rs ss z none (inr h) = inr (h.0, find-append test rs ss ∙ ap (λ r. option_or r (find test ss)) none ∙ h.1, h.2)

-- records of another kind are not found
pub other-none : (c : CaseView) (kind other : RecordKind) (p : ℕ) (r : Record) → HasKind other r → same_kind kind other ≡ false → is_at c kind p r ≡ false
other-none c kind other p r is differs = and_left (is_kind kind r) (place_in c kind r == p) (kind-is kind other r is ∙ differs)

pub others-none : (c : CaseView) (kind other : RecordKind) (p : ℕ) (rs : List Record) → All (HasKind other) rs → same_kind kind other ≡ false → find (is_at c kind p) rs ≡ None
others-none c kind other p [] all differs = refl
others-none c kind other p (r ∷ rs) all differs =
    cond-false (is_at c kind p r) (Some r) (find (is_at c kind p) rs) (other-none c kind other p r (all 0 r (omega arith)) differs)
    ∙ others-none c kind other p rs (λ k d under. all (suc k) d (omega (arith, under))) differs

-- the record before those of a kind from a place on
pub record IsAfter (c : CaseView) (refusing : Bool) (kind : RecordKind) (n : ℕ) (before : Record) : Type 0 where
  pub last : RecordKind
  pub is : HasKind last before
  pub follows : can_follow refusing last kind ≡ true
  pub low : is_kind kind before ≡ true → place_in c kind before < n

-- it is also before those of the next kind
pub after-passes : (c : CaseView) (refusing : Bool) (kind next : RecordKind) (n m : ℕ) (before : Record)
    → Passes refusing kind next → IsAfter c refusing kind n before → IsAfter c refusing next m before
after-passes c refusing kind next n m before passes after =
    let both = and_parts (can_follow refusing after.last next) (not (same_kind next after.last)) (passes after.last after.follows) in
    let other : is_kind next before ≡ false = kind-is next after.last before after.is ∙ not-true (same_kind next after.last) both.1 in
    record { last = after.last; is = after.is; follows = both.0; low = λ same. absurd (both_ways (is_kind next before) other same) }

-- a record of a kind at a place with a number
pub record IsGood (c : CaseView) (kind : RecordKind) (r : Record) (p : ℕ) (z : ℤ) : Type 0 where
  pub is : HasKind kind r
  pub fields : fields_fault (forms c kind) r ≡ None
  pub name : name_step c kind r ≡ None
  pub line : line_step c kind r ≡ None
  pub place : place_in c kind r ≡ p
  pub margin : (before : Record) → margin_step (before ∷ []) kind r ≡ None
  pub plain : IsPlainRow r
  pub number : last_number r ≡ z

-- records of a kind at places from m to n that state the numbers of these places
pub record IsBlock (c : CaseView) (refusing : Bool) (kind : RecordKind) (v : ℕ → ℤ) (m : ℕ) (rs : List Record) (n : ℕ) : Type 0 where
  pub rises : m ≤ n
  pub sound : (before : Record) → IsAfter c refusing kind m before → AreSound c refusing before rs × IsAfter c refusing kind n (last_after before rs)
  pub outside : (p : ℕ) → (p < m) ⊎ (n ≤ p) → find (is_at c kind p) rs ≡ None
  pub within : (p : ℕ) → m ≤ p → p < n → States (is_at c kind p) rs (v p)
  pub kinds : All (HasKind kind) rs
  pub plain : All IsPlainRow rs

-- a sound record after one of a lower place
pub good-sound : (c : CaseView) (refusing : Bool) (kind : RecordKind) (p : ℕ) (z : ℤ) (before r : Record)
    → IsGood c kind r p z → IsAfter c refusing kind p before → IsSound c refusing before r
good-sound c refusing kind p z before r good after = record {
  kind = kind;
  last = after.last;
  is = good.is;
  after = after.is;
  follows = after.follows;
  fields = good.fields;
  name = good.name;
  line = good.line;
  key = key (cases_Bool (is_kind kind before));
  margin = good.margin before;
}
  where
    key : (is_kind kind before ≡ true) ⊎ (is_kind kind before ≡ false) → (not (is_kind kind before) || nat_lt (place_in c kind before) (place_in c kind r)) ≡ true
    key (inl same) =
        let low = after.low same in
        let place = good.place in
        ap (λ b. not b || nat_lt (place_in c kind before) (place_in c kind r)) same ∙ lt-ltb (place_in c kind before) (place_in c kind r) (omega (arith, low, place))
    key (inr other) = ap (λ b. not b || nat_lt (place_in c kind before) (place_in c kind r)) other

-- a block of one record
pub block-one : (c : CaseView) (refusing : Bool) (kind : RecordKind) (v : ℕ → ℤ) (p : ℕ) (r : Record) → can_follow refusing kind kind ≡ true
    → IsGood c kind r p (v p) → IsBlock c refusing kind v p (r ∷ []) (suc p)
block-one c refusing kind v p r again good = record {
  rises = omega arith;
  sound = λ before after. (
    (good-sound c refusing kind p (v p) before r good after, tt),
    record { last = kind; is = good.is; follows = again; low = λ same. let place = good.place in omega (arith, place) },
  );
  outside = λ q out. cond-false (is_at c kind q r) (Some r) None (and_right (is_kind kind r) (place_in c kind r == q) (ne_eqb (place_in c kind r) q (apart q out)));
  within = λ q low high. inr (r, found q low high, good.number ∙ ap v (same q low high));
  kinds = All-cons (HasKind kind) r [] good.is (All-nil (HasKind kind));
  plain = All-cons IsPlainRow r [] good.plain (All-nil IsPlainRow);
}
  where
    same : (q : ℕ) → p ≤ q → q < suc p → p ≡ q
    same q low high = omega arith

    apart : (q : ℕ) → (q < p) ⊎ (suc p ≤ q) → place_in c kind r ≡ q → ⊥
    apart q (inl under) e = let place = good.place in omega (arith, place, e, under)
    apart q (inr over) e = let place = good.place in omega (arith, place, e, over)

    itself : is_kind kind r ≡ true
    itself = kind-is kind kind r good.is ∙ (bytes_eq-Decides (word_of kind) (word_of kind)).1 refl

    found : (q : ℕ) → p ≤ q → q < suc p → find (is_at c kind q) (r ∷ []) ≡ Some r
    found q low high = cond-true (is_at c kind q r) (Some r) None (and_from (is_kind kind r) (place_in c kind r == q) itself (eq-eqb (place_in c kind r) q (good.place ∙ same q low high)))

-- a block without records
pub block-none : (c : CaseView) (refusing : Bool) (kind : RecordKind) (v : ℕ → ℤ) (m n : ℕ) → m ≤ n → ((p : ℕ) → m ≤ p → p < n → v p ≡ pos 0) → IsBlock c refusing kind v m [] n
block-none c refusing kind v m n rises nought = record {
  rises = rises;
  sound = λ before after. (tt, record { last = after.last; is = after.is; follows = after.follows; low = λ same. let low = after.low same in omega (arith, low, rises) });
  outside = λ p out. refl;
  within = λ p low high. inl (refl, nought p low high);
  kinds = All-nil (HasKind kind);
  plain = All-nil IsPlainRow;
}

-- a block after another
pub block-append : (c : CaseView) (refusing : Bool) (kind : RecordKind) (v : ℕ → ℤ) (m n o : ℕ) (rs ss : List Record)
    → IsBlock c refusing kind v m rs n → IsBlock c refusing kind v n ss o → IsBlock c refusing kind v m (rs ++ ss) o
block-append c refusing kind v m n o rs ss one two = record {
  rises = let a = one.rises in let b = two.rises in omega (arith, a, b);
  sound = λ before after.
      let first = one.sound before after in
      let second = two.sound (last_after before rs) first.1 in
      (sound-append c refusing before rs ss first.0 second.0, rw (last_after-append before rs ss) second.1);
  outside = outside;
  within = λ p low high. within p low high (cases_lt p n);
  kinds = All-append (HasKind kind) rs ss one.kinds two.kinds;
  plain = All-append IsPlainRow rs ss one.plain two.plain;
}
  where
    outside : (p : ℕ) → (p < m) ⊎ (o ≤ p) → find (is_at c kind p) (rs ++ ss) ≡ None
    outside p (inl under) =
        let a = one.rises in
        none-append (is_at c kind p) rs ss (one.outside p (inl under)) (two.outside p (inl (omega (arith, a, under))))
    outside p (inr over) =
        let b = two.rises in
        none-append (is_at c kind p) rs ss (one.outside p (inr (omega (arith, b, over)))) (two.outside p (inr over))

    within : (p : ℕ) → m ≤ p → p < o → (p < n) ⊎ (n ≤ p) → States (is_at c kind p) (rs ++ ss) (v p)
    within p low high (inl under) = states-left (is_at c kind p) rs ss (v p) (one.within p low under) (two.outside p (inl under))
    within p low high (inr over) = states-right (is_at c kind p) rs ss (v p) (one.outside p (inr over)) (two.within p over high)

-- the record of a number at a place, none of 0
pub block-numbered : (c : CaseView) (refusing : Bool) (kind : RecordKind) (v : ℕ → ℤ) (p : ℕ) (fields : Record) (z : ℤ) → can_follow refusing kind kind ≡ true
    → z ≡ v p → (int_eq z (pos 0) ≡ false → IsGood c kind (fields ++ (number_text z ∷ [])) p z) → IsBlock c refusing kind v p (numbered fields z) (suc p)
block-numbered c refusing kind v p fields z again is good = elim (cases_Bool (int_eq z (pos 0))) [
  | inl same ↦ rw same (block-none c refusing kind v p (suc p) (omega arith) (λ q low high.
      let here : q ≡ p = omega (arith, low, high) in ap v here ∙ sym is ∙ (Decides-int_eq z (pos 0)).0 same))
  | inr differs ↦ rw differs (block-one c refusing kind v p (fields ++ (number_text z ∷ [])) again (subst (λ y. IsGood c kind (fields ++ (number_text z ∷ [])) p y) is (good differs)))
]

-- blocks of indices, with the places g 0 to g n
pub block-below : (c : CaseView) (refusing : Bool) (kind : RecordKind) (v : ℕ → ℤ) (g : ℕ → ℕ) (n : ℕ) (f : ℕ → List Record)
    → ((i : ℕ) → i < n → IsBlock c refusing kind v (g i) (f i) (g (suc i))) → IsBlock c refusing kind v (g 0) (each (below n) f) (g n)
unfolding below each
block-below c refusing kind v g zero f blocks = block-none c refusing kind v (g 0) (g 0) (omega arith) (λ p low high. absurd (omega (arith, low, high)))
block-below c refusing kind v g (suc n) f blocks =
    let before = block-below c refusing kind v g n f (λ i under. blocks i (omega (arith, under))) in
    let all = block-append c refusing kind v (g 0) (g n) (g (suc n)) (each (below n) f) (f n) before (blocks n (omega arith)) in
    rw (each-append (below n) (n ∷ []) f, each-one n f) all

-- and of days
pub block-days : (c : CaseView) (refusing : Bool) (kind : RecordKind) (v : ℕ → ℤ) (g : ℕ → ℕ) (n : ℕ) (f : ℕ → List Record)
    → ((i : ℕ) → i < n → IsBlock c refusing kind v (g i) (f (suc i)) (g (suc i))) → IsBlock c refusing kind v (g 0) (each (days_to n) f) (g n)
unfolding days_to each
block-days c refusing kind v g zero f blocks = block-none c refusing kind v (g 0) (g 0) (omega arith) (λ p low high. absurd (omega (arith, low, high)))
block-days c refusing kind v g (suc n) f blocks =
    let before = block-days c refusing kind v g n f (λ i under. blocks i (omega (arith, under))) in
    let all = block-append c refusing kind v (g 0) (g n) (g (suc n)) (each (days_to n) f) (f (suc n)) before (blocks n (omega arith)) in
    rw (each-append (days_to n) (suc n ∷ []) f, each-one (suc n) f) all

-- a block between places that are equal to others
pub block-at : (c : CaseView) (refusing : Bool) (kind : RecordKind) (v : ℕ → ℤ) (m n a b : ℕ) (rs : List Record) → m ≡ a → n ≡ b
    → IsBlock c refusing kind v m rs n → IsBlock c refusing kind v a rs b
block-at c refusing kind v m n a b rs low high block = rw (← low, ← high) block

-- a block has no record of another kind
pub block-others : (c : CaseView) (refusing : Bool) (kind other : RecordKind) (v : ℕ → ℤ) (m n p : ℕ) (rs : List Record)
    → IsBlock c refusing other v m rs n → same_kind kind other ≡ false → find (is_at c kind p) rs ≡ None
block-others c refusing kind other v m n p rs block differs = others-none c kind other p rs block.kinds differs
