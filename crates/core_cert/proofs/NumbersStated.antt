-- The numbers that records state, record by record from the last, and that 128 bits keep them.
use Rattle.std.proofs.Common.{◌≡◌, refl, sym, ◌∙◌, ap, subst, inl, inr, ℕ, zero, suc, ◌-◌, ◌<◌, ◌≤◌, List, [], ◌∷◌, length, get_or, set, replicate, drop, drop-cons, arith, ℤ, pos, neg_ℤ, unsigned_abs, Bool, true, false, ◌&&◌, ◌==◌, nat_le, if◌then◌else◌, Option, Some, None, option_map, eq-eqb, lit≤}
use Rattle.std.specs.Option.{unwrap_or}
use Rattle.std.specs.List.{find}
use Rattle.std.proofs.lemmas.Bool.{ne_eqb, cases_eq}
use Rattle.std.proofs.lemmas.Bool.Decides.{nat_tests}
use Rattle.std.proofs.lemmas.List.{ext_get_or, get_or-set_other, get_or-set_same, length-set, length-map, get_or-replicate, length-replicate, drop_all}
use Rattle.core_sums.specs.Places.{below}
use Rattle.core_sums.specs.Widths.{most}
use Rattle.core_sums.proofs.Lists.{length-below, get_or-below}
use Rattle.core_rows.specs.Names.{Record, field}
use Rattle.core_rows.specs.Fields.{at_most, positive}
use Rattle.core_book.specs.View.{CaseView}
use Rattle.core_model.specs.Fits.{AreKept, Fits, IsWithin128}
use Rattle.core_model.specs.declared.cert.Calendar.{Calendar}
use Rattle.core_model.specs.declared.cert.Weights as weights
use Rattle.core_model.specs.declared.cert.Cert.TheVariants as certs
use Rattle.core_cert.specs.Kinds.{is_kind}
use Rattle.core_cert.specs.Faults.{number_in, place_in, is_refusing}
use Rattle.core_cert.specs.Stated.{last_number, number_at, numbers_of, places_of, calendar_stated, weights_stated, cert_of}
use Rattle.core_cert.specs.declared.kinds.RecordKind.{RecordKind}
use Rattle.core_cert.specs.declared.kinds.RecordKind.TheVariants.{Closes, Amount, Loss, Weights, Scenario, Limit, Pool, Full}

-- how many numbers of a kind there are
numbers-length : (c : CaseView) (rs : List Record) (kind : RecordKind) → length (numbers_of c rs kind) ≡ places_of c kind
numbers-length c rs kind = length-map (below (places_of c kind)) (number_at c rs kind) ∙ length-below (places_of c kind)

-- the number of a place
number-of-place : (c : CaseView) (rs : List Record) (kind : RecordKind) (i : ℕ) → i < places_of c kind
    → get_or (numbers_of c rs kind) i (pos 0) ≡ number_at c rs kind i
number-of-place c rs kind i within = get_or-below (places_of c kind) i (number_at c rs kind) (pos 0) within

-- without records all numbers are 0
no-number : (c : CaseView) (kind : RecordKind) (i : ℕ) → number_at c [] kind i ≡ pos 0
no-number c kind i = refl

numbers-none : (c : CaseView) (kind : RecordKind) (n : ℕ) → n ≡ places_of c kind → replicate n (pos 0) ≡ numbers_of c [] kind
numbers-none c kind n size = ext_get_or (pos 0) (replicate n (pos 0)) (numbers_of c [] kind)
    (length-replicate n (pos 0) ∙ size ∙ sym (numbers-length c [] kind)) (λ i h.
    let within : i < n = omega (arith, h, length-replicate n (pos 0)) in
    let inside : i < places_of c kind = omega (arith, within, size) in
    get_or-replicate n i (pos 0) (pos 0) within ∙ sym (number-of-place c [] kind i inside ∙ no-number c kind i))

pub numbers-init : (c : CaseView) (rs : List Record) (kind : RecordKind) (i count : ℕ) (numbers : List ℤ) → length rs ≤ i
    → count ≡ places_of c kind → numbers ≡ replicate count (pos 0) → numbers ≡ numbers_of c (drop i rs) kind
numbers-init c rs kind i count numbers past size is =
    is ∙ numbers-none c kind count size ∙ ap (λ xs. numbers_of c xs kind) (sym (drop_all i rs past))

-- a record that is found, or a later one
picked : (b : Bool) (r : Record) (later : Option Record) → last_number (unwrap_or (if b then Some r else later) []) ≡ (if b then last_number r else last_number (unwrap_or later []))
picked true r later = refl
picked false r later = refl

-- the number of a place, with one record more at the front
number-cons : (c : CaseView) (r : Record) (rs : List Record) (kind : RecordKind) (i : ℕ)
    → number_at c (r ∷ rs) kind i ≡ (if is_kind kind r && (place_in c kind r == i) then last_number r else number_at c rs kind i)
number-cons c r rs kind i = picked (is_kind kind r && (place_in c kind r == i)) r (find (λ x. is_kind kind x && (place_in c kind x == i)) rs)

-- what stands at a place after a write
at-place : (old : List ℤ) (p i : ℕ) (v w : ℤ) → i < length old → get_or old i (pos 0) ≡ w → get_or (set old p v) i (pos 0) ≡ (if p == i then v else w)
at-place old p i v w within at = elim (cases_eq p i) [
  | inl e ↦ subst (λ (q : ℕ). get_or (set old q v) i (pos 0) ≡ v) (sym e) (get_or-set_same old i v (pos 0) within) ∙ sym (ap (λ b. if b then v else w) (eq-eqb p i e))
  | inr apart ↦ get_or-set_other old p i v (pos 0) (λ e. apart (sym e)) ∙ at ∙ sym (ap (λ b. if b then v else w) (ne_eqb p i apart))
]

-- a record of the kind writes its number, and another leaves the numbers
pub numbers-step : (c : CaseView) (rs : List Record) (r : Record) (kind : RecordKind) (old new : List ℤ) → old ≡ numbers_of c rs kind
    → new ≡ (if is_kind kind r then set old (place_in c kind r) (last_number r) else old) → new ≡ numbers_of c (r ∷ rs) kind
numbers-step c rs r kind old new are is = split (is_kind kind r) refl
  where
    size : length old ≡ places_of c kind
    size = ap length are ∙ numbers-length c rs kind

    cons : (b : Bool) (i : ℕ) → is_kind kind r ≡ b → number_at c (r ∷ rs) kind i ≡ (if b && (place_in c kind r == i) then last_number r else number_at c rs kind i)
    cons b i e = number-cons c r rs kind i ∙ ap (λ x. if x && (place_in c kind r == i) then last_number r else number_at c rs kind i) e

    written : (b : Bool) → is_kind kind r ≡ b → new ≡ (if b then set old (place_in c kind r) (last_number r) else old)
    written b e = is ∙ ap (λ x. if x then set old (place_in c kind r) (last_number r) else old) e

    here : (i : ℕ) → i < places_of c kind → get_or old i (pos 0) ≡ number_at c rs kind i
    here i within = ap (λ xs. get_or xs i (pos 0)) are ∙ number-of-place c rs kind i within

    split : (b : Bool) → is_kind kind r ≡ b → new ≡ numbers_of c (r ∷ rs) kind
    split true e =
        written true e
        ∙ ext_get_or (pos 0) (set old (place_in c kind r) (last_number r)) (numbers_of c (r ∷ rs) kind)
        (length-set old (place_in c kind r) (last_number r) ∙ size ∙ sym (numbers-length c (r ∷ rs) kind)) (λ i h.
        let within : i < places_of c kind = omega (arith, h, length-set old (place_in c kind r) (last_number r), size) in
        at-place old (place_in c kind r) i (last_number r) (number_at c rs kind i) (omega (arith, within, size)) (here i within)
        ∙ sym (number-of-place c (r ∷ rs) kind i within ∙ cons true i e))
    split false e =
        written false e
        ∙ ext_get_or (pos 0) old (numbers_of c (r ∷ rs) kind) (size ∙ sym (numbers-length c (r ∷ rs) kind)) (λ i h.
        let within : i < places_of c kind = omega (arith, h, size) in
        here i within ∙ sym (number-of-place c (r ∷ rs) kind i within ∙ cons false i e))

-- the same for the record at hand, where those after it were taken
pub numbers-at : (c : CaseView) (rows : List Record) (i : ℕ) (r : Record) (kind : RecordKind) (old new : List ℤ) → 1 ≤ i → i ≤ length rows → r ≡ get_or rows (i - 1) r
    → old ≡ numbers_of c (drop i rows) kind → new ≡ (if is_kind kind r then set old (place_in c kind r) (last_number r) else old)
    → new ≡ numbers_of c (drop (i - 1) rows) kind
numbers-at c rows i r kind old new from to at are is =
    let next : suc (i - 1) ≡ i = omega arith in
    let left : drop (i - 1) rows ≡ r ∷ drop i rows = drop-cons rows (i - 1) r (omega arith) ∙ ap (λ x. x ∷ drop (suc (i - 1)) rows) (sym at) ∙ ap (λ m. r ∷ drop m rows) next in
    numbers-step c (drop i rows) r kind old new are is ∙ ap (λ xs. numbers_of c xs kind) (sym left)

-- at the end all records were taken
pub numbers-all : (c : CaseView) (rows : List Record) (i : ℕ) (kind : RecordKind) (numbers : List ℤ) → i ≡ 0 → numbers ≡ numbers_of c (drop i rows) kind
    → numbers ≡ numbers_of c rows kind
numbers-all c rows i kind numbers e is = is ∙ ap (λ m. numbers_of c (drop m rows) kind) e

-- tests that agree find the same
find-same : {X : Type 0} (p q : X → Bool) (xs : List X) → ((x : X) → p x ≡ q x) → find p xs ≡ find q xs
find-same p q [] h = refl
find-same p q (x ∷ xs) h = ap (λ b. if b then Some x else find p xs) (h x) ∙ ap (λ o. if q x then Some x else o) (find-same p q xs h)

and-true : (b : Bool) → b ≡ b && true
and-true true = refl
and-true false = refl

-- the one number of a kind that has no key
pub closes-number : (c : CaseView) (rs : List Record) → last_number (unwrap_or (find (is_kind Closes) rs) []) ≡ number_at c rs Closes 0
closes-number c rs = ap (λ o. last_number (unwrap_or o [])) (find-same (is_kind Closes) (λ r. is_kind Closes r && (place_in c Closes r == 0)) rs (λ r. and-true (is_kind Closes r)))

pub loss-number : (c : CaseView) (rs : List Record) → last_number (unwrap_or (find (is_kind Loss) rs) []) ≡ number_at c rs Loss 0
loss-number c rs = ap (λ o. last_number (unwrap_or o [])) (find-same (is_kind Loss) (λ r. is_kind Loss r && (place_in c Loss r == 0)) rs (λ r. and-true (is_kind Loss r)))

pub weights-number : (c : CaseView) (rs : List Record) → last_number (unwrap_or (find (is_kind Weights) rs) []) ≡ number_at c rs Weights 0
weights-number c rs = ap (λ o. last_number (unwrap_or o [])) (find-same (is_kind Weights) (λ r. is_kind Weights r && (place_in c Weights r == 0)) rs (λ r. and-true (is_kind Weights r)))

-- a number that a field writes is within 128 bits
under : (o : Option ℕ) (n : ℕ) → at_most most o ≡ Some n → n ≤ most
under None n e = cc
under (Some m) n e = split (nat_le m most) refl e
  where
    split : (b : Bool) → nat_le m most ≡ b → (if b then Some m else None) ≡ Some n → n ≤ most
    split true h same = let one : m ≡ n = (cc) in subst (λ (x : ℕ). x ≤ most) one (grind (arith, nat_tests))
    split false h same = cc

negative : (n : ℕ) → unsigned_abs (neg_ℤ (pos n)) ≡ n
negative zero = refl
negative (suc n) = refl

positive-kept : (o : Option ℕ) (p : Option ℕ) → at_most most o ≡ p → IsWithin128 (unwrap_or (option_map pos p) (pos 0))
positive-kept o None e = lit≤ tt
positive-kept o (Some n) e = under o n e

negative-kept : (o : Option ℕ) (p : Option ℕ) → at_most most o ≡ p → IsWithin128 (unwrap_or (option_map (λ n. neg_ℤ (pos n)) p) (pos 0))
negative-kept o None e = lit≤ tt
negative-kept o (Some n) e = subst (λ (x : ℕ). x ≤ most) (sym (negative n)) (under o n e)

pub number-kept : (word : List ℕ) → IsWithin128 (number_in word)
number-kept [] = lit≤ tt
number-kept (b ∷ bs) = split (b == 45) ((b == 48) && (length bs == 0))
  where
    split : (minus nought : Bool)
        → IsWithin128 (unwrap_or (if minus then option_map (λ n. neg_ℤ (pos n)) (at_most most (positive bs)) else if nought then Some (pos 0) else option_map pos (at_most most (positive (b ∷ bs)))) (pos 0))
    split true nought = negative-kept (positive bs) (at_most most (positive bs)) refl
    split false true = lit≤ tt
    split false false = positive-kept (positive (b ∷ bs)) (at_most most (positive (b ∷ bs))) refl

-- so is the number of a place
kept-last : (r : Record) → IsWithin128 (last_number r)
kept-last r = number-kept (field r (length r - 1))

kept-at : (c : CaseView) (rs : List Record) (kind : RecordKind) (i : ℕ) → IsWithin128 (number_at c rs kind i)
kept-at c rs kind i = kept-last (unwrap_or (find (λ r. is_kind kind r && (place_in c kind r == i)) rs) [])

-- so are the numbers of a kind
numbers-kept : (c : CaseView) (rs : List Record) (kind : RecordKind) → AreKept (places_of c kind) (numbers_of c rs kind)
numbers-kept c rs kind = (
  numbers-length c rs kind,
  λ i d h.
      let within : i < places_of c kind = omega (arith, h, numbers-length c rs kind) in
      subst IsWithin128 (sym (get_or-below (places_of c kind) i (number_at c rs kind) d within)) (kept-at c rs kind i),
)

-- what records state fits the case
pub cert-fits : (c : CaseView) (rs : List Record) → Fits c (cert_of c rs)
cert-fits c rs = split (is_refusing rs)
  where
    split : (b : Bool) → Fits c (if b then certs.Cannot (weights_stated c rs) else certs.Closes (calendar_stated c rs) (number_at c rs Loss 0) (weights_stated c rs))
    split true = record {
      den = kept-at c rs Weights 0;
      scenario = numbers-kept c rs Scenario;
      limit = numbers-kept c rs Limit;
      pool = numbers-kept c rs Pool;
      full = numbers-kept c rs Full;
    }
    split false = (
      record { den = kept-at c rs Closes 0; amounts = numbers-kept c rs Amount },
      kept-at c rs Loss 0,
      record {
        den = kept-at c rs Weights 0;
        scenario = numbers-kept c rs Scenario;
        limit = numbers-kept c rs Limit;
        pool = numbers-kept c rs Pool;
        full = numbers-kept c rs Full;
      },
    )

-- the calendar of its parts
pub calendar-is : (c : CaseView) (rs : List Record) (den : ℤ) (amounts : List ℤ) → den ≡ last_number (unwrap_or (find (is_kind Closes) rs) [])
    → amounts ≡ numbers_of c rs Amount → let x : Calendar = record { den = den; amounts = amounts } in x ≡ calendar_stated c rs
calendar-is c rs den amounts one many =
    let make : ℤ → List ℤ → Calendar = λ d a. record { den = d; amounts = a } in
    ap (λ d. make d amounts) (one ∙ closes-number c rs) ∙ ap (make (number_at c rs Closes 0)) many

-- the weights of their parts
pub weights-are : (c : CaseView) (rs : List Record) (den : ℤ) (scenario limit pool full : List ℤ) → den ≡ last_number (unwrap_or (find (is_kind Weights) rs) [])
    → scenario ≡ numbers_of c rs Scenario → limit ≡ numbers_of c rs Limit
    → pool ≡ numbers_of c rs Pool → full ≡ numbers_of c rs Full
    → let x : weights.Weights = record { den = den; scenario = scenario; limit = limit; pool = pool; full = full } in x ≡ weights_stated c rs
weights-are c rs den scenario limit pool full one two three four five =
    let make : ℤ → List ℤ → List ℤ → List ℤ → List ℤ → weights.Weights = λ d s l p f. record { den = d; scenario = s; limit = l; pool = p; full = f } in
    let den_is = one ∙ weights-number c rs in
    rw (den_is, two, three, four, five) refl

-- the certificate of a calendar, its loss and its weights
pub closing-is : (c : CaseView) (rs : List Record) (calendar : Calendar) (loss : ℤ) (w : weights.Weights) → false ≡ is_refusing rs → calendar ≡ calendar_stated c rs
    → loss ≡ last_number (unwrap_or (find (is_kind Loss) rs) []) → w ≡ weights_stated c rs → certs.Closes calendar loss w ≡ cert_of c rs
closing-is c rs calendar loss w form one two three =
    let loss_is = two ∙ loss-number c rs in
    rw (one, loss_is, three)
    (ap (λ b. if b then certs.Cannot (weights_stated c rs) else certs.Closes (calendar_stated c rs) (number_at c rs Loss 0) (weights_stated c rs)) form)
