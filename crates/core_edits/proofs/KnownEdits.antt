-- A sound record states an edit that the case takes.
use Rattle.std.proofs.Common.{◌≡◌, refl, sym, ◌∙◌, ap, subst, ℕ, suc, ◌<◌, ◌≤◌, min, List, length, get_or, ℤ, pos, negsuc, ◌≤ℤ◌, int_le, int_lt, unsigned_abs, true, Option, Some, None, is_some, arith, true≢false, ltb-true, leb-true, eqb-true}
use Rattle.std.proofs.lemmas.Int.{ints}
use Rattle.std.proofs.lemmas.Bool.{and_parts}
use Rattle.std.specs.Option.{unwrap_or, IfSome}
use Rattle.core_rows.specs.Names.{Record, field}
use Rattle.core_rows.specs.Fields.{whole}
use Rattle.core_rows.proofs.FirstStep.{first_of-parts, holds-from_none}
use Rattle.core_rows.proofs.FieldWalk.{field-at}
use Rattle.core_case.specs.Kinds.{number_in, natural_in}
use Rattle.core_case.specs.Faults.{is_between}
use Rattle.core_book.specs.View.{CaseView, tiers_of}
use Rattle.core_book.specs.WellFormed.{IsCase, IsIn}
use Rattle.core_book.specs.Limits.{most_tiers, most_amount, least_cash, most_cash}
use Rattle.core_book.specs.Edits.{IsEdit}
use Rattle.core_edits.specs.Kinds.{kind_of, forms}
use Rattle.core_edits.specs.Stated.{instrument_named, pool_named, stated_by, edits_of}
use Rattle.core_edits.specs.Faults.{fault_of, later_fault, form_fault, range_fault, is_size, name_step, part_step}
use Rattle.core_edits.specs.declared.kinds.RecordKind.{RecordKind}
use Rattle.core_edits.specs.declared.kinds.RecordKind.TheVariants.{Edits, Limit, Cap, Position, Collateral, Cash, End}
use Rattle.core_edits.specs.declared.forms.Form.TheVariants.{Version, Number, NotZero}
use Rattle.core_edits.specs.declared.faults.RecordFault.TheVariants.{NotANumber, OutOfRange, NotInCase, NoSuchPart}

-- a field that is a number is in its range
number-within : (low high : ℤ) (word : List ℕ) → form_fault (Number low high) word ≡ None → range_fault (Number low high) word ≡ None
    → IsIn low high (unwrap_or (whole word) (pos 0))
number-within low high word formed ranged = by (whole word) (holds-from_none _ NotANumber formed) (holds-from_none _ OutOfRange ranged)
  where
    by : (o : Option ℤ) → is_some o ≡ true → is_between low high o ≡ true → IsIn low high (unwrap_or o (pos 0))
    by None some within = absurd (true≢false (sym some))
    by (Some z) some within =
        let parts = and_parts (int_le low z) (int_le z high) within in
        let from : int_le low z ≡ true = parts.0 in
        let to : int_le z high ≡ true = parts.1 in
        (grind (arith, ints), grind (arith, ints))

size-within : (most : ℤ) (word : List ℕ) → form_fault (NotZero most) word ≡ None → range_fault (NotZero most) word ≡ None
    → IsIn (pos 1) most (pos (unsigned_abs (unwrap_or (whole word) (pos 0))))
size-within most word formed ranged = by (whole word) (holds-from_none _ NotANumber formed) (holds-from_none _ OutOfRange ranged)
  where
    some-size : (n : ℕ) → int_lt (pos 0) (pos n) ≡ true → pos 1 ≤ℤ pos n
    some-size n h = grind (arith, ints)

    most-size : (n : ℕ) → int_le (pos n) most ≡ true → pos n ≤ℤ most
    most-size n h = grind (arith, ints)

    by : (o : Option ℤ) → is_some o ≡ true → is_size most o ≡ true → IsIn (pos 1) most (pos (unsigned_abs (unwrap_or o (pos 0))))
    by None some within = absurd (true≢false (sym some))
    by (Some z) some within =
        let parts = and_parts (int_lt (pos 0) (pos (unsigned_abs z))) (int_le (pos (unsigned_abs z)) most) within in
        (some-size (unsigned_abs z) parts.0, most-size (unsigned_abs z) parts.1)

-- what a sound record of a kind keeps
record IsSound (c : CaseView) (kind : RecordKind) (r : Record) : Type 0 where
  formed : (n : ℕ) → n < length (forms c kind) → form_fault (get_or (forms c kind) n Version) (field r (suc n)) ≡ None
  ranged : (n : ℕ) → n < length (forms c kind) → range_fault (get_or (forms c kind) n Version) (field r (suc n)) ≡ None
  named : name_step c kind r ≡ None
  part : part_step c kind r ≡ None

sound-of : (c : CaseView) (place count : ℕ) (r : Record) (kind : RecordKind) → later_fault c place count r (Some kind) ≡ None → IsSound c kind r
sound-of c place count r kind e =
    let ordered = first_of-parts _ _ e in
    let shaped = first_of-parts _ _ ordered.1 in
    let by_case = first_of-parts _ _ shaped.1 in
    let named = first_of-parts _ _ by_case.0 in
    let part = first_of-parts _ _ named.1 in
    let counted = first_of-parts _ _ shaped.0 in
    let forms_are = first_of-parts _ _ counted.1 in
    let ranges_are = first_of-parts _ _ forms_are.1 in
    let count : length r ≡ suc (length (forms c kind)) = eqb-true (length r) (suc (length (forms c kind))) (holds-from_none _ _ counted.0) in
    record {
      formed = field-at form_fault (forms c kind) r Version count forms_are.0;
      ranged = field-at range_fault (forms c kind) r Version count ranges_are.0;
      named = named.0;
      part = part.0;
    }

-- the number of a field after the kind
within-of : (c : CaseView) (kind : RecordKind) (r : Record) (n : ℕ) (low high : ℤ) → IsSound c kind r → n < length (forms c kind)
    → get_or (forms c kind) n Version ≡ Number low high → IsIn low high (number_in r (suc n))
within-of c kind r n low high sound within form =
    number-within low high (field r (suc n))
    (subst (λ f. form_fault f (field r (suc n)) ≡ None) form (sound.formed n within))
    (subst (λ f. range_fault f (field r (suc n)) ≡ None) form (sound.ranged n within))

-- a day or a tier is small
small-is : (z : ℤ) (low high : ℕ) → IsIn (pos low) (pos high) z → high ≤ 255 → (low ≤ min (unsigned_abs z) 255) × (min (unsigned_abs z) 255 ≤ high)
small-is (pos n) low high within few = (omega (arith, ints, within, few), omega (arith, ints, within, few))
small-is (negsuc n) low high within few = absurd (omega (arith, ints, within))

-- and as large as it is
small-same : (z : ℤ) (high : ℕ) → IsIn (pos 1) (pos high) z → high ≤ 255 → min (unsigned_abs z) 255 ≡ unsigned_abs z
small-same (pos n) high within few = omega (arith, ints, within, few)
small-same (negsuc n) high within few = absurd (omega (arith, ints, within))

size-same : (low : ℕ) (high : ℤ) (z : ℤ) → 1 ≤ low → IsIn (pos low) high z → pos (unsigned_abs z) ≡ z
size-same low high (pos n) some within = refl
size-same low high (negsuc n) some within = absurd (omega (arith, ints, some, within.0))

module _ (c : CaseView) (kept : IsCase c) (r : Record) where
  stated-known : (kind : RecordKind) → IsSound c kind r → IfSome (stated_by c r (Some kind)) (IsEdit c)
  stated-known Edits sound = tt
  stated-known Limit sound =
      let day = within-of c Limit r 1 (pos 1) (pos c.horizon) sound (omega arith) refl in
      let tier = within-of c Limit r 2 (pos 1) (pos most_tiers) sound (omega arith) refl in
      let u = small-is (number_in r 2) 1 c.horizon day (omega (arith, kept.horizon)) in
      let j = small-is (number_in r 3) 1 4 tier (omega arith) in
      let same = small-same (number_in r 3) 4 tier (omega arith) in
      let part = leb-true (natural_in r 3) (tiers_of c (instrument_named c r)) (holds-from_none _ NoSuchPart sound.part) in (
        ltb-true (instrument_named c r) (length c.instruments) (holds-from_none _ NotInCase sound.named),
        u.0,
        u.1,
        j.0,
        omega (arith, same, part),
        within-of c Limit r 3 (pos 0) most_amount sound (omega arith) refl,
      )
  stated-known Cap sound = (
    ltb-true (pool_named c r) (length c.pools) (holds-from_none _ NotInCase sound.named),
    within-of c Cap r 1 (pos 0) most_amount sound (omega arith) refl,
  )
  stated-known Position sound = (
    ltb-true _ (length c.lines) (holds-from_none _ NoSuchPart sound.part),
    size-within most_amount (field r 2) (sound.formed 1 (omega arith)) (sound.ranged 1 (omega arith)),
  )
  stated-known Collateral sound =
      let amount = within-of c Collateral r 1 (pos 1) most_amount sound (omega arith) refl in
      let same = size-same 1 most_amount (number_in r 2) (omega arith) amount in (
        ltb-true _ (length c.lines) (holds-from_none _ NoSuchPart sound.part),
        subst (λ z. IsIn (pos 1) most_amount z) (sym same) amount,
      )
  stated-known Cash sound =
      let day = within-of c Cash r 0 (pos 0) (pos c.last) sound (omega arith) refl in
      let t = small-is (number_in r 1) 0 c.last day (omega (arith, kept.last)) in
      (t.1, within-of c Cash r 1 least_cash most_cash sound (omega arith) refl)
  stated-known End sound = tt

  -- of a record that is sound after others
  pub known-edit : (earlier : List Record) (kind : RecordKind) → fault_of c earlier r ≡ None → kind_of r ≡ Some kind
      → IfSome (stated_by c r (Some kind)) (IsEdit c)
  known-edit earlier kind e known =
      let ended = first_of-parts _ _ e in
      let of_kind = first_of-parts _ _ ended.1 in
      let later = first_of-parts _ _ of_kind.1 in
      let here : later_fault c (length earlier) (length (edits_of c earlier)) r (Some kind) ≡ None =
      ap (later_fault c (length earlier) (length (edits_of c earlier)) r) (sym known) ∙ later.0 in
      stated-known kind (sound-of c (length earlier) (length (edits_of c earlier)) r kind here)
