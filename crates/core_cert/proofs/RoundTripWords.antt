-- The records of denominators, losses and margins, and what may follow them.
use Rattle.std.proofs.Common.{◌≡◌, ◌∷◌, ◌∙◌, [], ℤ, pos, List, Bool, true, false, refl, sym, ap, codes, arith}
use Rattle.std.specs.Prelude.{int_lt}
use Rattle.std.specs.Ordering.{int_eq}
use Rattle.std.proofs.lemmas.Bool.{both_ways, cond_both, false≢true}
use Rattle.std.proofs.lemmas.Bool.Decides.{Decides-int_eq}
use Rattle.std.proofs.lemmas.List.Elements.{All-cons}
use Rattle.core_rows.specs.Names.{Record}
use Rattle.core_rows.specs.Fields.{number_text}
use Rattle.core_rows.specs.Written.{IsPlainRow}
use Rattle.core_rows.proofs.Plain.{row-plain-one, word-plain}
use Rattle.core_book.specs.View.{CaseView}
use Rattle.core_model.specs.Fits.{IsWithin128}
use Rattle.core_cert.specs.declared.kinds.RecordKind.{RecordKind}
use Rattle.core_cert.specs.declared.kinds.RecordKind.TheVariants.{Closes, Cannot, Loss, Margin, Weights}
use Rattle.core_cert.specs.declared.forms.Form.TheVariants.{Numerator}
use Rattle.core_cert.specs.declared.faults.RecordFault.TheVariants.{NotTheMargin}
use Rattle.core_cert.specs.Faults.{number_in}
use Rattle.core_cert.specs.Written.{floored, word_record}
use Rattle.core_cert.proofs.RoundTripOrder.{can_follow, same_kind}
use Rattle.core_cert.proofs.RoundTripSound.{IsSound, no_fault}
use Rattle.core_cert.proofs.RoundTripBlocks.{IsGood, good-sound}
use Rattle.core_cert.proofs.RoundTripFields.{fit-fields, fit-number, number_in-kept}
use Rattle.core_cert.proofs.RoundTripRest.{IsRest, word_record-plain}

-- the records of the denominators and the loss are good
pub closes-good : (c : CaseView) (z : ℤ) → IsWithin128 z → IsGood c Closes (word_record (codes "closes") z) 0 z
closes-good c z kept = record {
  is = refl;
  fields = fit-fields (Numerator ∷ []) (codes "closes") (number_text z ∷ []) (fit-number z kept, tt);
  name = refl;
  line = refl;
  place = refl;
  margin = λ before. refl;
  plain = word_record-plain (codes "closes") z refl;
  number = number_in-kept z kept;
}

pub loss-good : (c : CaseView) (z : ℤ) → IsWithin128 z → IsGood c Loss (word_record (codes "loss") z) 0 z
loss-good c z kept = record {
  is = refl;
  fields = fit-fields (Numerator ∷ []) (codes "loss") (number_text z ∷ []) (fit-number z kept, tt);
  name = refl;
  line = refl;
  place = refl;
  margin = λ before. refl;
  plain = word_record-plain (codes "loss") z refl;
  number = number_in-kept z kept;
}

pub weights-good : (c : CaseView) (z : ℤ) → IsWithin128 z → IsGood c Weights (word_record (codes "weights") z) 0 z
weights-good c z kept = record {
  is = refl;
  fields = fit-fields (Numerator ∷ []) (codes "weights") (number_text z ∷ []) (fit-number z kept, tt);
  name = refl;
  line = refl;
  place = refl;
  margin = λ before. refl;
  plain = word_record-plain (codes "weights") z refl;
  number = number_in-kept z kept;
}

pub cannot-good : (c : CaseView) → IsGood c Cannot (codes "cannot" ∷ []) 0 (pos 0)
cannot-good c = record {
  is = refl;
  fields = fit-fields [] (codes "cannot") [] tt;
  name = refl;
  line = refl;
  place = refl;
  margin = λ before. refl;
  plain = row-plain-one (codes "cannot") (word-plain (codes "cannot") refl);
  number = refl;
}

-- a loss is floored within the numbers that are kept
floored-kept : (loss : ℤ) → IsWithin128 loss → IsWithin128 (floored loss)
floored-kept loss kept = cond_both (int_lt (pos 0) loss) loss (pos 0) IsWithin128 (λ above. kept) (λ under. omega arith)

-- the margin stands soundly after the loss
margin-sound : (c : CaseView) (loss : ℤ) → IsWithin128 loss → IsSound c false (word_record (codes "loss") loss) (word_record (codes "margin") (floored loss))
margin-sound c loss kept = record {
  kind = Margin;
  last = Loss;
  is = refl;
  after = refl;
  follows = refl;
  fields = fit-fields (Numerator ∷ []) (codes "margin") (number_text (floored loss) ∷ []) (fit-number (floored loss) (floored-kept loss kept), tt);
  name = refl;
  line = refl;
  key = refl;
  margin = no_fault (int_eq (number_in (number_text (floored loss))) (floored (number_in (number_text loss)))) NotTheMargin
      ((Decides-int_eq (number_in (number_text (floored loss))) (floored (number_in (number_text loss)))).1 same);
}
  where
    same : number_in (number_text (floored loss)) ≡ floored (number_in (number_text loss))
    same = number_in-kept (floored loss) (floored-kept loss kept) ∙ sym (ap floored (number_in-kept loss kept))

-- the weights' denominator, before what may follow it
pub den-rest : (c : CaseView) (refusing : Bool) (next : RecordKind) (den : ℤ) (rs : List Record) → can_follow refusing Weights next ≡ true → same_kind next Weights ≡ false
    → IsWithin128 den → IsRest c refusing next rs → IsRest c refusing Weights (word_record (codes "weights") den ∷ rs)
den-rest c refusing next den rs follows differs kept rest = record {
  sound = λ before after.
      let later = rest.sound (word_record (codes "weights") den) (record { last = Weights; is = refl; follows = follows; low = λ same. absurd (both_ways (same_kind next Weights) differs same) }) in
      ((good-sound c refusing Weights 0 den before (word_record (codes "weights") den) (weights-good c den kept) after, later.0), later.1);
  plain = All-cons IsPlainRow (word_record (codes "weights") den) rs (word_record-plain (codes "weights") den refl) rest.plain;
}

-- the loss, the margin and what may follow them
pub loss-rest : (c : CaseView) (loss : ℤ) (rs : List Record) → IsWithin128 loss → IsRest c false Weights rs
    → IsRest c false Loss (word_record (codes "loss") loss ∷ word_record (codes "margin") (floored loss) ∷ rs)
loss-rest c loss rs kept rest = record {
  sound = λ before after.
      let later = rest.sound (word_record (codes "margin") (floored loss)) (record { last = Margin; is = refl; follows = refl; low = λ same. absurd (false≢true same) }) in
      ((good-sound c false Loss 0 loss before (word_record (codes "loss") loss) (loss-good c loss kept) after, (margin-sound c loss kept, later.0)), later.1);
  plain = All-cons IsPlainRow (word_record (codes "loss") loss) (word_record (codes "margin") (floored loss) ∷ rs) (word_record-plain (codes "loss") loss refl)
      (All-cons IsPlainRow (word_record (codes "margin") (floored loss)) rs (word_record-plain (codes "margin") (floored loss) refl) rest.plain);
}
