-- The records that come after a section, up to the last.
use Rattle.std.proofs.Common.{◌≡◌, ◌∷◌, ◌++◌, [], ℕ, ℤ, List, Bool, true, refl, codes}
use Rattle.std.specs.List.{All}
use Rattle.std.proofs.lemmas.List.Elements.{All-append, All-cons, All-nil}
use Rattle.core_rows.specs.Names.{Record}
use Rattle.core_rows.specs.Fields.{number_text}
use Rattle.core_rows.specs.Written.{IsPlainRow}
use Rattle.core_rows.proofs.Plain.{number_text-plain, row-plain-more, row-plain-one, word-plain}
use Rattle.core_book.specs.View.{CaseView}
use Rattle.core_cert.specs.declared.kinds.RecordKind.{RecordKind}
use Rattle.core_cert.specs.declared.kinds.RecordKind.TheVariants.{End}
use Rattle.core_cert.specs.Stated.{last_number}
use Rattle.core_cert.specs.Written.{is_plain_word, word_record}
use Rattle.core_cert.proofs.RoundTripOrder.{HasKind, Passes}
use Rattle.core_cert.proofs.RoundTripSound.{AreSound, last_after, last_after-append, sound-append}
use Rattle.core_cert.proofs.RoundTripBlocks.{IsAfter, IsBlock, IsGood, after-passes, good-sound}
use Rattle.core_cert.proofs.RoundTripFields.{fit-fields}

-- records that may stand where those of a kind may, up to the end
pub record IsRest (c : CaseView) (refusing : Bool) (kind : RecordKind) (rs : List Record) : Type 0 where
  pub sound : (before : Record) → IsAfter c refusing kind 0 before → AreSound c refusing before rs × HasKind End (last_after before rs)
  pub plain : All IsPlainRow rs

-- a block and the rest after it
pub rest-append : (c : CaseView) (refusing : Bool) (kind next : RecordKind) (v : ℕ → ℤ) (n : ℕ) (rs ss : List Record) → Passes refusing kind next
    → IsBlock c refusing kind v 0 rs n → IsRest c refusing next ss → IsRest c refusing kind (rs ++ ss)
rest-append c refusing kind next v n rs ss passes block rest = record {
  sound = λ before after.
      let first = block.sound before after in
      let second = rest.sound (last_after before rs) (after-passes c refusing kind next n 0 (last_after before rs) passes first.1) in
      (sound-append c refusing before rs ss first.0 second.0, rw (last_after-append before rs ss) second.1);
  plain = All-append IsPlainRow rs ss block.plain rest.plain;
}

-- the last record
abbrev pub the_end : List Record
the_end = (codes "end" ∷ []) ∷ []

end-good : (c : CaseView) → IsGood c End (codes "end" ∷ []) 0 (last_number (codes "end" ∷ []))
end-good c = record {
  is = refl;
  fields = fit-fields [] (codes "end") [] tt;
  name = refl;
  line = refl;
  place = refl;
  margin = λ before. refl;
  plain = row-plain-one (codes "end") (word-plain (codes "end") refl);
  number = refl;
}

pub rest-end : (c : CaseView) (refusing : Bool) → IsRest c refusing End the_end
rest-end c refusing = record {
  sound = λ before after. ((good-sound c refusing End 0 (last_number (codes "end" ∷ [])) before (codes "end" ∷ []) (end-good c) after, tt), refl);
  plain = All-cons IsPlainRow (codes "end" ∷ []) [] (end-good c).plain (All-nil IsPlainRow);
}

-- a row of a word and a number
pub word_record-plain : (word : List ℕ) (z : ℤ) → is_plain_word word ≡ true → IsPlainRow (word_record word z)
word_record-plain word z plain = row-plain-more word (number_text z ∷ []) (word-plain word plain) (row-plain-one (number_text z) (number_text-plain z))
