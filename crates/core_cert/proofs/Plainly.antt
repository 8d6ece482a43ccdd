-- Rows that are made field by field are plain.
use Rattle.std.proofs.Common.{◌≡◌, ◌∷◌, ◌++◌, [], ℕ, List, IsTrue, arith, codes, refl, length-append}
use Rattle.std.proofs.lemmas.List.Elements.{All-append, All-cons, All-nil}
use Rattle.core_rows.specs.Fields.{IsName}
use Rattle.core_rows.specs.Names.{Record}
use Rattle.core_rows.specs.Written.{IsPlainField, IsPlainRow}
use Rattle.core_rows.proofs.Plain.{name-plain, row-plain-one, word-plain}
use Rattle.core_book.specs.declared.parts.Side.{Side}
use Rattle.core_book.specs.declared.parts.Side.TheVariants.{Position, Collateral}
use Rattle.core_cert.specs.Written.{is_plain_word, side_word}

-- a word
pub plain_word : (word : List ℕ) → IsTrue (is_plain_word word) → IsPlainField word
plain_word word h = word-plain word h

-- a name that is shown
pub plain_name : (name shown : List ℕ) → shown ≡ name → IsName name → IsPlainField shown
plain_name name shown e h = rw e (name-plain name (omega (arith, h.filled)) h.letters)

-- the first field
pub plain_first : (old new : Record) (field : List ℕ) → old ≡ [] → new ≡ old ++ (field ∷ []) → IsPlainField field → IsPlainRow new
plain_first old new field none e plain = rw (e, none) (row-plain-one field plain)

-- one field more
pub plain_more : (old new : Record) (field : List ℕ) → new ≡ old ++ (field ∷ []) → IsPlainField field → IsPlainRow old → IsPlainRow new
plain_more old new field e plain row = rw e (record {
  some = omega (arith, length-append old (field ∷ []), row.some);
  plain = All-append IsPlainField old (field ∷ []) row.plain (All-cons IsPlainField field [] plain (All-nil IsPlainField));
})

-- the word of a side
pub plain_side : (side : Side) (shown : List ℕ) → shown ≡ side_word side → IsPlainField shown
plain_side Position shown e = rw e (word-plain (codes "position") refl)
plain_side Collateral shown e = rw e (word-plain (codes "collateral") refl)
