-- The fields of every reply are plain, so its text is one record.
use Rattle.std.proofs.Common.{refl, [], ◌∷◌, ℕ, List, codes, decimal, pos}
use Rattle.core_rows.specs.Fields.{IsName, number_text}
use Rattle.core_rows.specs.Written.{IsPlainField, IsPlainRow}
use Rattle.core_rows.proofs.Plain.{decimal-plain, is_name-plain, number_text-plain, row-plain-one, row-plain-more, word-plain}
use Rattle.core_top.specs.declared.answers.File.{File}
use Rattle.core_top.specs.declared.answers.File.TheVariants as files
use Rattle.core_top.specs.declared.answers.Reply.{Reply}
use Rattle.core_top.specs.declared.answers.Reply.TheVariants.{Usage, Unread, Bad, AcceptedCloses, AcceptedCannot, Refused, Wide, WidePivot, WideCommon, Spent}
use Rattle.core_top.specs.Answers.{word_of, fields_of}

-- the word of a file
file-plain : (file : File) → IsPlainField (word_of file)
file-plain files.Case = word-plain (codes "case") refl
file-plain files.Cert = word-plain (codes "cert") refl

-- a field and then two numbers
with-numbers : (first : List ℕ) (m n : ℕ) → IsPlainField first → IsPlainRow (first ∷ number_text (pos m) ∷ number_text (pos n) ∷ [])
with-numbers first m n plain =
    row-plain-more first _ plain (row-plain-more (number_text (pos m)) _ (number_text-plain (pos m)) (row-plain-one (number_text (pos n)) (number_text-plain (pos n))))

pub reply-plain : (reply : Reply) → IsPlainRow (fields_of reply)
reply-plain Usage = row-plain-one (codes "usage") (word-plain (codes "usage") refl)
reply-plain (Unread file) =
    row-plain-more (codes "fault") _ (word-plain (codes "fault") refl)
    (row-plain-more (codes "read") _ (word-plain (codes "read") refl) (row-plain-one (word_of file) (file-plain file)))
reply-plain (Bad file row code) = row-plain-more (codes "bad") _ (word-plain (codes "bad") refl) (with-numbers (word_of file) row code (file-plain file))
reply-plain AcceptedCloses = row-plain-more (codes "accepted") _ (word-plain (codes "accepted") refl) (row-plain-one (codes "closes") (word-plain (codes "closes") refl))
reply-plain AcceptedCannot = row-plain-more (codes "accepted") _ (word-plain (codes "accepted") refl) (row-plain-one (codes "cannot") (word-plain (codes "cannot") refl))
reply-plain (Refused condition place) = with-numbers (codes "refused") condition place (word-plain (codes "refused") refl)
reply-plain (Wide condition place) = row-plain-more (codes "wide") _ (word-plain (codes "wide") refl) (with-numbers (codes "check") condition place (word-plain (codes "check") refl))
reply-plain (WidePivot k) =
    row-plain-more (codes "wide") _ (word-plain (codes "wide") refl)
    (row-plain-more (codes "pivot") _ (word-plain (codes "pivot") refl) (row-plain-one (number_text (pos k)) (number_text-plain (pos k))))
reply-plain WideCommon = row-plain-more (codes "wide") _ (word-plain (codes "wide") refl) (row-plain-one (codes "common") (word-plain (codes "common") refl))
reply-plain (Spent budget) = row-plain-more (codes "spent") _ (word-plain (codes "spent") refl) (row-plain-one (number_text (pos budget)) (number_text-plain (pos budget)))

-- so are those of the line of a replay that leaves 128 bits
pub leaving-plain : (name : List ℕ) (day : ℕ) → IsName name → IsPlainRow (codes "wide" ∷ codes "report" ∷ name ∷ decimal day ∷ [])
leaving-plain name day is =
    row-plain-more (codes "wide") _ (word-plain (codes "wide") refl)
    (row-plain-more (codes "report") _ (word-plain (codes "report") refl) (row-plain-more name _ (is_name-plain name is) (row-plain-one (decimal day) (decimal-plain day))))
