-- Sound rows that state a certificate are read as this certificate.
use Rattle.std.proofs.Common.{◌≡◌, ◌∷◌, ◌∙◌, [], ℕ, ◌<◌, ℤ, pos, List, length, Bool, true, false, None, Ok, refl, sym, ap, codes, arith}
use Rattle.std.specs.List.{All}
use Rattle.std.proofs.lemmas.Bool.{both_ways}
use Rattle.std.proofs.lemmas.List.{ext_get_or, length-map}
use Rattle.std.proofs.lemmas.List.Elements.{All-cons}
use Rattle.core_sums.specs.Places.{at, below}
use Rattle.core_sums.proofs.Lists.{get_or-below, length-below}
use Rattle.core_rows.specs.Names.{Record}
use Rattle.core_rows.specs.Written.{IsPlainField, IsPlainRow, rows_text}
use Rattle.core_rows.proofs.Plain.{row-plain-more, row-plain-one, word-plain}
use Rattle.core_rows.proofs.ReadBack.{rows-read}
use Rattle.core_book.specs.View.{CaseView, is_tiered}
use Rattle.core_cert.specs.Written.{first_record, version_word}
use Rattle.core_model.specs.declared.cert.Calendar.{Calendar}
use Rattle.core_cert.specs.declared.kinds.RecordKind.{RecordKind}
use Rattle.core_cert.specs.declared.kinds.RecordKind.TheVariants.{Cert, Cannot, End}
use Rattle.core_cert.specs.Kinds.{is_kind}
use Rattle.core_cert.specs.Faults.{first_fault}
use Rattle.core_rows.specs.FirstFault.{unless_faulty}
use Rattle.core_cert.specs.Codes.{code_of}
use Rattle.core_cert.specs.Stated.{cert_of, cert_of_bytes, cert_of_records, number_at, numbers_of, places_of}
use Rattle.core_cert.proofs.RoundTripOrder.{HasKind, can_follow, kind-is, same_kind}
use Rattle.core_cert.proofs.RoundTripSound.{AreSound, last_after, sound_text}
use Rattle.core_cert.proofs.RoundTripBlocks.{IsAfter, IsGood, States, good-sound, is_at, states-number}
use Rattle.core_cert.proofs.RoundTripRest.{IsRest}
use Rattle.core_model.specs.declared.cert.Weights as weights
use Rattle.core_model.specs.declared.cert.Cert as certs

-- sound rows that state a certificate are read as it
read-back : (c : CaseView) (rs : List Record) (cert : certs.Cert) → All IsPlainRow rs → first_fault c rs ≡ None → cert_of c rs ≡ cert → cert_of_bytes c (rows_text rs) ≡ Ok cert
unfolding cert_of_bytes
read-back c rs cert plain sound is = ap (cert_of_records c) (rows-read rs plain) ∙ ap (λ f. unless_faulty code_of f (cert_of c rs)) sound ∙ ap Ok is

-- a list of so many numbers, each of which is stated, is stated
pub numbers-stated : (c : CaseView) (rs : List Record) (kind : RecordKind) (xs : List ℤ) → length xs ≡ places_of c kind
    → ((p : ℕ) → p < places_of c kind → States (is_at c kind p) rs (at xs p)) → numbers_of c rs kind ≡ xs
numbers-stated c rs kind xs size stated = ext_get_or (pos 0) (numbers_of c rs kind) xs (sized ∙ sym size) same
  where
    sized : length (numbers_of c rs kind) ≡ places_of c kind
    sized = length-map (below (places_of c kind)) (number_at c rs kind) ∙ length-below (places_of c kind)

    same : (p : ℕ) → p < length (numbers_of c rs kind) → at (numbers_of c rs kind) p ≡ at xs p
    same p under =
        let small : p < places_of c kind = omega (arith, under, sized) in
        get_or-below (places_of c kind) p (number_at c rs kind) (pos 0) small ∙ states-number c kind p rs (at xs p) (stated p small)

-- weights and calendars with the same parts
pub same-weights : (w : weights.Weights) (den : ℤ) (scenario limit pool full : List ℤ) → den ≡ w.den → scenario ≡ w.scenario → limit ≡ w.limit → pool ≡ w.pool → full ≡ w.full
    → (let v : weights.Weights = record { den = den; scenario = scenario; limit = limit; pool = pool; full = full } in v ≡ w)
same-weights w den scenario limit pool full a b c d e = rw (a, b, c, d, e) refl

pub same-calendar : (x : Calendar) (den : ℤ) (amounts : List ℤ) → den ≡ x.den → amounts ≡ x.amounts → (let v : Calendar = record { den = den; amounts = amounts } in v ≡ x)
same-calendar x den amounts a b = rw (a, b) refl

-- the first record is plain
pub version-plain : (tiered : Bool) → IsPlainField (version_word tiered)
version-plain true = word-plain (codes "2") refl
version-plain false = word-plain (codes "1") refl

pub first-plain : (c : CaseView) → IsPlainRow (first_record c)
first-plain c =
    let version = version-plain (is_tiered c) in
    row-plain-more (codes "cert") (version_word (is_tiered c) ∷ []) (word-plain (codes "cert") refl) (row-plain-one (version_word (is_tiered c)) version)

-- records after the first two, from a second one that is sound
pub whole-read : (c : CaseView) (refusing : Bool) (second next : RecordKind) (r : Record) (z : ℤ) (rs : List Record) (cert : certs.Cert) → is_kind Cannot r ≡ refusing
    → can_follow false Cert second ≡ true → same_kind second Cert ≡ false → can_follow refusing second next ≡ true → same_kind next second ≡ false
    → IsGood c second r 0 z → IsRest c refusing next rs → cert_of c (first_record c ∷ r ∷ rs) ≡ cert
    → cert_of_bytes c (rows_text (first_record c ∷ r ∷ rs)) ≡ Ok cert
whole-read c refusing second next r z rs cert form follows differs passes other good rest is =
    read-back c (first_record c ∷ r ∷ rs) cert
    (All-cons IsPlainRow (first_record c) (r ∷ rs) (first-plain c) (All-cons IsPlainRow r rs good.plain rest.plain))
    (sound_text c refusing r rs form (good-sound c false second 0 z (first_record c) r good after_first) later.0 later.1) is
  where
    after_first : IsAfter c false second 0 (first_record c)
    after_first = record { last = Cert; is = refl; follows = follows; low = λ same. absurd (both_ways (same_kind second Cert) differs same) }

    not_next : is_kind next r ≡ false
    not_next = kind-is next second r good.is ∙ other

    later : AreSound c refusing r rs × HasKind End (last_after r rs)
    later = rest.sound r (record { last = second; is = good.is; follows = passes; low = λ same. absurd (both_ways (is_kind next r) not_next same) })
