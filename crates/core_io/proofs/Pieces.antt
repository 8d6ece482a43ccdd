-- One more piece of the bytes: of a text that is written, and of bytes that are read.
use Rattle.std.proofs.Common.{◌≡◌, refl, sym, ℕ, ◌+◌, ◌-◌, ◌≤◌, ◌<◌, List, [], ◌∷◌, ◌++◌, true, length, take, drop, Option, None, Some, IfSome, append_assoc, append-nil, rules, ap, ◌∙◌, subst, length-append}
use Rattle.std.proofs.Math.Seq.{take-add}
use Rattle.std.proofs.lemmas.List.{take_rest, length-take-le, take-append-le}
use Rattle.core_io.specs.Causes.{GivesIfTold}
use Rattle.core_io.specs.Passed.{Passed, passed, all_bytes, InARow, none, one_more}
use Rattle.core_io.specs.States.{ShelfState, SinkState, Gave, Began, ReadWhole, Writes}

-- after k bytes of the text, n bytes of the rest make k + n bytes of it
pub Writes-piece : (a b c : SinkState) (text : List ℕ) (k n : ℕ) → Writes a b (take k text) → Writes b c (take n (take (length text - k) (drop k text))) → Writes a c (take (k + n) text)
Writes-piece a b c text k n p q =
    let taken : c.held ≡ b.held ++ take n (drop k text) = rw take_rest at q in
    rw (take-add, taken, p) (append_assoc a.held (take k text) (take n (drop k text)))

-- one piece more
pub all_bytes-more : (pieces : List Passed) (piece : Passed) → all_bytes (pieces ++ piece ∷ []) ≡ all_bytes pieces ++ piece.bytes
all_bytes-more [] piece = grind (rules, append-nil)
all_bytes-more (first ∷ pieces) piece = ap (λ w. first.bytes ++ w) (all_bytes-more pieces piece) ∙ sym (append_assoc first.bytes (all_bytes pieces) piece.bytes)

-- no read yet, and one read more
pub Began-none : (a : ShelfState) (name all : List ℕ) → length all ≡ 0 → Began a a name all
Began-none a name [] e = record { reads = []; made = sym (append-nil a.reads); in_a_row = none }
Began-none a name (byte ∷ all) e = absurd cc

pub Began-more : (a b c : ShelfState) (name bytes : List ℕ) (read : Passed) → Began a b name bytes → Gave b c read → read.name ≡ name → read.at ≡ length bytes → Began a c name (bytes ++ read.bytes)
Began-more a b c name bytes read began gave same at = record {
  reads = began.reads ++ read ∷ [];
  made = gave ∙ ap (λ w. w ++ read ∷ []) began.made ∙ append_assoc a.reads began.reads (read ∷ []);
  in_a_row = one_more began.reads bytes read began.in_a_row same at;
}

pub Began-ended : (a b c : ShelfState) (name bytes : List ℕ) (read : Passed) → Began a b name bytes → Gave b c read → read.name ≡ name → read.at ≡ length bytes → read.has_room ≡ true → read.bytes ≡ []
    → ReadWhole a c name bytes
Began-ended a b c name bytes read began gave same at room nothing = record {
  reads = began.reads ++ read ∷ [];
  made = gave ∙ ap (λ w. w ++ read ∷ []) began.made ∙ append_assoc a.reads began.reads (read ∷ []);
  whole = record { before = began.reads; last = read; are = refl; in_a_row = began.in_a_row; same_name = same; at_their_end = at; had_room = room; gave_none = nothing };
}

-- the first bytes, and n more of the bytes from there on, are the first bytes again
IfSome-piece : (told : Option (List ℕ)) (all buffer : List ℕ) (n : ℕ) → IfSome told (λ bytes. all ≡ take (length all) bytes) → GivesIfTold told (length all) n buffer → IfSome told (λ bytes. all ++ take n buffer ≡ take (length all + n) bytes)
IfSome-piece None all buffer n p q = tt
IfSome-piece (Some bytes) all buffer n p q =
    rw take-add (ap (λ w. w ++ take n buffer) p ∙ ap (λ w. take (length all) bytes ++ w) q.bytes_are)

-- what was read is still the first bytes after one more read
pub read_piece : (told now : Option (List ℕ)) (old new buffer rest : List ℕ) (at n : ℕ) → now ≡ told → at ≡ length old → new ≡ old ++ take n (buffer ++ rest) → n ≤ length buffer → IfSome told (λ bytes. old ≡ take (length old) bytes) → GivesIfTold now at n buffer → IfSome told (λ bytes. new ≡ take (length new) bytes)
read_piece told now old new buffer rest at n same place more within p q =
    let told_gives = subst (λ (t : Option (List ℕ)). GivesIfTold t at n buffer) same q in
    let gives = subst (λ (k : ℕ). GivesIfTold told k n buffer) place told_gives in
    let grown : new ≡ old ++ take n buffer = more ∙ ap (λ w. old ++ w) (take-append-le n buffer rest within) in
    let size : length new ≡ length old + n = ap length grown ∙ length-append old (take n buffer) ∙ ap (λ k. length old + k) (length-take-le n buffer within) in
    rw (size, grown) (IfSome-piece told old buffer n p gives)

-- and what the reads gave so far
pub began_piece : (a b c : ShelfState) (name old new buffer rest : List ℕ) (at n : ℕ) → at ≡ length old → new ≡ old ++ take n (buffer ++ rest) → n ≤ length buffer → Began a b name old → Gave b c (passed name at buffer n) → Began a c name new
began_piece a b c name old new buffer rest at n place more within began gave =
    rw (more ∙ ap (λ w. old ++ w) (take-append-le n buffer rest within)) (Began-more a b c name old (passed name at buffer n) began gave refl place)
