-- The place of words among keys that are seen by their words.
use Rattle.std.proofs.Common.{◌≡◌, sym, ◌∙◌, ap, ℕ, Bool, ◌&&◌, not, List, length, map, position, Some, None}
use Rattle.std.specs.Str.{bytes_eq}
use Rattle.std.specs.List.{prefix_len, position_or_len}
use Rattle.core_sums.specs.Places.{below}
use Rattle.core_rows.specs.Names.{Record, field}
use Rattle.core_rows.proofs.NamePlaces.{position-here, position-past, prefix_len-map}
use Rattle.core_book.specs.View.{CaseView}
use Rattle.core_model.specs.Closing.{line_count}
use Rattle.core_cert.specs.Faults.{line_named}
use Rattle.core_cert.specs.Numbered.{key_words, line_words, lines_words}
use Rattle.core_cert.specs.declared.names.LineKey.{LineKey}

-- whether two words are those of a key
abbrev pub same_words : List ℕ × List ℕ → List ℕ × List ℕ → Bool
same_words a b = bytes_eq a.0 b.0 && bytes_eq a.1 b.1

-- the line that a record names is the place of its words among those of all lines
line-place : (c : CaseView) (r : Record) (key : LineKey) (keys : List LineKey) → key.instrument.now ≡ field r 1 → key.side.now ≡ field r 2 → map key_words keys ≡ lines_words c
    → position_or_len (λ k. same_words (key_words key) (key_words k)) keys ≡ line_named c r
line-place c r key keys first second are =
    sym (prefix_len-map (λ w. not (same_words (key_words key) w)) key_words keys)
    ∙ ap (prefix_len (λ w. not (same_words (key_words key) w))) are
    ∙ prefix_len-map (λ w. not (same_words (key_words key) w)) (line_words c) (below (line_count c))
    ∙ ap (λ word. prefix_len (λ l. not (bytes_eq word (line_words c l).0 && bytes_eq key.side.now (line_words c l).1)) (below (line_count c))) first
    ∙ ap (λ word. prefix_len (λ l. not (bytes_eq (field r 1) (line_words c l).0 && bytes_eq word (line_words c l).1)) (below (line_count c))) second

pub line-found : (c : CaseView) (r : Record) (key : LineKey) (keys : List LineKey) (l : ℕ) → key.instrument.now ≡ field r 1 → key.side.now ≡ field r 2 → map key_words keys ≡ lines_words c
    → position (λ k. same_words (key_words key) (key_words k)) keys ≡ Some l → l ≡ line_named c r
line-found c r key keys l first second are e = position-here (λ k. same_words (key_words key) (key_words k)) keys l e ∙ line-place c r key keys first second are

pub line-missing : (c : CaseView) (r : Record) (key : LineKey) (keys : List LineKey) → key.instrument.now ≡ field r 1 → key.side.now ≡ field r 2 → map key_words keys ≡ lines_words c
    → position (λ k. same_words (key_words key) (key_words k)) keys ≡ None → length keys ≡ line_named c r
line-missing c r key keys first second are e = position-past (λ k. same_words (key_words key) (key_words k)) keys e ∙ line-place c r key keys first second are
