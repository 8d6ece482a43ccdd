-- What the numbered names of a case are kept as: sets whose keys, in order, are the names and the lines of the case.
use Rattle.std.specs.Prelude.{◌≡◌, ℕ, List, map}
use Rattle.core_sums.specs.Places.{below}
use Rattle.core_book.specs.View.{CaseView, instrument, line, instrument_of}
use Rattle.core_model.specs.Closing.{line_count}
use Rattle.core_cert.specs.Written.{side_word}
use Rattle.core_cert.specs.Faults.{instrument_names, pool_names}
use Rattle.core_cert.specs.declared.names.LineKey.{LineKey}
use Rattle.core_cert.specs.declared.names.CaseNames.TheInside.{Inside}

-- the words of a line: its instrument's name and its side
abbrev pub line_words : CaseView → ℕ → List ℕ × List ℕ
line_words c l = ((instrument c (instrument_of c l)).name, side_word (line c l).side)

abbrev pub lines_words : CaseView → List (List ℕ × List ℕ)
lines_words c = map (line_words c) (below (line_count c))

abbrev pub key_words : LineKey → List ℕ × List ℕ
key_words k = (k.instrument.now, k.side.now)

pub record IsNumbered (a : Inside) : Type 0 where
  pub instruments : map (λ k. k.now) a.instruments.keys ≡ instrument_names a.case.now
  pub scenarios : map (λ k. k.now) a.scenarios.keys ≡ a.case.now.scenarios
  pub pools : map (λ k. k.now) a.pools.keys ≡ pool_names a.case.now
  pub lines : map key_words a.lines.keys ≡ lines_words a.case.now
