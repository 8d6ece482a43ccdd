use Rattle.std.proofs.Common.{◌≡◌, map}
use Rattle.core_sums.specs.Places.{below}
use Rattle.core_cert.specs.Numbered.{key_words, line_words}
use Rattle.core_cert.proofs.names.numbered_lines.Given as goal

abbrev pub invariant-loop-l : goal.invariant-loop-l
invariant-loop-l l = map key_words l.lines.keys ≡ map (line_words l.case) (below l.l)
