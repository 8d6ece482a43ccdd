use Rattle.std.proofs.Common.{◌≡◌, ◌++◌, map, take}
use Rattle.core_gen.proofs.record.push_words.Given as goal

abbrev pub invariant-loop-word : goal.invariant-loop-word
invariant-loop-word l = l.fields ≡ l.fn.fields ++ map (λ w. w.now) (take l.word-index l.words)
