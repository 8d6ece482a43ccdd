use Rattle.std.proofs.Common.{◌≡◌, ℕ, ◌+◌, ◌<◌, List, sym, ap, ◌∙◌, subst, arith, rules}
use Rattle.std.proofs.lemmas.Int.{to_z-of_z}
use mir.Syntax.{w64}
use Rattle.fractions.specs.Fraction.{whole}
use Rattle.core_dict.specs.Programme.{entry}
use Rattle.core_dict.specs.Rows.{fraction_at}
use Rattle.core_dict.proofs.Reading.{more_pushed}
use Rattle.core_dict.proofs.fill.entries.Goals as goal

pub loop-j-preserved : goal.loop-j-preserved
loop-j-preserved g c = record {
  width = omega (arith, c.loop-j.invariant.width, c.in_ok-push.ensures.len, c.push.new.self.ok.0, c.loop-j.all.ok.0);
  entries = subst
      (λ (xs : List _). (k : ℕ) → k < c.loop-j.j + 1 → fraction_at g.E.Exact.value xs k
      ≡ whole (entry c.args.programme.now c.args.row k))
      (sym c.in_ok-push.ensures.items)
      (more_pushed g.E.Exact.value c.loop-j.all.items c.loop-j.j c.of_whole.result
      (λ k. whole (entry c.args.programme.now c.args.row k)) c.loop-j.invariant.width c.loop-j.invariant.entries
      (c.of_whole.ensures ∙ ap whole (to_z-of_z w64 c.entry.result (search rules) ∙ c.entry.ensures.entry)));
}
