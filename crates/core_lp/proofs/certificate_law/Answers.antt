use Rattle.core_check.proofs.Showing.{showing_is_valid}
use Rattle.core_lp.specs.Placing.{closes_cert, cannot_cert}
use Rattle.core_lp.proofs.Best.{best-shows}
use Rattle.core_lp.proofs.Refusals.{refusal-shows}
use Rattle.core_lp.proofs.certificate_law.Goals as goal

pub returns : goal.returns
returns c = record {
  best = λ case e is of costs values.
      let shown = best-shows c.list_law.ensures c.weight_laws.ensures.costs case is e of costs values in
      (shown, (showing_is_valid case (closes_cert case e) is shown).0);
  no_solution = λ case e r is of cannot.
      let shown = refusal-shows c.list_law.ensures c.weight_laws.ensures.rows case is e r of cannot in
      (shown, (showing_is_valid case (cannot_cert case e r) is shown).0);
}
