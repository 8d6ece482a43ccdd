-- The dictionaries of a run of a case's programme, and the certificates of those at which it ends.
use Rattle.std.proofs.Common.{ℕ, true, sym}
use Rattle.core_book.specs.View.{CaseView}
use Rattle.core_book.specs.WellFormed.{IsCase}
use Rattle.core_dict.specs.Dictionary.{Dictionary, start}
use Rattle.core_dict.specs.Laws.{StartIsDictionary, StartCostsNotNegative}
use Rattle.core_dict.proofs.Kept.{Keeps_trans}
use Rattle.core_run.specs.Run.{Best, NoSolution, PivotOn, run}
use Rattle.core_run.specs.Laws.{TurnIsSound, RunKeeps, RunIsDictionary, CostsStay}
use Rattle.core_lp.specs.CaseProgramme.{programme_of}
use Rattle.core_lp.specs.Laws.{BestIsValid, NoSolutionIsValid}
use Rattle.core_margin.specs.Last.{start_of}
use Rattle.core_margin.specs.Laws.{StartStands, RunStands, RunReaches, CertIsValid, MarginIsValid}
use Rattle.core_margin.proofs.Programmes.{case_start}

-- ---- from where a run may go on
module _ (keeps : RunKeeps) (dictionary : RunIsDictionary) (stay : CostsStay) where
  pub start_stands : StartIsDictionary → StartCostsNotNegative → StartStands
  unfolding run
  start_stands is_dictionary costs c =
      let is = case_start is_dictionary c in
      record {
        dictionary = is;
        of = record { keeps = keeps (λ x y. true) (start_of c) 0; variables = is.variables };
        costs = costs (programme_of c);
      }

  pub run_stands : RunStands
  run_stands c better d k h =
      let is = dictionary better d k h.dictionary in
      record {
        dictionary = is;
        of = record {
          keeps = Keeps_trans (start_of c) d (run better d k) h.of.keeps (keeps better d k);
          variables = is.variables;
        };
        costs = stay better d k h.costs;
      }

pub run_reaches : RunStands → TurnIsSound → RunReaches
run_reaches stands sound c better d k h =
    let s = stands c better d k h in
    record { of = s.of; costs = s.costs; says = sound better (run better d k) }

-- ---- the certificate of a dictionary at which it ends
pub cert_is_valid : BestIsValid → NoSolutionIsValid → CertIsValid
cert_is_valid best no_solution c e Best cert kept h is =
    rw is (best c e kept h.of h.costs h.says)
cert_is_valid best no_solution c e (NoSolution r) cert kept h is =
    rw is
    (no_solution c e r kept h.of
    (record { within = h.says.0; value = h.says.1; entries = h.says.2 }))
cert_is_valid best no_solution c e (PivotOn r s) cert kept h is = absurd is

pub margins_valid : StartStands → RunReaches → CertIsValid → MarginIsValid
margins_valid start reaches valid c better budget cert kept (e, h) =
    valid c e h.turn cert kept
    (rw (h.last, sym h.ended.1.is) (reaches c better (start_of c) h.pivots (start c))) h.is
