-- The dictionaries of a run of a case's programme, and the certificate of the last one.
use Rattle.std.specs.Prelude.{◌≡◌, ℕ}
use Rattle.core_book.specs.View.{CaseView}
use Rattle.core_model.specs.declared.cert.Cert.{Cert}
use Rattle.core_dict.specs.Dictionary.{Dictionary, IsDictionary, start, CostsNotNegative}
use Rattle.core_dict.specs.Laws.{IsOf}
use Rattle.core_run.specs.declared.end.End.{End}
use Rattle.core_run.specs.declared.end.End.TheVariants as end
use Rattle.core_run.specs.Run.{Turn, Best, NoSolution, PivotOn}
use Rattle.core_run.specs.Laws.{TurnSays}
use Rattle.core_lp.specs.CaseProgramme.{programme_of}
use Rattle.core_lp.specs.Placing.{closes_cert, cannot_cert, ClosesLeaves, CannotLeaves}

-- the dictionary that the run of a case's programme starts from
abbrev pub start_of : CaseView → Dictionary
start_of c = start (programme_of c)

-- the turn with which a run ended
abbrev pub turn_of : End → Turn
turn_of (end.Optimal k) = Best
turn_of (end.Cannot r k) = NoSolution r

-- after how many pivots
abbrev pub pivots_of : End → ℕ
pivots_of (end.Optimal k) = k
pivots_of (end.Cannot r k) = k

-- a dictionary of a case's programme from which a run may go on: no cost of it is negative
pub record IsStanding (c : CaseView) (d : Dictionary) : Type 0 where
  pub dictionary : IsDictionary d
  pub of : IsOf (programme_of c) d
  pub costs : CostsNotNegative d

-- a dictionary of a case's programme without a negative cost, of which a turn says the truth
pub record IsReached (c : CaseView) (e : Dictionary) (t : Turn) : Type 0 where
  pub of : IsOf (programme_of c) e
  pub costs : CostsNotNegative e
  pub says : TurnSays e t

-- a certificate is that of a run's end at its last dictionary; a turn that pivots has none
abbrev pub IsCertOf : CaseView → Dictionary → Turn → Cert → Type 0
IsCertOf c e Best cert = cert ≡ closes_cert c e
IsCertOf c e (NoSolution r) cert = cert ≡ cannot_cert c e r
IsCertOf c e (PivotOn r s) cert = ⊥

-- a number that it is made from is above a greatest number
abbrev pub CertLeaves : ℕ → CaseView → Dictionary → Turn → Type 0
CertLeaves most c e Best = ClosesLeaves most c e
CertLeaves most c e (NoSolution r) = CannotLeaves most e r
CertLeaves most c e (PivotOn r s) = ⊥
