-- The run from a dictionary comes to exactly one thing.
use Rattle.std.proofs.Common.{◌≡◌, ℕ, inl, inr, refl, sym, ◌∙◌, ap, subst, subst₂}
use Rattle.core_sums.specs.Widths.{most}
use Rattle.core_book.specs.View.{CaseView}
use Rattle.core_model.specs.declared.cert.Cert.{Cert}
use Rattle.core_dict.specs.Dictionary.{Dictionary}
use Rattle.core_rules.specs.Candidates.{Preference}
use Rattle.core_run.specs.Run.{Turn, Best, NoSolution, PivotOn, Pivots, run}
use Rattle.core_run.specs.Widths.{Outcome, Ended, TooWide, ComesTo}
use Rattle.core_run.specs.Widths as outcome
use Rattle.core_run.specs.Laws.{SomeOutcome, OneOutcome}
use Rattle.core_lp.specs.Placing.{closes_cert, cannot_cert}
use Rattle.core_margin.specs.Last.{IsCertOf, CertLeaves}
use Rattle.core_margin.specs.Outcomes.{MarginOutcome, Certificate, Common, Pivot, Spent}
use Rattle.core_margin.specs.Outcomes.{LeadsTo}
use Rattle.core_margin.specs.Laws.{SomeMargin, OneMargin}
use Rattle.core_margin.proofs.Deciding.{IsOrNot, cert_leaves}

-- ---- something
-- an end has a certificate
cert_of_end : (c : CaseView) (e : Dictionary) (t : Turn) → ¬ (Pivots t) → (cert : Cert)
    × IsCertOf c e t cert
cert_of_end c e Best n = (closes_cert c e, refl)
cert_of_end c e (NoSolution r) n = (cannot_cert c e r, refl)
cert_of_end c e (PivotOn r s) n = absurd (n tt)

module _ (c : CaseView) (better : Preference) (budget : ℕ) (d : Dictionary) where
  something : (o : Outcome) → ComesTo most better d budget o
      → (q : MarginOutcome) × LeadsTo c better budget d q
  something (Ended k t) h = by (cert_leaves most c (run better d k) t)
    where
      by : IsOrNot (CertLeaves most c (run better d k) t)
          → (q : MarginOutcome) × LeadsTo c better budget d q
      by (inl leaves) = (Common, record { pivots = k; turn = t; ended = h; leaves = leaves })
      by (inr fits) =
          let f = cert_of_end c (run better d k) t h.1.ends in (
            Certificate f.0,
            (
              run better d k,
              record { pivots = k; turn = t; ended = h; last = refl; fits = fits; is = f.1 },
            ),
          )
  something (TooWide k) h = (Pivot k, h)
  something outcome.Spent h = (Spent, h)

pub some_margin : SomeOutcome → SomeMargin
some_margin law c better budget d =
    let h = law most better d budget in something c better budget d h.0 h.1

-- ---- one thing
-- an end has one certificate
one_cert : (c : CaseView) (e : Dictionary) (t : Turn) (x y : Cert) → IsCertOf c e t x
    → IsCertOf c e t y → x ≡ y
one_cert c e Best x y h f = h ∙ sym f
one_cert c e (NoSolution r) x y h f = h ∙ sym f
one_cert c e (PivotOn r s) x y h f = absurd h

module _ (c : CaseView) (better : Preference) (budget : ℕ) (d : Dictionary) where
  -- what the run came to
  run_outcome : (o : MarginOutcome) → LeadsTo c better budget d o → Outcome
  run_outcome (Certificate cert) (e, h) = Ended h.pivots h.turn
  run_outcome Common h = Ended h.pivots h.turn
  run_outcome (Pivot k) h = TooWide k
  run_outcome Spent h = outcome.Spent

  run_comes : (o : MarginOutcome) (h : LeadsTo c better budget d o)
      → ComesTo most better d budget (run_outcome o h)
  unfolding run_outcome
  run_comes (Certificate cert) (e, h) = h.ended
  run_comes Common h = h.ended
  run_comes (Pivot k) h = h
  run_comes Spent h = h

  -- a fact of the dictionary and the turn at the end of one run, of the end of the other
  carried : (P : Dictionary → Turn → Type 0) (j k : ℕ) (s t : Turn) → Ended j s ≡ Ended k t
      → P (run better d j) s → P (run better d k) t
  carried P j k s t same h = subst₂ P (ap (run better d) j_is) t_is h
    where
      j_is : j ≡ k
      j_is = cc

      t_is : s ≡ t
      t_is = cc

  same : (o q : MarginOutcome) (h : LeadsTo c better budget d o) (f : LeadsTo c better budget d q)
      → run_outcome o h ≡ run_outcome q f → o ≡ q
  unfolding run_outcome
  same (Certificate x) (Certificate y) (e, h) (i, f) is =
      ap Certificate
      (one_cert c (run better d f.pivots) f.turn x y
      (carried (λ e t. IsCertOf c e t x) h.pivots f.pivots h.turn f.turn is (rw h.last at h.is))
      (rw f.last at f.is))
  same (Certificate x) Common (e, h) f is =
      absurd (h.fits
      (rw h.last
      (carried (CertLeaves most c) f.pivots h.pivots f.turn h.turn (sym is) f.leaves)))
  same (Certificate x) (Pivot k) h f e = cc
  same (Certificate x) Spent h f e = cc
  same Common (Certificate y) h (e, f) is =
      absurd (f.fits
      (rw f.last (carried (CertLeaves most c) h.pivots f.pivots h.turn f.turn is h.leaves)))
  same Common Common h f e = refl
  same Common (Pivot k) h f e = cc
  same Common Spent h f e = cc
  same (Pivot j) (Certificate y) h f e = cc
  same (Pivot j) Common h f e = cc
  same (Pivot j) (Pivot k) h f e = cc
  same (Pivot j) Spent h f e = cc
  same Spent (Certificate y) h f e = cc
  same Spent Common h f e = cc
  same Spent (Pivot k) h f e = cc
  same Spent Spent h f e = refl

pub one_margin : OneOutcome → OneMargin
one_margin law c better budget d o q h f =
    same c better budget d o q h f
    (law most better d budget (run_outcome c better budget d o h)
    (run_outcome c better budget d q f)
    (run_comes c better budget d o h) (run_comes c better budget d q f))
