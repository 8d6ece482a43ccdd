-- What is answered of a dictionary at which a case's run has ended.
use Rattle.std.proofs.Common.{◌≡◌, ℕ, ap, ap₂, sym, ◌∙◌, subst, Result, Err, IfOk, OnOk}
use Rattle.std.proofs.lemmas.Result.{IfOk-weaker, on_ok_weaker}
use Rattle.core_sums.specs.Widths.{most}
use Rattle.core_book.specs.View.{CaseView}
use Rattle.core_model.specs.declared.cert.Cert.{Cert}
use Rattle.core_dict.specs.Dictionary.{Dictionary}
use Rattle.core_duals.specs.Lists.{primal_of, duals_of, farkas_of, CommonLeaves}
use Rattle.core_duals.specs.Scaled.{IsOverCommon}
use Rattle.core_duals.specs.declared.scaled.Scaled.{Scaled}
use Rattle.core_duals.specs.declared.scaled.DualFault.{DualFault}
use Rattle.core_duals.specs.declared.scaled.DualFault.TheVariants as dual
use Rattle.core_run.specs.Run.{Best, NoSolution}
use Rattle.core_lp.specs.declared.certificate.Parts.TheVariants as parts
use Rattle.core_lp.specs.Placing.{closes_placed, cannot_placed, placed, PlacedLeaves, LossLeaves}
use Rattle.core_lp.specs.Placing.{ClosesLeaves, Primal, Duals, Loss}
use Rattle.core_margin.specs.Last.{IsCertOf, CertLeaves}
use Rattle.core_margin.proofs.Numbers.{scaled_is}

-- ---- with a solution
module _ (c : CaseView) (e : Dictionary) (p d : Scaled) (p_is : IsOverCommon (primal_of e) p)
    (d_is : IsOverCommon (duals_of e) d) (r : Result Cert DualFault) where
  pub best_is : IfOk r (λ cert. cert ≡ placed c (parts.Optimal p d)) → IfOk r (IsCertOf c e Best)
  best_is h =
      IfOk-weaker r (λ cert. cert ≡ placed c (parts.Optimal p d)) (IsCertOf c e Best)
      (λ cert is. is
      ∙ ap₂ (closes_placed c) (scaled_is (primal_of e) p p_is) (scaled_is (duals_of e) d d_is)) h

  pub best_kept : ¬ (CommonLeaves most (primal_of e)) → ¬ (CommonLeaves most (duals_of e))
      → OnOk r (¬ (PlacedLeaves most c (parts.Optimal p d))) → OnOk r (¬ (CertLeaves most c e Best))
  best_kept no_primal no_duals h = on_ok_weaker r none h
    where
      none : ¬ (PlacedLeaves most c (parts.Optimal p d)) → ClosesLeaves most c e → ⊥
      none stays (Primal l) = no_primal l
      none stays (Duals l) = no_duals l
      none stays (Loss l) =
          stays (subst (LossLeaves most c) (sym (scaled_is (primal_of e) p p_is)) l)

  pub best_wide : (r ≡ Err dual.TooWide → PlacedLeaves most c (parts.Optimal p d))
      → r ≡ Err dual.TooWide
      → CertLeaves most c e Best
  best_wide h is = Loss (subst (LossLeaves most c) (scaled_is (primal_of e) p p_is) (h is))

-- ---- with none
pub none_is : (c : CaseView) (e : Dictionary) (k : ℕ) (s : Scaled) → IsOverCommon (farkas_of e k) s
    → (r : Result Cert DualFault) → IfOk r (λ cert. cert ≡ placed c (parts.Cannot s))
    → IfOk r (IsCertOf c e (NoSolution k))
none_is c e k s is r h =
    IfOk-weaker r (λ cert. cert ≡ placed c (parts.Cannot s)) (IsCertOf c e (NoSolution k))
    (λ cert f. f ∙ ap (cannot_placed c) (scaled_is (farkas_of e k) s is)) h
