-- Preferences that say the same of a programme's variables come to the same.
use Rattle.std.proofs.Common.{◌≡◌, ℕ, ◌+◌, ap, ap₂, sym, ◌∙◌, subst, subst₂, length}
use Rattle.std.proofs.lemmas.List.{length-map}
use Rattle.core_sums.specs.Widths.{most}
use Rattle.core_book.specs.View.{CaseView}
use Rattle.core_dict.specs.Dictionary.{Dictionary, AreNumbered}
use Rattle.core_dict.specs.Laws.{StartIsDictionary}
use Rattle.core_rules.specs.Candidates.{Preference, before, lower_variable}
use Rattle.core_rules.proofs.Choices.{pick_same}
use Rattle.core_run.specs.Choice.{is_negative, row_candidate}
use Rattle.core_run.specs.Run.{Pivots, run, turn, turn_from, turn_at}
use Rattle.core_run.specs.Widths.{TurnLeaves, LeavesAfter, FitsThrough, Outcome, Ended, TooWide}
use Rattle.core_run.specs.Widths.{ComesTo}
use Rattle.core_run.specs.Widths as outcome
use Rattle.core_run.specs.Laws.{AgreeTo, RunIsSame, RunIsDictionary, RunKeeps}
use Rattle.core_lp.specs.CaseProgramme.{columns, row_names, row_of}
use Rattle.core_lp.specs.Ranks.{variable_count, ranked, as_numbered}
use Rattle.core_lp.specs.Laws.{AsNumberedIsLeast}
use Rattle.core_margin.specs.Last.{start_of, IsCertOf, CertLeaves}
use Rattle.core_margin.specs.Outcomes.{MarginOutcome, Certificate, Common, Pivot, Spent}
use Rattle.core_margin.specs.Outcomes.{MarginComesTo}
use Rattle.core_margin.specs.Laws.{MarginIsSame, HouseOrderIsLeast}
use Rattle.core_margin.proofs.Programmes.{case_start}

module _ (start : StartIsDictionary) (runs : RunIsSame) (keeps : RunKeeps)
    (dictionary : RunIsDictionary) where
  module _ (c : CaseView) (better other : Preference)
      (agree : AgreeTo (variable_count c) better other) where
    agree_start : AgreeTo ((start_of c).cols + (start_of c).rows) better other
    agree_start =
        subst (λ (n : ℕ). AgreeTo (length (columns c) + n) better other)
        (sym (length-map (row_names c) (row_of c))) agree

    -- the same dictionary
    stands : (k : ℕ) → run better (start_of c) k ≡ run other (start_of c) k
    stands k = runs better other (start_of c) k (case_start start c).variables agree_start

    -- the same turn at it
    numbered : (k : ℕ) → AreNumbered (run other (start_of c) k)
        ((start_of c).cols + (start_of c).rows)
    numbered k =
        let s = keeps other (start_of c) k in
        subst (λ (n : ℕ). AreNumbered (run other (start_of c) k) n) (ap₂ ◌+◌ s.cols s.rows)
        (dictionary other (start_of c) k (case_start start c)).variables.numbered

    picks : (e : Dictionary) → AreNumbered e ((start_of c).cols + (start_of c).rows)
        → turn better e ≡ turn other e
    picks e n =
        ap (turn_from e)
        (pick_same better other (λ i. is_negative (e.value i)) (row_candidate e) e.rows
        (λ i j l m. agree_start (row_candidate e i) (row_candidate e j) (n.basic i l)
        (n.basic j m)))

    turns : (k : ℕ) → turn_at better (start_of c) k ≡ turn_at other (start_of c) k
    turns k = ap (turn better) (stands k) ∙ picks (run other (start_of c) k) (numbered k)

    -- so what is said of dictionaries and their turns
    leaves : (k : ℕ) → LeavesAfter most better (start_of c) k
        → LeavesAfter most other (start_of c) k
    leaves k h = subst₂ (TurnLeaves most) (stands k) (turns k) h

    unleaves : (k : ℕ) → LeavesAfter most other (start_of c) k
        → LeavesAfter most better (start_of c) k
    unleaves k h = subst₂ (TurnLeaves most) (sym (stands k)) (sym (turns k)) h

    fits : (k : ℕ) → FitsThrough most better (start_of c) k → FitsThrough most other (start_of c) k
    fits k h j l = (subst Pivots (turns j) (h j l).0, λ w. (h j l).1 (unleaves j w))

    comes : (budget : ℕ) (o : Outcome) → ComesTo most better (start_of c) budget o
        → ComesTo most other (start_of c) budget o
    comes budget (Ended k t) (l, h) =
        (l, record { fits = fits k h.fits; is = sym (turns k) ∙ h.is; ends = h.ends })
    comes budget (TooWide k) (l, h) = (
      l,
      record {
        before = h.before;
        number = h.number;
        fits = fits h.before h.fits;
        leaves = leaves h.before h.leaves;
      },
    )
    comes budget outcome.Spent h =
        record { fits = fits budget h.fits; goes_on = subst Pivots (turns budget) h.goes_on }

    margin_comes : (budget : ℕ) (o : MarginOutcome) → MarginComesTo c better budget o
        → MarginComesTo c other budget o
    margin_comes budget (Certificate cert) (e, h) = (
      e,
      record {
        pivots = h.pivots;
        turn = h.turn;
        ended = comes budget (Ended h.pivots h.turn) h.ended;
        last = h.last ∙ stands h.pivots;
        fits = h.fits;
        is = h.is;
      },
    )
    margin_comes budget Common h = record {
      pivots = h.pivots;
      turn = h.turn;
      ended = comes budget (Ended h.pivots h.turn) h.ended;
      leaves = subst (λ (e : Dictionary). CertLeaves most c e h.turn) (stands h.pivots) h.leaves;
    }
    margin_comes budget (Pivot k) h = comes budget (TooWide k) h
    margin_comes budget Spent h = comes budget outcome.Spent h

  pub margin_is_same : MarginIsSame
  margin_is_same c better other budget o agree = (
    margin_comes c better other agree budget o,
    margin_comes c other better (λ x y l m. sym (agree x y l m)) budget o,
  )

  pub house_order_is_least : AsNumberedIsLeast → HouseOrderIsLeast
  house_order_is_least law c budget o =
      margin_is_same c (before (ranked c as_numbered)) lower_variable budget o
      (λ x y l m. law c x y l m)
