-- What the closings of a line on a day cost, tier by tier, and the flows that are put one after the other.
use Rattle.std.proofs.Common.{◌≡◌, refl, sym, ◌∙◌, ap, subst, ℕ, suc, ◌<◌, arith, ℤ, pos, ◌+ℤ◌, ◌-ℤ◌, neg_ℤ, Bool, true, false, not, List, [], ◌∷◌, ◌++◌, append_assoc, length, map, if◌then◌else◌, Option, MatchOption}
use Rattle.std.proofs.lemmas.Int.{ints}
use Rattle.std.proofs.lemmas.Bool.Decides.{Decides-int_eq}
use Rattle.std.specs.Ordering.{int_eq}
use Rattle.core_sums.specs.Places.{below, days_to, each}
use Rattle.core_sums.specs.Widths.{any_leaves}
use Rattle.core_sums.proofs.Lists.{days_to-below}
use Rattle.core_sums.proofs.Joined.{each-days_to-more, each-map, map-filter}
use Rattle.core_sums.proofs.Leaving.{none-append, left-leaves, right-leaves, one-of-each}
use Rattle.core_book.specs.View.{CaseView, instrument_of, tiers, cost, pays}
use Rattle.core_model.specs.Closing.{Plan, kind_of, flow, cost_flow}
use Rattle.core_wide.specs.Steps.{Leaves, Stays, with_number}
use Rattle.core_wide.proofs.Adding.{plus-number}
use Rattle.core_replay.specs.Ledger.{is_costly, costly_tiers, sold_by, line_flows, flow_numbers}
use Rattle.core_replay.specs.Steps.{cost_flows, with_flows}
use Rattle.core_replay.specs.Answers.{StopsOn}
use Rattle.core_replay.specs.declared.fault.ReplayFault.{ReplayFault}
use Rattle.core_replay.specs.declared.fault.ReplayFault.TheVariants.{TooWide, NoMemory}
use Rattle.core_replay.proofs.ByPayDay.{with-none, with-more, pays-inside}
use Rattle.core_replay.proofs.LineFlows.{met}

-- a number that is taken off is one step of a sum
pub minus-number : (s x : ℤ) (r : Option ℤ) → MatchOption r (Leaves (s -ℤ x)) (λ w. (w ≡ s -ℤ x) × Stays (s -ℤ x)) → r ≡ with_number s (neg_ℤ x)
minus-number s x r e =
    let same : s -ℤ x ≡ s +ℤ neg_ℤ x = omega (arith, ints) in
    plus-number s (neg_ℤ x) r (subst (λ z. MatchOption r (Leaves z) (λ w. (w ≡ z) × Stays z)) same e)

-- a fault of some numbers is one of more numbers
pub stops-more : (k t : ℕ) (xs ys : List ℤ) (fault : ReplayFault) → (any_leaves xs ≡ true → any_leaves ys ≡ true) → StopsOn k t xs fault → StopsOn k t ys fault
stops-more k t xs ys (TooWide scenario day) more stops = (stops.0, stops.1, more stops.2)
stops-more k t xs ys NoMemory more stops = tt

-- ---- one tier

-- a tier without a cost has no flow, and one with a cost has one
pub free-none : (c : CaseView) (a : Plan) (l t j : ℕ) → cost c (instrument_of c l) j ≡ pos 0 → cost_flows c a l t j ≡ []
free-none c a l t j e = ap (λ z. if not (int_eq z (pos 0)) then cost_flow c a l t j ∷ [] else []) e

pub costly-one : (c : CaseView) (a : Plan) (l t j : ℕ) → (cost c (instrument_of c l) j ≡ pos 0 → ⊥) → cost_flows c a l t j ≡ cost_flow c a l t j ∷ []
costly-one c a l t j some = by_test (int_eq (cost c (instrument_of c l) j) (pos 0)) refl
  where
    by_test : (b : Bool) → int_eq (cost c (instrument_of c l) j) (pos 0) ≡ b → (if not b then cost_flow c a l t j ∷ [] else []) ≡ cost_flow c a l t j ∷ []
    by_test true e = absurd (some ((Decides-int_eq (cost c (instrument_of c l) j) (pos 0)).0 e))
    by_test false e = refl

-- ---- all tiers

abbrev costs_to : CaseView → Plan → ℕ → ℕ → ℕ → List ℤ
costs_to c a l t n = each (days_to n) (cost_flows c a l t)

abbrev costs : CaseView → Plan → ℕ → ℕ → List ℤ
costs c a l t = map (cost_flow c a l t) (costly_tiers c (instrument_of c l))

costs-all : (c : CaseView) (a : Plan) (l t : ℕ) → costs c a l t ≡ costs_to c a l t (tiers c)
costs-all c a l t = map-filter (is_costly c (instrument_of c l)) (cost_flow c a l t) (days_to (tiers c))

costs-none : (c : CaseView) (a : Plan) (l t : ℕ) → costs_to c a l t 0 ≡ []
unfolding days_to each
costs-none c a l t = refl

costs-more : (c : CaseView) (a : Plan) (l t n m : ℕ) → m ≡ suc n → costs_to c a l t m ≡ costs_to c a l t n ++ cost_flows c a l t m
costs-more c a l t n m e =
    subst (λ (k : ℕ). costs_to c a l t k ≡ costs_to c a l t n ++ cost_flows c a l t k) (sym e) (each-days_to-more n (cost_flows c a l t))

-- the costs of the first n tiers have been put on the list of their pay day
pub record AreCosts (c : CaseView) (a : Plan) (l t n : ℕ) (old rows : List (List ℤ)) : Type 0 where
  pub payable : rows ≡ with_flows old (pays c (instrument_of c l) t) (costs_to c a l t n)
  pub stays : any_leaves (costs_to c a l t n) ≡ false

pub costs-start : (c : CaseView) (a : Plan) (l t : ℕ) (payable : List (List ℤ)) → AreCosts c a l t 0 payable payable
costs-start c a l t payable = record {
  payable = sym (ap (with_flows payable (pays c (instrument_of c l) t)) (costs-none c a l t) ∙ with-none payable (pays c (instrument_of c l) t));
  stays = ap any_leaves (costs-none c a l t);
}

pub costs-step : (c : CaseView) (a : Plan) (l t n m : ℕ) (old before after : List (List ℤ)) → length old ≡ suc c.last → m ≡ suc n → AreCosts c a l t n old before
    → after ≡ with_flows before (pays c (instrument_of c l) t) (cost_flows c a l t m) → any_leaves (cost_flows c a l t m) ≡ false → AreCosts c a l t m old after
costs-step c a l t n m old before after long next is put stays =
    let day = pays c (instrument_of c l) t in
    let whole = costs-more c a l t n m next in
    record {
      payable = put
          ∙ ap (λ ds. with_flows ds day (cost_flows c a l t m)) is.payable
          ∙ with-more old day (costs_to c a l t n) (cost_flows c a l t m) (pays-inside c l t (length old) long)
          ∙ ap (with_flows old day) (sym whole);
      stays = ap any_leaves whole ∙ none-append (costs_to c a l t n) (cost_flows c a l t m) is.stays stays;
    }

pub costs-put : (c : CaseView) (a : Plan) (l t n : ℕ) (old payable : List (List ℤ)) → n ≡ tiers c → AreCosts c a l t n old payable
    → (payable ≡ with_flows old (pays c (instrument_of c l) t) (costs c a l t)) × (any_leaves (costs c a l t) ≡ false)
costs-put c a l t n old payable all is =
    let whole : costs_to c a l t n ≡ costs c a l t = ap (λ (m : ℕ). costs_to c a l t m) all ∙ sym (costs-all c a l t) in
    (is.payable ∙ ap (with_flows old (pays c (instrument_of c l) t)) whole, ap any_leaves (sym whole) ∙ is.stays)

pub cost-leaves : (c : CaseView) (a : Plan) (l t n m : ℕ) → n < tiers c → m ≡ suc n → any_leaves (cost_flows c a l t m) ≡ true → any_leaves (costs c a l t) ≡ true
cost-leaves c a l t n m under next out =
    ap any_leaves (costs-all c a l t ∙ ap (λ zs. each zs (cost_flows c a l t)) (days_to-below (tiers c)) ∙ each-map (below (tiers c)) suc (cost_flows c a l t))
    ∙ one-of-each (tiers c) n (λ i. cost_flows c a l t (suc i)) under (ap (λ (j : ℕ). any_leaves (cost_flows c a l t j)) (sym next) ∙ out)

-- ---- a line's flows

-- what is met on the way to the mark or sale, and then the costs
numbers-apart : (c : CaseView) (a : Plan) (k l t : ℕ) → flow_numbers c a k t l ≡ met c a k l t ++ costs c a l t
numbers-apart c a k l t = sym (append_assoc (sold_by (kind_of c l) c a t l) (flow c a k l t ∷ []) (costs c a l t))

pub flows-stay : (c : CaseView) (a : Plan) (k l t : ℕ) → any_leaves (met c a k l t) ≡ false → any_leaves (costs c a l t) ≡ false
    → any_leaves (flow_numbers c a k t l) ≡ false
flows-stay c a k l t e f = ap any_leaves (numbers-apart c a k l t) ∙ none-append (met c a k l t) (costs c a l t) e f

pub met-leaves : (c : CaseView) (a : Plan) (k l t : ℕ) → any_leaves (met c a k l t) ≡ true → any_leaves (flow_numbers c a k t l) ≡ true
met-leaves c a k l t out = ap any_leaves (numbers-apart c a k l t) ∙ left-leaves (met c a k l t) (costs c a l t) out

pub costs-leave : (c : CaseView) (a : Plan) (k l t : ℕ) → any_leaves (costs c a l t) ≡ true → any_leaves (flow_numbers c a k t l) ≡ true
costs-leave c a k l t out = ap any_leaves (numbers-apart c a k l t) ∙ right-leaves (met c a k l t) (costs c a l t) out

-- the mark or sale is put, and then the costs
pub flows-put : (c : CaseView) (a : Plan) (k l t : ℕ) (old before after : List (List ℤ)) (z : ℤ) → length old ≡ suc c.last
    → before ≡ with_flows old (pays c (instrument_of c l) t) (z ∷ []) → z ≡ flow c a k l t
    → after ≡ with_flows before (pays c (instrument_of c l) t) (costs c a l t)
    → after ≡ with_flows old (pays c (instrument_of c l) t) (line_flows c a k l t)
flows-put c a k l t old before after z long first value second =
    let day = pays c (instrument_of c l) t in
    second
    ∙ ap (λ ds. with_flows ds day (costs c a l t)) (first ∙ ap (λ w. with_flows old day (w ∷ [])) value)
    ∙ with-more old day (flow c a k l t ∷ []) (costs c a l t) (pays-inside c l t (length old) long)
