-- The row so far, after one more row.
use Rattle.std.proofs.Common.{◌≡◌, ap, sym, ◌∙◌, ℕ, ◌+◌, ◌<◌, Bool, true, false, Option, None, Some, subst}
use Rattle.std.proofs.Common.{ap₂, arith}
use Rattle.fractions.specs.Fraction.{Fraction}
use Rattle.exact_frac.specs.Value128.{value128}
use Rattle.core_dict.specs.Dictionary.{Dictionary, IsDictionary}
use Rattle.core_rules.specs.Candidates.{Candidate, Preference, RuleView, IsRanked}
use Rattle.core_rules.specs.Rules.{candidate_of}
use Rattle.core_rules.specs.declared.cand.Cand.{Cand}
use Rattle.core_run.specs.Choice.{is_negative, row_candidate}
use Rattle.core_run.specs.SoFar.{IsPickedAt, IsRowSoFar}
use Rattle.core_run.specs.Ranked.{AreRanked}
use Rattle.core_run.specs.declared.leaving.RowSoFar.{RowSoFar}
use Rattle.core_run.proofs.Picks.{none_more, passed_over, first_picked, preferred, not_preferred}

-- what the test of a fraction says of another that is the same
pub tested : (q r : Fraction) (t b : Bool) → t ≡ is_negative q → q ≡ r → t ≡ b → is_negative r ≡ b
tested q r t b e f h = ap is_negative (sym f) ∙ sym e ∙ h

-- a variable and a value are those of a row
pub row_is : (d : Dictionary) (i : ℕ) (x : Cand) (q : Fraction) → x.var ≡ d.basic i → value128 x.value ≡ q
    → q ≡ d.value i → candidate_of x ≡ row_candidate d i
row_is d i x q e f h =
    let make : ℕ → Fraction → Candidate = λ v q. record { var = v; value = q } in ap₂ make e (f ∙ h)

module _ (better : Preference) (d : Dictionary) (n : ℕ) where
  abbrev passes : ℕ → Bool
  passes i = is_negative (d.value i)

  -- a row whose value is not negative changes nothing
  pub row_passed : (so_far : Option RowSoFar) → is_negative (d.value n) ≡ false → IsRowSoFar better d n so_far
      → IsRowSoFar better d (n + 1) so_far
  row_passed None e h = none_more better passes (row_candidate d) n e h
  row_passed (Some k) e h = passed_over better passes (row_candidate d) n k.row (candidate_of k.cand) e h

  -- the first one is the one so far
  pub row_first : (so_far : Option RowSoFar) (x : Cand) → is_negative (d.value n) ≡ true
      → candidate_of x ≡ row_candidate d n → IsRowSoFar better d n so_far → so_far ≡ None
      → IsPickedAt better passes (row_candidate d) (n + 1) n (candidate_of x)
  row_first so_far x e is h f =
      first_picked better passes (row_candidate d) n (candidate_of x) e (subst (IsRowSoFar better d n) f h) is

  -- what is known of one so far
  pub row_at : (so_far : Option RowSoFar) (k : RowSoFar) → IsRowSoFar better d n so_far → so_far ≡ Some k
      → IsPickedAt better passes (row_candidate d) n k.row (candidate_of k.cand)
  row_at so_far k h e = subst (IsRowSoFar better d n) e h

  module _ (so_far : Option RowSoFar) (k : RowSoFar) (x : Cand) (e : is_negative (d.value n) ≡ true)
      (is : candidate_of x ≡ row_candidate d n) (h : IsRowSoFar better d n so_far) (f : so_far ≡ Some k) where
    -- it gives way to the next one, or stays
    pub row_taken : (b : Bool) → b ≡ better (candidate_of k.cand) (candidate_of x) → b ≡ true
        → IsPickedAt better passes (row_candidate d) (n + 1) n (candidate_of x)
    row_taken b t s =
        preferred better passes (row_candidate d) n k.row (candidate_of k.cand) (candidate_of x) e
        (row_at so_far k h f) is (sym t ∙ s)

    pub row_stays : (b : Bool) → b ≡ better (candidate_of k.cand) (candidate_of x) → b ≡ false
        → IsPickedAt better passes (row_candidate d) (n + 1) k.row (candidate_of k.cand)
    row_stays b t s =
        not_preferred better passes (row_candidate d) n k.row (candidate_of k.cand) (candidate_of x) e
        (row_at so_far k h f) is (sym t ∙ s)

-- ---- ranks
-- the basic variables are ranked
module _ (rule : RuleView) (d : Dictionary) (of : IsDictionary d) (ranked : AreRanked rule d) where
  pub basic_ranked : (i : ℕ) → i < d.rows → IsRanked rule (d.basic i)
  basic_ranked i l =
      let n = of.variables.numbered.basic i l in ranked (d.basic i) (omega (arith, n.0)) n.1

  pub var_ranked : (v i : ℕ) → v ≡ d.basic i → i < d.rows → IsRanked rule v
  var_ranked v i e l = subst (IsRanked rule) (sym e) (basic_ranked i l)
