-- What is picked after one more place.
use Rattle.std.proofs.Common.{◌≡◌, refl, sym, ◌∙◌, ap, ℕ, suc, ◌+◌, Bool, true, false, cond, Option}
use Rattle.std.proofs.Common.{None, Some, arith}
use Rattle.core_rules.specs.Candidates.{Candidate, Preference, kept_after, pick}
use Rattle.core_run.specs.SoFar.{IsPickedAt}

-- of no places none is picked
pub none_first : (better : Preference) (passes : ℕ → Bool) (candidate : ℕ → Candidate)
    → pick better passes candidate 0 ≡ None
unfolding pick
none_first better passes candidate = refl

module _ (better : Preference) (passes : ℕ → Bool) (candidate : ℕ → Candidate) (n : ℕ) where
  -- the choice is made place by place
  pick_more : (b : Bool) (o : Option ℕ) → passes n ≡ b → pick better passes candidate n ≡ o
      → pick better passes candidate (n + 1) ≡ kept_after better candidate n b o
  unfolding pick
  pick_more b o e f =
      let one : n + 1 ≡ suc n = omega arith in
      ap (pick better passes candidate) one
      ∙ ap (λ (t : Bool). kept_after better candidate n t (pick better passes candidate n)) e
      ∙ ap (kept_after better candidate n b) f

  -- nothing is picked where the place does not pass and nothing was
  pub none_more : passes n ≡ false → pick better passes candidate n ≡ None
      → pick better passes candidate (n + 1) ≡ None
  none_more e f = pick_more false None e f

  -- what was picked stays where the place does not pass
  pub passed_over : (i : ℕ) (c : Candidate) → passes n ≡ false
      → IsPickedAt better passes candidate n i c → IsPickedAt better passes candidate (n + 1) i c
  passed_over i c e h = record {
    picked = pick_more false (Some i) e h.picked;
    inside = let l = h.inside in omega (arith, l);
    is = h.is;
  }

  -- the first one that passes is picked
  pub first_picked : (c : Candidate) → passes n ≡ true → pick better passes candidate n ≡ None
      → c ≡ candidate n → IsPickedAt better passes candidate (n + 1) n c
  first_picked c e f is = record { picked = pick_more true None e f; inside = omega arith; is = is }

  module _ (i : ℕ) (c x : Candidate) (e : passes n ≡ true) (h : IsPickedAt better passes candidate n i c)
      (is : x ≡ candidate n) where
    -- one that passes is compared with what was picked
    compared : (b : Bool) → better c x ≡ b
        → pick better passes candidate (n + 1) ≡ Some (cond b n i)
    compared b t =
        pick_more true (Some i) e h.picked
        ∙ ap (λ (y : Bool). Some (cond y n i))
        (ap (λ (y : Candidate). better y (candidate n)) (sym h.is)
        ∙ ap (better c) (sym is) ∙ t)

    pub preferred : better c x ≡ true → IsPickedAt better passes candidate (n + 1) n x
    preferred t = record { picked = compared true t; inside = omega arith; is = is }

    pub not_preferred : better c x ≡ false → IsPickedAt better passes candidate (n + 1) i c
    not_preferred t = record {
      picked = compared false t;
      inside = let l = h.inside in omega (arith, l);
      is = h.is;
    }
