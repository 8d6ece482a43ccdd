use Rattle.std.proofs.Common.{◌≡◌, ◌≢◌, ℕ, suc, ◌-◌, ◌<◌, ◌⊎◌, inl, inr, List, length, cond, eqb, sym, ap, ◌∙◌, subst, arith}
use Rattle.std.proofs.lemmas.Bool.{cases_eq}
use Rattle.fractions.specs.Fraction.{Fraction, zero_q, one_q}
use Rattle.core_dict.proofs.Choice.{at_equal, at_other}
use Rattle.core_sparse.specs.Items.{number, AreItems}
use Rattle.core_sparse.proofs.Places.{kept_none}
use Rattle.core_sparse.proofs.fill.costs.Goals as goal

pub keep-requires : goal.keep-requires
keep-requires g c =
    record {
      behind = λ k l. absurd (omega (arith, subst (λ (zs : List _). k < length zs) c.new-all.ensures.items l));
    }

pub returns-clause-kept : goal.returns-clause-kept
returns-clause-kept g c =
    c.in_ok-keep.ensures.kept c.args.cols (omega (arith, c.requires))
    (subst (AreItems g.E.Exact.value c.args.cols) (sym c.new-all.ensures.items) (kept_none g.E.Exact.value c.args.cols))

-- a number that is 1 in column n - 1 alone
alone : (n : ℕ) (a : ℕ → Fraction) → 0 < n → a (n - 1) ≡ one_q → ((j : ℕ) → j ≢ n - 1 → a j ≡ zero_q) → (j : ℕ)
    → a j ≡ cond (eqb (suc j) n) one_q zero_q
alone n a l here others j = by (cases_eq (suc j) n)
  where
    by : (suc j ≡ n) ⊎ (suc j ≢ n) → a j ≡ cond (eqb (suc j) n) one_q zero_q
    by (inl e) = let f : j ≡ n - 1 = omega (arith, e) in ap a f ∙ here ∙ sym (at_equal (suc j) n one_q zero_q e)
    by (inr ne) = others j (λ f. ne (omega (arith, f, l))) ∙ sym (at_other (suc j) n one_q zero_q ne)

pub returns-clause-costs : goal.returns-clause-costs
returns-clause-costs g c =
    alone c.args.cols (number g.E.Exact.value c.keep.new.items.items) c.requires
    (c.in_ok-keep.ensures.here ∙ c.one.ensures)
    (λ j ne. c.in_ok-keep.ensures.others j ne
    ∙ ap (λ (zs : List _). number g.E.Exact.value zs j) c.new-all.ensures.items)
