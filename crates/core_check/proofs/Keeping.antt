-- What an accepted certificate says of its sums: no number of them leaves.
use Rattle.std.proofs.Common.{◌≡◌, sym, ◌∙◌, ap, ℕ, ◌<◌, ℤ, pos, ◌*ℤ◌, int_le, true, false, ◌||◌, List, [], ◌∷◌, ◌++◌, length, if◌then◌else◌, Ok}
use Rattle.std.proofs.lemmas.Bool.{not-true, or_parts}
use Rattle.std.proofs.lemmas.List.Folds.{list_any-append}
use Rattle.core_sums.specs.Sums.{partial_sums}
use Rattle.core_sums.specs.Widths.{most, leaves, any_leaves}
use Rattle.core_book.specs.View.{CaseView, counts, limit, pool, tiers}
use Rattle.core_book.specs.WellFormed.{IsCase}
use Rattle.core_model.specs.Fits.{Fits}
use Rattle.core_model.specs.declared.cert.Calendar.{Calendar}
use Rattle.core_model.specs.declared.cert.Weights.{Weights}
use Rattle.core_model.specs.declared.cert.Cert.{Cert}
use Rattle.core_model.specs.declared.cert.Cert.TheVariants.{Closes, Cannot}
use Rattle.core_model.specs.Closing.{Plan, IsClosingDay, IsTierNumber}
use Rattle.core_model.specs.Layout.{plan_of}
use Rattle.core_model.specs.Check.{places, verdict, Passed, against, plain, limit_test, pool_test, pool_numbers, tier_closings, pool_terms, bound_terms}
use Rattle.core_check.specs.Accepted.{IsAccepted, cert_weights}
use Rattle.core_check.specs.Answers.{answer}
use Rattle.core_check.proofs.Order.{passed-of}
use Rattle.core_check.proofs.Passing.{all-by_day, all-tiered, stays}
use Rattle.core_check.proofs.Tested.{cannot-tested, closes-tested}
use Rattle.core_check.proofs.Valid.{valid_shows}
use Rattle.core_check.proofs.Verdicts.{passed-all}

-- a certificate whose places all pass is accepted
pub accepted-of : (c : CaseView) (cert : Cert) → IsCase c → Fits c cert → answer (places c cert) ≡ Ok tt → IsAccepted c cert
accepted-of c cert sound fits e =
    let passed = passed-of (verdict c cert) e in
    record { fits = fits; passed = passed; shows = valid_shows c cert sound (passed-all (places c cert) passed).hold }

-- the sums of what is closed of instruments, on days that are not their expiry
pub tier-stays : (c : CaseView) (x : Calendar) (loss : ℤ) (w : Weights) → verdict c (Closes x loss w) ≡ Passed
    → (i u j : ℕ) → i < length c.instruments → IsClosingDay c u → IsTierNumber c j → counts c i u ≡ true
    → any_leaves (partial_sums (pos 0) (tier_closings c (plan_of c x) i u j)) ≡ false
tier-stays c x loss w passed i u j known day tier counting =
    let a : Plan = plan_of c x in
    let product = limit c i u j *ℤ a.den in
    let sums = partial_sums (pos 0) (tier_closings c a i u j) in
    let tested = closes-tested stays c x loss w (passed-all (places c (Closes x loss w)) passed).stay in
    let here = not-true (any_leaves (limit_test c a i u j).numbers) (all-tiered (length c.instruments) c.horizon (tiers c) (limit_test c a) stays tested.calendar.limits i u j known day tier) in
    let numbers : any_leaves (sums ++ (product ∷ [])) ≡ false =
    sym (ap (λ b. any_leaves (if b then against product int_le (tier_closings c a i u j) else plain true).numbers) counting) ∙ here in
    (or_parts (any_leaves sums) (any_leaves (product ∷ [])) (sym (list_any-append (leaves most) sums (product ∷ [])) ∙ numbers)).0

-- and of pools
pub pool-stays : (c : CaseView) (x : Calendar) (loss : ℤ) (w : Weights) → verdict c (Closes x loss w) ≡ Passed → (p u : ℕ) → p < length c.pools → IsClosingDay c u
    → any_leaves (pool_numbers c (plan_of c x) p u ++ partial_sums (pos 0) (pool_terms c (plan_of c x) p u)) ≡ false
pool-stays c x loss w passed p u known day =
    let a : Plan = plan_of c x in
    let product = (pool c p).cap *ℤ a.den in
    let numbers = pool_numbers c a p u in
    let sums = partial_sums (pos 0) (pool_terms c a p u) in
    let tested = closes-tested stays c x loss w (passed-all (places c (Closes x loss w)) passed).stay in
    let here : any_leaves (numbers ++ (sums ++ (product ∷ []))) ≡ false =
    not-true (any_leaves (pool_test c a p u).numbers) (all-by_day (length c.pools) c.horizon (pool_test c a) stays tested.calendar.pools p u known day.0 day.1) in
    let parts = or_parts (any_leaves numbers) (any_leaves (sums ++ (product ∷ []))) (sym (list_any-append (leaves most) numbers (sums ++ (product ∷ []))) ∙ here) in
    let rest = or_parts (any_leaves sums) (any_leaves (product ∷ [])) (sym (list_any-append (leaves most) sums (product ∷ [])) ∙ parts.1) in
    list_any-append (leaves most) numbers sums ∙ ap (λ b. b || any_leaves sums) parts.0 ∙ rest.0

-- the sum of the bound, of either form
pub bound-stays : (c : CaseView) (cert : Cert) → verdict c cert ≡ Passed
    → any_leaves (bound_terms c (cert_weights cert) ++ partial_sums (pos 0) (bound_terms c (cert_weights cert))) ≡ false
bound-stays c (Closes x loss w) passed = not-true _ (closes-tested stays c x loss w (passed-all (places c (Closes x loss w)) passed).stay).weights.bounded
bound-stays c (Cannot w) passed = not-true _ (cannot-tested stays c w (passed-all (places c (Cannot w)) passed).stay).weights.bounded
