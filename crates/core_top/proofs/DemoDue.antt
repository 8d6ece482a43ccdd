-- What is due to `demo`.
use Rattle.std.proofs.Common.{◌≡◌, ◌≢◌, refl, sym, ◌∙◌, ap, ℕ, inl, List, [], arith, ℤ, pos, negsuc, ◌*ℤ◌, ◌≤ℤ◌, unsigned_abs}
use Rattle.std.proofs.lemmas.Int.{ints}
use borrow.Author.Differences.{up, down, same_in, product_is}
use Rattle.fractions.specs.Fraction.{Fraction, reduce}
use Rattle.fractions.proofs.Values.{HasValue, value_reduce}
use Rattle.core_model.specs.declared.cert.Cert.TheVariants.{Closes, Cannot}
use Rattle.core_gen.specs.Closed.{demo_view}
use Rattle.core_cert.specs.Written.{floored}
use Rattle.core_margin.specs.declared.orders.Order.TheVariants.{LeastVariable}
use Rattle.core_margin.specs.Last.{start_of}
use Rattle.core_margin.specs.Orders.{preference}
use Rattle.core_margin.specs.Outcomes.{MarginOutcome, Certificate, Common, Pivot, Spent}
use Rattle.core_margin.specs.Laws.{OneMargin}
use Rattle.core_top.specs.declared.answers.Reply.TheVariants as replies
use Rattle.core_top.specs.Answers.{reply_text}
use Rattle.core_top.specs.Margin.{default_budget}
use Rattle.core_top.specs.Demo.{DemoWords, DemoComes, demo_answer, margin_ratio, DemoDue, closes, wide_pivot, wide_common, spent, IsRatio, DemoShows, least, pivot_leaves, cert_leaves, not_ended}
use Rattle.core_top.proofs.Statuses.{OwnStatus}
use Rattle.core_top.proofs.AtFile.{Is}

-- a fraction in lowest terms is what it comes from
reduced : (z d : ℤ) → pos 1 ≤ℤ d → IsRatio (reduce z (unsigned_abs d)) z d
reduced z (pos d) h =
    let q : Fraction = reduce z d in
    let v : HasValue q (up z) (down z) d = value_reduce z d (omega (arith, ints)) in
    same_in (q.num *ℤ pos d) (z *ℤ pos q.den) (omega (arith, v.cross, product_is q.num (pos d), product_is z (pos q.den)))
reduced z (negsuc d) h = absurd (omega (arith, ints))

-- the answer
pub demo-shows : (words : DemoWords) (s : ℕ) (t : List ℕ) → DemoDue words s t → DemoShows words s t
demo-shows words s t (closes calendar loss weights comes shows) =
    least calendar loss weights (margin_ratio loss calendar.den) shows (reduced (floored loss) calendar.den shows.least.admissible.calendar.0)
demo-shows words s t (wide_pivot k comes) = pivot_leaves k comes
demo-shows words s t (wide_common comes) = cert_leaves comes
demo-shows words s t (spent comes) = not_ended comes

-- it is neither that of weights that refuse nor that of a faulty case
pub demo-never : (words : DemoWords) (s : ℕ) (t : List ℕ) → DemoDue words s t → (s ≢ 1) × (s ≢ 3)
demo-never words s t (closes calendar loss weights comes shows) = (λ e. absurd (cc), λ e. absurd (cc))
demo-never words s t (wide_pivot k comes) = (λ e. absurd (cc), λ e. absurd (cc))
demo-never words s t (wide_common comes) = (λ e. absurd (cc), λ e. absurd (cc))
demo-never words s t (spent comes) = (λ e. absurd (cc), λ e. absurd (cc))

-- its statuses
pub demo-own : (rose : List ℕ → Type 0) (names : List (List ℕ)) (words : DemoWords) (s : ℕ) (t : List ℕ) → DemoDue words s t → OwnStatus rose names s
demo-own rose names words s t (closes calendar loss weights comes shows) = inl refl
demo-own rose names words s t (wide_pivot k comes) = inl refl
demo-own rose names words s t (wide_common comes) = inl refl
demo-own rose names words s t (spent comes) = inl refl

-- and there is one: what the case comes to says it; weights that refuse say nothing here
status-of : MarginOutcome → ℕ
status-of (Certificate x) = 0
status-of Common = 4
status-of (Pivot k) = 4
status-of Spent = 5

text-of : ℕ → MarginOutcome → List ℕ
text-of n (Certificate (Closes calendar loss weights)) = demo_answer n (margin_ratio loss calendar.den)
text-of n (Certificate (Cannot weights)) = []
text-of n Common = reply_text replies.WideCommon
text-of n (Pivot k) = reply_text (replies.WidePivot k)
text-of n Spent = reply_text (replies.Spent default_budget)

record IsOf (words : DemoWords) (s : ℕ) (t : List ℕ) : Type 0 where
  outcome : MarginOutcome
  comes : DemoComes words.count outcome
  is : Is s (status-of outcome) t (text-of words.count outcome)

is-of : (words : DemoWords) (s : ℕ) (t : List ℕ) → DemoDue words s t → IsOf words s t
unfolding status-of text-of
is-of words s t (closes calendar loss weights comes shows) = record { outcome = Certificate (Closes calendar loss weights); comes = comes; is = (refl, refl) }
is-of words s t (wide_pivot k comes) = record { outcome = Pivot k; comes = comes; is = (refl, refl) }
is-of words s t (wide_common comes) = record { outcome = Common; comes = comes; is = (refl, refl) }
is-of words s t (spent comes) = record { outcome = Spent; comes = comes; is = (refl, refl) }

pub demo-one : OneMargin → (words : DemoWords) (s s' : ℕ) (t t' : List ℕ) → DemoDue words s t → DemoDue words s' t' → Is s s' t t'
demo-one law words s s' t t' p q =
    let a = is-of words s t p in
    let b = is-of words s' t' q in
    let c = demo_view words.count in
    let e : a.outcome ≡ b.outcome = law c (preference c LeastVariable) default_budget (start_of c) a.outcome b.outcome a.comes b.comes in
    (a.is.0 ∙ ap status-of e ∙ sym b.is.0, a.is.1 ∙ ap (text-of words.count) e ∙ sym b.is.1)
