-- What is paid on a day, and the cash of the days up to it.
use Rattle.std.proofs.Common.{◌≡◌, refl, sym, ◌∙◌, ap, subst, ℕ, zero, suc, ◌<◌, ◌≤◌, ◌⊎◌, inl, inr, arith, ℤ, pos, ◌+ℤ◌, ◌*ℤ◌, Bool, true, false, ◌==◌, nat_le, List, [], ◌∷◌, ◌++◌, map, filter, Option, Some, None, if◌then◌else◌}
use Rattle.std.proofs.lemmas.Bool.{cases_lt, eq-eqb, ne_eqb, le-leb, lt-leb}
use Rattle.core_sums.specs.Sums.{sum_below, sum_days, total, partial_sums}
use Rattle.core_sums.specs.Places.{below, days_to}
use Rattle.core_sums.proofs.SumLaws.{sum_below-cong, sum_below-none, sum_below-plus, sum_below-scale, sum_below-swap, sum_below-cut, sum_below-single}
use Rattle.core_sums.proofs.Lists.{total-append, total-each, total-filter, total-below}
use Rattle.core_book.specs.View.{CaseView, instrument_of, tiers, cash, pays}
use Rattle.core_model.specs.Closing.{Plan, line_count, sum_tiers, flow, cost_flow, flows, fixed, is_by, is_paid_by, cash_of}
use Rattle.core_replay.specs.Ledger.{is_on, is_paid_on, flows_on, paid_on, is_costly, costly_tiers, line_flows, flows_of_day, flows_until, paid_numbers}
use Rattle.core_sums.specs.Widths.{any_leaves}
use Rattle.core_wide.specs.Steps.{Leaves, Stays}
use Rattle.core_replay.specs.Steps.{sum_numbers}
use Rattle.core_sums.proofs.Joined.{each-days_to-more}
use Rattle.core_sums.proofs.Leaving.{none-append, none-cons, none-one, left-leaves, right-leaves, rest-leaves, first-leaves}
use Rattle.core_replay.proofs.LineFlows.{tiers-total, not-costly}
use Rattle.core_replay.proofs.ByPayDay.{pays-within, flows_until-none}

-- the flow of a line on a day where it is paid on day t, else nought
abbrev payable_flow : CaseView → Plan → ℕ → ℕ → ℕ → ℕ → ℤ
payable_flow c a k t v l = flows_on c a k t l v

-- the flows of a line on a day are its mark or sale, and the cost of all its tiers
costly-only : (c : CaseView) (a : Plan) (l v j : ℕ) → (if is_costly c (instrument_of c l) j then cost_flow c a l v j else pos 0) ≡ cost_flow c a l v j
costly-only c a l v j = by_test (is_costly c (instrument_of c l) j) refl
  where
    by_test : (b : Bool) → is_costly c (instrument_of c l) j ≡ b → (if b then cost_flow c a l v j else pos 0) ≡ cost_flow c a l v j
    by_test true e = refl
    by_test false e = sym (not-costly c a l v j e)

costs-total : (c : CaseView) (a : Plan) (l v : ℕ) → total (map (cost_flow c a l v) (costly_tiers c (instrument_of c l))) ≡ sum_tiers c (cost_flow c a l v)
costs-total c a l v =
    total-filter (is_costly c (instrument_of c l)) (cost_flow c a l v) (days_to (tiers c))
    ∙ tiers-total c (λ j. if is_costly c (instrument_of c l) j then cost_flow c a l v j else pos 0)
    ∙ sum_below-cong (tiers c) (λ j. if is_costly c (instrument_of c l) (suc j) then cost_flow c a l v (suc j) else pos 0) (λ j. cost_flow c a l v (suc j))
    (λ j under. costly-only c a l v (suc j))

line-total : (c : CaseView) (a : Plan) (k l v : ℕ) → total (line_flows c a k l v) ≡ flows c a k l v
unfolding total
line-total c a k l v = ap (λ z. flow c a k l v +ℤ z) (costs-total c a l v)

day-total : (c : CaseView) (a : Plan) (k t v : ℕ) → total (flows_of_day c a k t v (line_count c)) ≡ sum_below (line_count c) (payable_flow c a k t v)
day-total c a k t v =
    total-each (filter (is_paid_on c v t) (below (line_count c))) (λ l. line_flows c a k l v)
    ∙ total-filter (is_paid_on c v t) (λ l. total (line_flows c a k l v)) (below (line_count c))
    ∙ total-below (line_count c) (λ l. if is_paid_on c v t l then total (line_flows c a k l v) else pos 0)
    ∙ sum_below-cong (line_count c) (λ l. if is_paid_on c v t l then total (line_flows c a k l v) else pos 0) (payable_flow c a k t v)
    (λ l under. ap (λ z. if is_paid_on c v t l then z else pos 0) (line-total c a k l v))

until-total : (c : CaseView) (a : Plan) (k t n : ℕ)
    → total (flows_until c a k t n) ≡ sum_days n (λ v. sum_below (line_count c) (payable_flow c a k t v))
unfolding total sum_below
until-total c a k t zero = ap total (flows_until-none c a k t)
until-total c a k t (suc n) =
    ap total (each-days_to-more n (λ u. flows_of_day c a k t u (line_count c)))
    ∙ total-append (flows_until c a k t n) (flows_of_day c a k t (suc n) (line_count c))
    ∙ ap (λ z. z +ℤ total (flows_of_day c a k t (suc n) (line_count c))) (until-total c a k t n)
    ∙ ap (λ z. sum_days n (λ v. sum_below (line_count c) (payable_flow c a k t v)) +ℤ z) (day-total c a k t (suc n))

-- no flow of a later day is paid on day t
not-paid-before : (c : CaseView) (a : Plan) (k t v l : ℕ) → t < v → payable_flow c a k t v l ≡ pos 0
not-paid-before c a k t v l later = by_day (pays c (instrument_of c l) v) refl
  where
    by_day : (o : Option ℕ) → pays c (instrument_of c l) v ≡ o → (if is_on o t then flows c a k l v else pos 0) ≡ pos 0
    by_day None e = refl
    by_day (Some w) e =
        let day = pays-within c (instrument_of c l) v w e in
        ap (λ b. if b then flows c a k l v else pos 0) (ne_eqb w t (λ q. omega (arith, day.0, q, later)))

-- what is paid on day t is the fixed cash and the flows that are payable
pub paid-is : (c : CaseView) (a : Plan) (k t : ℕ) → t ≤ c.last → (a.den *ℤ cash c t) +ℤ total (flows_until c a k t t) ≡ paid_on c a k t
paid-is c a k t within =
    ap (λ z. (a.den *ℤ cash c t) +ℤ z)
    (until-total c a k t t
    ∙ sum_below-swap t (line_count c) (λ j l. payable_flow c a k t (suc j) l)
    ∙ sum_below-cong (line_count c) (λ l. sum_days t (λ v. payable_flow c a k t v l)) (λ l. sum_days c.last (λ v. payable_flow c a k t v l))
    (λ l under. sym (sum_below-cut t c.last (λ j. payable_flow c a k t (suc j) l) within (λ j from below. not-paid-before c a k t (suc j) l (omega (arith, from))))))

-- a flow is paid by day t where it is paid on one of the days 0 to t
paid-on-some : (o : Option ℕ) (t : ℕ) (z : ℤ) → sum_below (suc t) (λ s. if is_on o s then z else pos 0) ≡ (if is_by o t then z else pos 0)
paid-on-some None t z = sum_below-none (suc t) (λ s. pos 0) (λ s q. refl)
paid-on-some (Some w) t z = by_order (cases_lt t w)
  where
    by_order : (t < w) ⊎ (w ≤ t) → sum_below (suc t) (λ s. if w == s then z else pos 0) ≡ (if nat_le w t then z else pos 0)
    by_order (inl later) =
        sum_below-none (suc t) (λ s. if w == s then z else pos 0) (λ s q. ap (λ b. if b then z else pos 0) (ne_eqb w s (λ e. omega (arith, e, q, later))))
        ∙ sym (ap (λ b. if b then z else pos 0) (lt-leb w t later))
    by_order (inr by) =
        sum_below-single (suc t) w (λ s. if w == s then z else pos 0) (omega (arith, by)) (λ s q ne. ap (λ b. if b then z else pos 0) (ne_eqb w s (λ e. ne (sym e))))
        ∙ ap (λ b. if b then z else pos 0) (eq-eqb w w refl)
        ∙ sym (ap (λ b. if b then z else pos 0) (le-leb w t by))

-- the cash of the days up to t is the sum of what is paid on each
pub cash-is : (c : CaseView) (a : Plan) (k t : ℕ) → cash_of c a k t ≡ sum_below (suc t) (paid_on c a k)
cash-is c a k t =
    let by_day : ℕ → ℤ = λ s. sum_below (line_count c) (λ l. sum_days c.last (λ v. payable_flow c a k s v l)) in
    sym (sum_below-plus (suc t) (λ s. a.den *ℤ cash c s) by_day
    ∙ ap (λ z. z +ℤ sum_below (suc t) by_day) (sum_below-scale (suc t) a.den (cash c))
    ∙ ap (λ z. (a.den *ℤ fixed c t) +ℤ z)
    (sum_below-swap (suc t) (line_count c) (λ s l. sum_days c.last (λ v. payable_flow c a k s v l))
    ∙ sum_below-cong (line_count c) (λ l. sum_below (suc t) (λ s. sum_days c.last (λ v. payable_flow c a k s v l)))
    (λ l. sum_days c.last (λ v. if is_paid_by c l v t then flows c a k l v else pos 0)) (λ l under. by_line l)))
  where
    by_line : (l : ℕ) → sum_below (suc t) (λ s. sum_days c.last (λ v. payable_flow c a k s v l)) ≡ sum_days c.last (λ v. if is_paid_by c l v t then flows c a k l v else pos 0)
    by_line l =
        sum_below-swap (suc t) c.last (λ s j. payable_flow c a k s (suc j) l)
        ∙ sum_below-cong c.last (λ j. sum_below (suc t) (λ s. payable_flow c a k s (suc j) l)) (λ j. if is_paid_by c l (suc j) t then flows c a k l (suc j) else pos 0)
        (λ j under. paid-on-some (pays c (instrument_of c l) (suc j)) t (flows c a k l (suc j)))

-- day by day
pub cash-more : (c : CaseView) (a : Plan) (k t : ℕ) → cash_of c a k t ≡ sum_below t (paid_on c a k) +ℤ paid_on c a k t
unfolding sum_below
cash-more c a k t = cash-is c a k t

-- the sums of a day: what is paid, the total, and whether one of them leaves
pub sums-stay : (c : CaseView) (a : Plan) (k t : ℕ) (payable : List ℤ) (first paid before whole : ℤ) → t ≤ c.last → payable ≡ flows_until c a k t t
    → before ≡ sum_below t (paid_on c a k) → (first ≡ a.den *ℤ cash c t) × Stays (a.den *ℤ cash c t)
    → (paid ≡ first +ℤ total payable) × (any_leaves (partial_sums first payable) ≡ false) → (whole ≡ before +ℤ paid) × Stays (before +ℤ paid)
    → (paid ≡ paid_on c a k t) × (whole ≡ cash_of c a k t) × (any_leaves (sum_numbers c a k t) ≡ false)
sums-stay c a k t payable first paid before whole within listed so_far one two three =
    let numbers : partial_sums first payable ≡ partial_sums (a.den *ℤ cash c t) (flows_until c a k t t) = ap (λ z. partial_sums z payable) one.0 ∙ ap (partial_sums (a.den *ℤ cash c t)) listed in
    let value : paid ≡ paid_on c a k t =
    two.0 ∙ ap (λ z. z +ℤ total payable) one.0 ∙ ap (λ zs. (a.den *ℤ cash c t) +ℤ total zs) listed ∙ paid-is c a k t within in
    let sum : before +ℤ paid ≡ cash_of c a k t =
    ap (λ z. z +ℤ paid) so_far ∙ ap (λ z. sum_below t (paid_on c a k) +ℤ z) value ∙ sym (cash-more c a k t) in (
      value,
      three.0 ∙ sum,
      none-cons (a.den *ℤ cash c t) (paid_numbers c a k t ++ (cash_of c a k t ∷ [])) one.1
          (none-append (paid_numbers c a k t) (cash_of c a k t ∷ []) (ap any_leaves (sym numbers) ∙ two.1) (none-one (cash_of c a k t) (subst Stays sum three.1))),
    )

pub paid-leaves : (c : CaseView) (a : Plan) (k t : ℕ) (payable : List ℤ) (first : ℤ) → payable ≡ flows_until c a k t t → first ≡ a.den *ℤ cash c t
    → any_leaves (partial_sums first payable) ≡ true → any_leaves (sum_numbers c a k t) ≡ true
paid-leaves c a k t payable first listed one out =
    let numbers : partial_sums first payable ≡ partial_sums (a.den *ℤ cash c t) (flows_until c a k t t) = ap (λ z. partial_sums z payable) one ∙ ap (partial_sums (a.den *ℤ cash c t)) listed in
    rest-leaves (a.den *ℤ cash c t) (paid_numbers c a k t ++ (cash_of c a k t ∷ []))
    (left-leaves (paid_numbers c a k t) (cash_of c a k t ∷ []) (ap any_leaves (sym numbers) ∙ out))

pub total-leaves : (c : CaseView) (a : Plan) (k t : ℕ) (payable : List ℤ) (first paid before : ℤ) → t ≤ c.last → payable ≡ flows_until c a k t t
    → before ≡ sum_below t (paid_on c a k) → first ≡ a.den *ℤ cash c t → paid ≡ first +ℤ total payable → Leaves (before +ℤ paid) → any_leaves (sum_numbers c a k t) ≡ true
total-leaves c a k t payable first paid before within listed so_far one two out =
    let value : paid ≡ paid_on c a k t =
    two ∙ ap (λ z. z +ℤ total payable) one ∙ ap (λ zs. (a.den *ℤ cash c t) +ℤ total zs) listed ∙ paid-is c a k t within in
    let sum : before +ℤ paid ≡ cash_of c a k t =
    ap (λ z. z +ℤ paid) so_far ∙ ap (λ z. sum_below t (paid_on c a k) +ℤ z) value ∙ sym (cash-more c a k t) in
    rest-leaves (a.den *ℤ cash c t) (paid_numbers c a k t ++ (cash_of c a k t ∷ []))
    (right-leaves (paid_numbers c a k t) (cash_of c a k t ∷ []) (first-leaves (cash_of c a k t) [] (subst Leaves sum out)))
