-- The tables give the unit of a line.
use Rattle.std.proofs.Common.{◌≡◌, refl, sym, ◌∙◌, ap, ℕ, ◌<◌, ◌≤◌, ℤ, pos, ◌-ℤ◌, ◌*ℤ◌, subst, arith, Bool, true, false, ◌&&◌, ◌==◌, nat_le, List, length, get_or, Option, None, is_some, Vec, Global, suc, if◌then◌else◌}
use Rattle.std.proofs.lemmas.Bool.{leb-true}
use Rattle.core_book.specs.View.{CaseView, instrument, instrument_of, line, price, is_open, pays, counts, is_traded, tiers_of, is_allowed}
use Rattle.core_book.specs.WellFormed.{IsCase}
use Rattle.core_book.specs.declared.parts.Instr.{Instr}
use Rattle.core_book.specs.declared.parts.Line.{Line}
use Rattle.core_book.specs.declared.parts.Kind.{Kind}
use Rattle.core_book.specs.declared.parts.Kind.TheVariants.{Future, Security}
use Rattle.core_book.proofs.Depth.{within-depth}
use Rattle.core_model.specs.Closing.{line_count, size, price_of, kind_of, is_by}
use Rattle.core_model.specs.Bounds.{unit}
use Rattle.core_model.proofs.Sizes.{instrument-known}
use Rattle.core_flows.specs.Units.{last_paid, marked_to, unit_by, unit_cost}
use Rattle.core_days.specs.Days.{open_day_before, pay_day}
use Rattle.core_flows.specs.Tables.{IsTable, IsPayTable}
use Rattle.core_flows.proofs.Telescope.{day_before-cong}
use Rattle.core_flows.specs.declared.tables.PayTable.{PayTable}
use Rattle.core_flows.proofs.UnitLaw.{IsOpenClosing, unit-closed}
use Rattle.core_flows.proofs.Sizes.{marked-within}

-- both parts of a test hold
both : (a b : Bool) → (a && b) ≡ true → (a ≡ true) × (b ≡ true)
both true b e = (refl, e)
both false b e = absurd (cc)

-- a closing that is allowed is on an open day from 1 to the horizon, in one of the case's tiers
allowed-is : (c : CaseView) (l u j : ℕ) → IsCase c → l < line_count c → is_allowed c l u j ≡ true → IsOpenClosing c l u j
allowed-is c l u j kept known allowed =
    let i = instrument_of c l in
    let by_tier = both (nat_le 1 u && nat_le u c.horizon && is_some (pays c i u) && nat_le 1 j && nat_le j (tiers_of c i))
    (if counts c i u then is_traded (instrument c i) u else j == 1) allowed in
    let most = both (nat_le 1 u && nat_le u c.horizon && is_some (pays c i u) && nat_le 1 j) (nat_le j (tiers_of c i)) by_tier.0 in
    let least = both (nat_le 1 u && nat_le u c.horizon && is_some (pays c i u)) (nat_le 1 j) most.0 in
    let paid = both (nat_le 1 u && nat_le u c.horizon) (is_some (pays c i u)) least.0 in
    let days = both (nat_le 1 u) (nat_le u c.horizon) paid.0 in
    let deep = within-depth c i kept (instrument-known c l kept known) in
    record {
      from = leb-true 1 u days.0;
      to = leb-true u c.horizon days.1;
      tier = leb-true 1 j least.1;
      known = omega (arith, leb-true j (tiers_of c i) most.1, deep);
      day = paid_there (is_open c i u) (pay_day (is_open c i) c.last (instrument c i).lag u) paid.1;
    }
  where
    paid_there : (b : Bool) (o : Option ℕ) → is_some (if b then o else None) ≡ true → b ≡ true
    paid_there true o some = refl
    paid_there false o some = absurd (cc)

-- what is paid by day t by the table is paid by then
paid-is : (c : CaseView) (i u t : ℕ) (x : PayTable) → IsPayTable c i x → u ≤ c.last → is_by (get_or x.pay_days.items u None) t ≡ is_by (pays c i u) t
paid-is c i u t x table within = ap (λ o. is_by o t) (table.pay_days.each u None (omega (arith, within)))

-- and the day up to which marks are paid is that of the table
marked-is : (c : CaseView) (i u t m : ℕ) (x : PayTable) → IsPayTable c i x → u ≤ c.last → t ≤ c.last
    → m ≡ (if is_by (get_or x.pay_days.items u None) t then u else get_or x.last_paid.items t 0) → m ≡ marked_to c i u t
marked-is c i u t m x table within day e =
    e ∙ ap (λ b. if b then u else get_or x.last_paid.items t 0) (paid-is c i u t x table within)
    ∙ ap (λ n. if is_by (pays c i u) t then u else n) (table.last_paid.each t 0 (omega (arith, day)))

-- and it is a house day
pub marked-known : (c : CaseView) (i u t m : ℕ) (x : PayTable) → IsPayTable c i x → u ≤ c.last → t ≤ c.last
    → m ≡ (if is_by (get_or x.pay_days.items u None) t then u else get_or x.last_paid.items t 0) → m ≤ c.last
marked-known c i u t m x table within day e =
    let house_day = marked-within c i u t within in
    omega (arith, marked-is c i u t m x table within day e, house_day)

-- the kind of a line's instrument, as it is looked up
pub kind-is : (c : CaseView) (l : ℕ) (of : Line) (x : Instr) (kind : Kind) → of ≡ line c l → x ≡ instrument c of.instrument → x.kind ≡ kind
    → kind_of c l ≡ kind
kind-is c l of x kind is_line is_instrument is_kind = ap (λ y. (instrument c y.instrument).kind) (sym is_line) ∙ ap (λ y. y.kind) (sym is_instrument) ∙ is_kind

-- the marks of a future up to the day of the table are its unit before the cost
pub future-unit : (c : CaseView) (l k u t m : ℕ) (x : PayTable) (z : ℤ) → IsPayTable c (instrument_of c l) x → u ≤ c.last → t ≤ c.last
    → kind_of c l ≡ Future → m ≡ (if is_by (get_or x.pay_days.items u None) t then u else get_or x.last_paid.items t 0)
    → z ≡ size c l *ℤ (price c k (instrument_of c l) m -ℤ price c k (instrument_of c l) 0) → z ≡ unit_by (kind_of c l) c l k u t
future-unit c l k u t m x z table within day is_future marked e =
    e ∙ ap (λ v. size c l *ℤ (price_of c k l v -ℤ price_of c k l 0)) (marked-is c (instrument_of c l) u t m x table within day marked)
    ∙ ap (λ y. unit_by y c l k u t) (sym is_future)

-- what a security sells for is its unit before the cost, once it is paid
pub security-unit : (c : CaseView) (l k u t : ℕ) (x : PayTable) (z : ℤ) (b : Bool) → IsPayTable c (instrument_of c l) x → u ≤ c.last
    → kind_of c l ≡ Security → b ≡ is_by (get_or x.pay_days.items u None) t
    → z ≡ (if b then size c l *ℤ price c k (instrument_of c l) u else pos 0) → z ≡ unit_by (kind_of c l) c l k u t
security-unit c l k u t x z b table within is_security paid e =
    e ∙ ap (λ b. if b then size c l *ℤ price_of c k l u else pos 0) (paid ∙ paid-is c (instrument_of c l) u t x table within)
    ∙ ap (λ y. unit_by y c l k u t) (sym is_security)

-- what an allowed closing pays less its cost is its unit
pub unit-allowed : (c : CaseView) (l k u j t : ℕ) (x y : ℤ) → IsCase c → l < line_count c → is_allowed c l u j ≡ true
    → x ≡ unit_by (kind_of c l) c l k u t → y ≡ unit_cost c l u j t → x -ℤ y ≡ unit c l k u j t
unit-allowed c l k u j t x y kept known allowed pays costs =
    ap (λ z. z -ℤ y) pays ∙ ap (λ z. unit_by (kind_of c l) c l k u t -ℤ z) costs
    ∙ sym (unit-closed c l k u j t kept (allowed-is c l u j kept known allowed))

-- the last day that is paid by day t, by a list of the pay days
last_paid-is : (c : CaseView) (i t : ℕ) (days : List (Option ℕ)) → IsTable (suc c.last) (λ v w. w ≡ pays c i v) days
    → open_day_before (λ w. is_by (get_or days w None) t) (length days) ≡ last_paid c i t
last_paid-is c i t days table =
    ap (open_day_before (λ w. is_by (get_or days w None) t)) table.count
    ∙ day_before-cong (λ w. is_by (get_or days w None) t) (λ v. is_by (pays c i v) t) (suc c.last) (λ v below. ap (λ o. is_by o t) (table.each v None below))

-- pay days and the last days that are paid, made from them, are a table
pub pay-table : (c : CaseView) (i : ℕ) (days : Vec (Option ℕ) Global) (last : Vec ℕ Global) (shown : List (Option ℕ))
    → IsTable (suc c.last) (λ v w. w ≡ pays c i v) days.items → shown ≡ days.items
    → IsTable (length shown) (λ t v. v ≡ open_day_before (λ w. is_by (get_or shown w None) t) (length shown)) last.items
    → IsPayTable c i (record { pay_days = days; last_paid = last })
pay-table c i days last shown table same lasts = record {
  pay_days = table;
  last_paid = record {
    count = lasts.count ∙ many;
    each = λ t d below. lasts.each t d (omega (arith, below, many)) ∙ last_paid-is c i t shown (subst (IsTable (suc c.last) (λ v w. w ≡ pays c i v)) (sym same) table);
  };
}
  where
    many : length shown ≡ suc c.last
    many = ap length same ∙ table.count
