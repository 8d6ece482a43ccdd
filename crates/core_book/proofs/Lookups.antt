-- The rows of the kept lists: how long they are, and that they are those of the view.
use Rattle.std.proofs.Common.{◌≡◌, refl, sym, ◌∙◌, ◌⊎◌, inl, inr, ◌-◌, ◌∷◌, ◌++◌, length-append, true, false, None, if◌then◌else◌, ap, subst, ℕ, suc, ◌<◌, ◌≤◌, Bool, List, [], length, map, fold, max, get_or, ℤ, arith, Vec, Global}
use Rattle.std.proofs.lemmas.List.{get_or-map, get_or_default, get_or_append_left, get_or-append_right, length-map}
use Rattle.core_sums.specs.Places.{at, row_at}
use Rattle.core_days.specs.Days.{is_open_on, pay_day}
use Rattle.core_days.proofs.PayDays.{pay_day-cong}
use Rattle.jiff.specs.Words.{epoch_day}
use Rattle.jiff.specs.Types.{Date}
use Rattle.core_book.specs.WellFormed.{IsCase}
use Rattle.core_book.proofs.Depth.{depth-kept}
use Rattle.core_book.specs.declared.book.Book.{Book}
use Rattle.core_days.specs.Flags.{flag_at, AreOpenFlags}
use Rattle.core_book.specs.View.{CaseView, no_tier, instrument, tiers, tiers_of, is_open, pays}
use Rattle.core_book.specs.Inside.{book_view, tier_view, AreOpenDays, HasDays}
use Rattle.core_book.specs.declared.parts.Tier.{Tier}
use Rattle.core_book.specs.declared.case.Case.TheInside.{Inside}

-- a row of the view is that of the kept list
row-is : {A : Type 0} (vs : List (Vec A Global)) (i : ℕ) (v : Vec A Global) → i < length vs → v ≡ get_or vs i v → row_at (map (λ v. v.items) vs) i ≡ v.items
row-is vs i v within e = get_or-map (λ v. v.items) vs i v [] within ∙ ap (λ v. v.items) (sym e)

-- the case's invariant, of its view
pub view-kept : (a : Inside) (c : CaseView) → book_view a.book ≡ c → HasDays a → IsCase c
view-kept a c view kept = subst (λ (x : CaseView). IsCase x) view kept.kept

-- the tiers of an instrument
pub tiers-row : (a : Inside) (c : CaseView) (i : ℕ) (v : Vec Tier Global) → book_view a.book ≡ c → HasDays a
    → i < length c.instruments → v ≡ get_or a.book.depth.items i v → row_at c.depth i ≡ map tier_view v.items
tiers-row a c i v view kept below e =
    let here : i < length (book_view a.book).instruments = subst (λ (x : CaseView). i < length x.instruments) (sym view) below in
    let within : i < length a.book.depth.items = omega (arith, here, kept.kept.depth.0, length-map a.book.depth.items (λ v. map tier_view v.items)) in
    let row : row_at (book_view a.book).depth i ≡ map tier_view v.items =
    get_or-map (λ v. map tier_view v.items) a.book.depth.items i v [] within ∙ ap (λ v. map tier_view v.items) (sym e) in
    subst (λ (x : CaseView). row_at x.depth i ≡ map tier_view v.items) view row

-- how many there are
pub tiers-count : (a : Inside) (c : CaseView) (i : ℕ) (v : Vec Tier Global) → book_view a.book ≡ c → HasDays a
    → i < length c.instruments → v ≡ get_or a.book.depth.items i v → length v.items ≡ tiers_of c i
tiers-count a c i v view kept below e =
    sym (ap length (tiers-row a c i v view kept below e) ∙ length-map v.items tier_view)

-- the greatest count is that of the view
deepest-in : (n : ℕ) (vs : List (Vec Tier Global))
    → fold (λ n tiers. max n (length tiers.items)) n vs ≡ fold (λ n xs. max n (length xs)) n (map (λ v. map tier_view v.items) vs)
deepest-in n [] = refl
deepest-in n (v ∷ vs) = rw (length-map v.items tier_view, fold) (deepest-in (max n (length v.items)) vs)

pub deepest-is : (b : Book) (vs : List (Vec Tier Global)) → vs ≡ b.depth.items
    → fold (λ n tiers. max n (length tiers.items)) 1 vs ≡ tiers (book_view b)
deepest-is b vs e = deepest-in 1 vs ∙ ap (λ xs. tiers record (book_view b) { depth = map (λ v. map tier_view v.items) xs }) e

-- one of them, and how many limits it has
pub tier-row : (a : Inside) (c : CaseView) (i n : ℕ) (v : Vec Tier Global) (xs : List Tier) (x : Tier) → book_view a.book ≡ c → HasDays a
    → i < length c.instruments → v ≡ get_or a.book.depth.items i v → xs ≡ v.items → n < length xs → x ≡ get_or xs n x
    → (get_or (row_at c.depth i) n no_tier ≡ tier_view x) × (length x.limits.items ≡ c.horizon)
tier-row a c i n v xs x view kept below e items within found =
    let row : row_at c.depth i ≡ map tier_view xs = tiers-row a c i v view kept below e ∙ ap (map tier_view) (sym items) in
    let stands : get_or (row_at c.depth i) n no_tier ≡ tier_view x =
    ap (λ xs. get_or xs n no_tier) row ∙ get_or-map tier_view xs n x no_tier within ∙ ap tier_view (sym found) in
    let listed : n < length (row_at c.depth i) = omega (arith, within, ap length row, length-map xs tier_view) in
    let sound = (depth-kept c i (view-kept a c view kept) below).each n no_tier listed in
    (stands, sym (ap (λ t. length t.limits) stands) ∙ sound.limits.0)

-- the prices of a scenario, and of an instrument in it
pub paths-of : (a : Inside) (c : CaseView) (k : ℕ) (v : Vec (Vec ℤ Global) Global) → book_view a.book ≡ c → HasDays a → k < length c.scenarios
    → v ≡ get_or a.book.prices.items k v → (length v.items ≡ length c.instruments) × (row_at c.prices k ≡ map (λ w. w.items) v.items)
paths-of a c k v view kept below e =
    let here : k < length (book_view a.book).scenarios = subst (λ (x : CaseView). k < length x.scenarios) (sym view) below in
    let within : k < length a.book.prices.items = omega (arith, here, kept.kept.prices.0, length-map a.book.prices.items (λ v. map (λ w. w.items) v.items)) in
    let listed : k < length (book_view a.book).prices = omega (arith, here, kept.kept.prices.0) in
    let row : row_at (book_view a.book).prices k ≡ map (λ w. w.items) v.items =
    get_or-map (λ v. map (λ w. w.items) v.items) a.book.prices.items k v [] within ∙ ap (λ v. map (λ w. w.items) v.items) (sym e) in
    let long : length (map (λ w. w.items) v.items) ≡ length (book_view a.book).instruments = ap length (sym row) ∙ (kept.kept.prices.1 k [] listed).0 in
    subst (λ (x : CaseView). (length v.items ≡ length x.instruments) × (row_at x.prices k ≡ map (λ w. w.items) v.items)) view
    (omega (arith, long, length-map v.items (λ w. w.items)), row)

pub path-of : (a : Inside) (c : CaseView) (k i : ℕ) (v : Vec (Vec ℤ Global) Global) (w : Vec ℤ Global) → book_view a.book ≡ c → HasDays a
    → k < length c.scenarios → i < length c.instruments → v ≡ get_or a.book.prices.items k v → w ≡ get_or v.items i w
    → (length w.items ≡ suc c.last) × (row_at (row_at c.prices k) i ≡ w.items)
path-of a c k i v w view kept below under e e' =
    let here : k < length (book_view a.book).scenarios = subst (λ (x : CaseView). k < length x.scenarios) (sym view) below in
    let listed : k < length (book_view a.book).prices = omega (arith, here, kept.kept.prices.0) in
    let paths : (length v.items ≡ length (book_view a.book).instruments) × (row_at (book_view a.book).prices k ≡ map (λ w. w.items) v.items) =
    subst (λ (x : CaseView). (length v.items ≡ length x.instruments) × (row_at x.prices k ≡ map (λ w. w.items) v.items)) (sym view) (paths-of a c k v view kept below e) in
    let beneath : i < length (book_view a.book).instruments = subst (λ (x : CaseView). i < length x.instruments) (sym view) under in
    let within : i < length v.items = omega (arith, beneath, paths.0) in
    let row : row_at (row_at (book_view a.book).prices k) i ≡ w.items = ap (λ xs. row_at xs i) paths.1 ∙ row-is v.items i w within e' in
    let of_scenario = kept.kept.prices.1 k [] listed in
    let inner : i < length (row_at (book_view a.book).prices k) = omega (arith, beneath, of_scenario.0) in
    subst (λ (x : CaseView). (length w.items ≡ suc x.last) × (row_at (row_at x.prices k) i ≡ w.items)) view
    (ap length (sym row) ∙ (of_scenario.1 i [] inner).0, row)

-- the market of an instrument is one of the case's
pub market-known : (a : Inside) (c : CaseView) (i m : ℕ) → book_view a.book ≡ c → HasDays a → i < length c.instruments → m ≡ get_or a.book.markets.items i m
    → m < length (book_view a.book).holidays
market-known a c i m view kept below e =
    let here : i < length (book_view a.book).instruments = subst (λ (x : CaseView). i < length x.instruments) (sym view) below in
    let within : i < length a.book.markets.items = omega (arith, here, kept.kept.markets.0) in
    subst (λ (k : ℕ). k < length (book_view a.book).holidays) (sym e) (kept.kept.markets.1 i m within)

-- the open days of an instrument's market: a flag for each house day
open-flags : (a : Inside) (i m : ℕ) (v : Vec Bool Global) → HasDays a → i < length (book_view a.book).instruments
    → m ≡ get_or a.book.markets.items i m → m < length (book_view a.book).holidays → v ≡ get_or a.open_days.items m v
    → (length v.items ≡ suc a.book.last) × ((t : ℕ) → t ≤ a.book.last → flag_at v.items t ≡ is_open (book_view a.book) i t)
open-flags a i m v kept here e known e' =
    let listed : m < length a.open_days.items = omega (arith, known, kept.open_days.count, length-map a.open_days.items (λ v. v.items)) in
    let row : row_at (map (λ v. v.items) a.open_days.items) m ≡ v.items = row-is a.open_days.items m v listed e' in
    let flags = kept.open_days.each m known in
    let long : length (map epoch_day a.days.items) ≡ suc a.book.last = kept.days.count in
    let within : i < length a.book.markets.items = omega (arith, here, kept.kept.markets.0) in
    let market : get_or a.book.markets.items i 0 ≡ m = get_or_default a.book.markets.items i 0 m within ∙ sym e in
    let each : (t : ℕ) → t ≤ a.book.last → flag_at v.items t ≡ is_open (book_view a.book) i t =
    λ t day.
    let dated : t < length (map epoch_day a.days.items) = omega (arith, day, long) in
    ap (λ r. flag_at r t) (sym row) ∙ flags.each t dated
    ∙ ap (λ n. is_open_on (row_at (book_view a.book).holidays n) t (at (map epoch_day a.days.items) t)) (sym market)
    ∙ ap (λ x. is_open_on (row_at (book_view a.book).holidays (get_or a.book.markets.items i 0)) t x) (kept.days.each t day) in
    (sym (ap length row) ∙ flags.count ∙ long, each)

pub open-of : (a : Inside) (c : CaseView) (i m : ℕ) (v : Vec Bool Global) → book_view a.book ≡ c → HasDays a → i < length c.instruments
    → m ≡ get_or a.book.markets.items i m → v ≡ get_or a.open_days.items m v
    → (length v.items ≡ suc c.last) × ((t : ℕ) → t ≤ c.last → flag_at v.items t ≡ is_open c i t)
open-of a c i m v view kept below e e' =
    subst (λ (x : CaseView). (length v.items ≡ suc x.last) × ((t : ℕ) → t ≤ x.last → flag_at v.items t ≡ is_open x i t)) view
    (open-flags a i m v kept (subst (λ (x : CaseView). i < length x.instruments) (sym view) below) e (market-known a c i m view kept below e) e')

below-or : (m n : ℕ) → m < suc n → (m < n) ⊎ (m ≡ n)
below-or m n h = grind arith

last-of : {A : Type 0} (xs : List (List A)) (x : List A) (m : ℕ) → m ≡ length xs → row_at (xs ++ (x ∷ [])) m ≡ x
last-of xs x m e =
    let first : m - length xs ≡ 0 = omega (arith, e) in
    get_or-append_right xs (x ∷ []) (length xs) m [] refl (omega (arith, e)) ∙ ap (λ n. get_or (x ∷ []) n []) first

-- the pay day that the flags give is that of the case
pub pays-of : (c : CaseView) (i v : ℕ) (flags : List Bool) → length flags ≡ suc c.last → ((t : ℕ) → t ≤ c.last → flag_at flags t ≡ is_open c i t) → v ≤ c.last
    → flag_at flags v ≡ true → pay_day (flag_at flags) (length flags - 1) (instrument c i).lag v ≡ pays c i v
pays-of c i v flags count each day open_there =
    let last : length flags - 1 ≡ c.last = omega (arith, count) in
    ap (λ n. pay_day (flag_at flags) n (instrument c i).lag v) last
    ∙ pay_day-cong (flag_at flags) (is_open c i) c.last (instrument c i).lag v (λ x _ within. each x within)
    ∙ sym (ap (λ b. if b then pay_day (is_open c i) c.last (instrument c i).lag v else None) (sym (each v day) ∙ open_there))

-- on a closed day nothing is paid
pub pays-none : (c : CaseView) (i v : ℕ) → is_open c i v ≡ false → pays c i v ≡ None
pays-none c i v closed = ap (λ b. if b then pay_day (is_open c i) c.last (instrument c i).lag v else None) closed

-- one more market, with its flags
pub one-more-market : (holidays : List (List ℤ)) (dates : List ℤ) (flags : List (List Bool)) (hs : List ℤ) (fs : List Bool)
    → AreOpenDays holidays dates flags → AreOpenFlags hs dates fs → AreOpenDays (holidays ++ (hs ∷ [])) dates (flags ++ (fs ∷ []))
one-more-market holidays dates flags hs fs all one = record {
  count = omega (arith, length-append holidays (hs ∷ []), length-append flags (fs ∷ []), all.count);
  each = λ m within. split m (le-or m within);
}
  where
    le-or : (m : ℕ) → m < length (holidays ++ (hs ∷ [])) → (m < length holidays) ⊎ (m ≡ length holidays)
    le-or m within = below-or m (length holidays) (omega (arith, within, length-append holidays (hs ∷ [])))

    split : (m : ℕ) → (m < length holidays) ⊎ (m ≡ length holidays) → AreOpenFlags (row_at (holidays ++ (hs ∷ [])) m) dates (row_at (flags ++ (fs ∷ [])) m)
    split m (inl here) =
        let there : m < length flags = omega (arith, here, all.count) in
        rw (get_or_append_left holidays (hs ∷ []) [] m here, get_or_append_left flags (fs ∷ []) [] m there) (all.each m here)
    split m (inr last) = rw (last-of holidays hs m last, last-of flags fs m (last ∙ sym all.count)) one

-- a market has no more holidays than a case may
pub few-holidays : (b : Book) (m : ℕ) (v : Vec Date Global) → IsCase (book_view b) → m < length b.holidays.items → v ≡ get_or b.holidays.items m v → length v.items ≤ 400
few-holidays b m v kept within e =
    let listed : m < length (book_view b).holidays = omega (arith, within, length-map b.holidays.items (λ v. map epoch_day v.items)) in
    let row : row_at (book_view b).holidays m ≡ map epoch_day v.items = get_or-map (λ v. map epoch_day v.items) b.holidays.items m v [] within ∙ ap (λ v. map epoch_day v.items) (sym e) in
    let few : length (row_at (book_view b).holidays m) ≤ 400 = (kept.holidays.2 m [] listed).0 in
    omega (arith, few, ap length row, length-map v.items epoch_day)
