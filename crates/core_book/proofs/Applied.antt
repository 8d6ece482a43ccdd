-- A book and a case after an edit.
use Rattle.std.proofs.Common.{◌≡◌, sym, ◌∙◌, ap, ap₂, subst, ℕ, ◌-◌, ◌<◌, List, [], length, map, set, get_or, ℤ, Vec, Global}
use Rattle.std.proofs.lemmas.List.{get_or-map, length-map, map-set}
use Rattle.jiff.specs.Words.{epoch_day}
use Rattle.core_sums.specs.Places.{row_at}
use Rattle.core_days.specs.Flags.{AreHouseDays}
use Rattle.core_book.specs.View.{CaseView, no_tier, tiers}
use Rattle.core_book.specs.WellFormed.{IsCase}
use Rattle.core_book.specs.Inside.{book_view, depth_view, tier_view, AreOpenDays, HasDays}
use Rattle.core_book.specs.Edits.{IsEdit, applied, tier_at, with_limit, with_tier}
use Rattle.core_book.specs.Neighbours.{bare_case}
use Rattle.core_book.specs.declared.edit.Edit.{Edit}
use Rattle.core_book.specs.declared.parts.Tier.{Tier}
use Rattle.core_book.specs.declared.book.Book.{Book}
use Rattle.core_book.specs.declared.case.Case.TheInside.{Inside}
use Rattle.core_book.proofs.Edited.{edited-case, edited-bare}
use Rattle.core_book.proofs.Neighbours.{bare-tiers}

-- an instrument's tiers, and how many there are
row-of : (depth : List (Vec Tier Global)) (i : ℕ) (v : Vec Tier Global) → i < length depth → v ≡ get_or depth i v
    → row_at (depth_view depth) i ≡ map tier_view v.items
row-of depth i v known found =
    get_or-map (λ v. map tier_view v.items) depth i v [] known ∙ ap (λ v. map tier_view v.items) (sym found)

pub row-length : (depth : List (Vec Tier Global)) (i : ℕ) (v : Vec Tier Global) → i < length depth → v ≡ get_or depth i v
    → length (row_at (depth_view depth) i) ≡ length v.items
row-length depth i v known found = ap length (row-of depth i v known found) ∙ length-map v.items tier_view

-- the tiers after one limit is put
pub limit-put : (depth : List (Vec Tier Global)) (i j u : ℕ) (amount : ℤ) (v w : Vec Tier Global) (t t' : Tier)
    → i < length depth → j - 1 < length v.items → v ≡ get_or depth i v → t ≡ get_or v.items (j - 1) t
    → w.items ≡ set v.items (j - 1) t' → t'.cost ≡ t.cost → t'.limits.items ≡ set t.limits.items (u - 1) amount
    → depth_view (set depth i w) ≡ with_tier (depth_view depth) i j (with_limit (tier_at (depth_view depth) i j) u amount)
limit-put depth i j u amount v w t t' known within found tier put cost limits =
    let row = row-of depth i v known found in
    let old : tier_at (depth_view depth) i j ≡ tier_view t =
    ap (λ xs. get_or xs (j - 1) no_tier) row ∙ get_or-map tier_view v.items (j - 1) t no_tier within ∙ ap tier_view (sym tier) in
    let new : tier_view t' ≡ with_limit (tier_at (depth_view depth) i j) u amount =
    ap₂ (λ x xs. record { cost = x; limits = xs }) cost limits ∙ ap (λ x. with_limit x u amount) (sym old) in
    map-set (λ v. map tier_view v.items) depth i w
    ∙ ap (set (depth_view depth) i)
    (ap (map tier_view) put ∙ map-set tier_view v.items (j - 1) t' ∙ ap₂ (λ xs x. set xs (j - 1) x) (sym row) new)

-- the case of the book after an edit keeps the same days
pub edited-days : (a : Inside) (book : Book) (c : CaseView) (edit : Edit) → book_view a.book ≡ c → HasDays a → IsEdit c edit
    → book_view book ≡ applied (book_view a.book) edit
    → HasDays record { book = book; days = a.days; open_days = a.open_days; tiers = a.tiers }
edited-days a book c edit view has is e =
    let same : bare_case (book_view book) ≡ bare_case (book_view a.book) = ap bare_case e ∙ edited-bare (book_view a.book) edit in
    let at : IsEdit (book_view a.book) edit = subst (λ (x : CaseView). IsEdit x edit) (sym view) is in
    record {
      kept = subst (λ (x : CaseView). IsCase x) (sym e) (edited-case (book_view a.book) edit has.kept at);
      days = subst (λ (x : CaseView). AreHouseDays x.start (row_at x.holidays 0) x.last (map epoch_day a.days.items)) (sym same) has.days;
      open_days = subst (λ (x : CaseView). AreOpenDays x.holidays (map epoch_day a.days.items) (map (λ v. v.items) a.open_days.items))
          (sym same) has.open_days;
      tiers = has.tiers ∙ sym (bare-tiers (book_view a.book)) ∙ ap tiers (sym same) ∙ bare-tiers (book_view book);
    }
