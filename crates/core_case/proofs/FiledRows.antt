-- A loop over the rows of a register, against a test on the records of a kind among them.
use Rattle.std.proofs.Common.{◌≡◌, ◌∙◌, refl, sym, ap, ℕ, ◌+◌, ◌<◌, ◌≤◌, List, [], ◌∷◌, length, map, filter, take, get_or, Bool, true, false, not, ◌&&◌, ◌||◌, nat_lt, arith}
use Rattle.std.proofs.lemmas.Bool.{lt-ltb}
use Rattle.std.specs.List.{list_all}
use Rattle.std.proofs.lemmas.List.{take_all}
use Rattle.std.proofs.lemmas.List.Folds.{list_all-map, list_all_more, list_all_at}
use Rattle.core_rows.specs.Names.{Record}
use Rattle.core_case.specs.declared.register.KnownRecord.{KnownRecord}

-- whether a record passes the test, or is not among those that are tested
abbrev pub passes : (Record → Bool) → (Record → Bool) → Record → Bool
passes among test r = not (among r) || test r

-- each of the first i rows does
abbrev pub ArePassed : (Record → Bool) → (Record → Bool) → List KnownRecord → ℕ → Type 0
ArePassed among test rows i = list_all (λ r. passes among test r.fields.now) (take i rows) ≡ true

-- a test of what a filter leaves, record by record
all-filtered : (among test : Record → Bool) (rs : List Record) → list_all test (filter among rs) ≡ list_all (passes among test) rs
all-filtered among test [] = refl
all-filtered among test (r ∷ rs) = split (among r) refl (all-filtered among test rs)
  where
    split : (b : Bool) → among r ≡ b → list_all test (filter among rs) ≡ list_all (passes among test) rs → list_all test (filter among (r ∷ rs)) ≡ list_all (passes among test) (r ∷ rs)
    split true e more = rw (e, more) refl
    split false e more = rw (e, more) refl

-- and row by row
all-rows : (among test : Record → Bool) (rows : List KnownRecord) (rs : List Record) → map (λ r. r.fields.now) rows ≡ rs
    → list_all test (filter among rs) ≡ list_all (λ r. passes among test r.fields.now) rows
all-rows among test rows rs are =
    ap (λ xs. list_all test (filter among xs)) (sym are) ∙ all-filtered among test (map (λ r. r.fields.now) rows) ∙ list_all-map (passes among test) (λ r. r.fields.now) rows

-- one row more
pub passed-more : (among test : Record → Bool) (rows : List KnownRecord) (i : ℕ) (row : KnownRecord) → ArePassed among test rows i → i < length rows
    → row ≡ get_or rows i row → passes among test row.fields.now ≡ true → ArePassed among test rows (i + 1)
passed-more among test rows i row before within is here =
    let at : passes among test (get_or rows i row).fields.now ≡ true = ap (λ x. passes among test x.fields.now) (sym is) ∙ here in
    list_all_more (λ r. passes among test r.fields.now) rows i row within ∙ ap (λ b. b && passes among test (get_or rows i row).fields.now) before ∙ at

-- a row that is not tested
pub passed-other : (among test : Record → Bool) (row : Record) → among row ≡ false → passes among test row ≡ true
passed-other among test row e = rw e refl

-- and one that passes
pub passed-test : (among test : Record → Bool) (row : Record) → test row ≡ true → passes among test row ≡ true
passed-test among test row e = split (among row) refl
  where
    split : (b : Bool) → among row ≡ b → passes among test row ≡ true
    split true a = rw (a, e) refl
    split false a = rw a refl

-- all rows
pub passed-all : (among test : Record → Bool) (rows : List KnownRecord) (i : ℕ) (rs : List Record) → ArePassed among test rows i → length rows ≤ i
    → map (λ r. r.fields.now) rows ≡ rs → true ≡ list_all test (filter among rs)
passed-all among test rows i rs before all are =
    sym (all-rows among test rows rs are ∙ ap (list_all (λ r. passes among test r.fields.now)) (sym (take_all i rows all)) ∙ before)

-- a row that fails
pub failed-at : (among test : Record → Bool) (rows : List KnownRecord) (i : ℕ) (row : KnownRecord) (rs : List Record) → i < length rows → row ≡ get_or rows i row
    → among row.fields.now ≡ true → test row.fields.now ≡ false → map (λ r. r.fields.now) rows ≡ rs → false ≡ list_all test (filter among rs)
failed-at among test rows i row rs within is there fails are =
    let here : passes among test row.fields.now ≡ false = rw (there, fails) refl in
    let at : passes among test (get_or rows i row).fields.now ≡ false = ap (λ x. passes among test x.fields.now) (sym is) ∙ here in
    sym (all-rows among test rows rs are ∙ list_all_at (λ r. passes among test r.fields.now) rows i row within at)

-- a list with an element is one whose elements do not all fail
pub some-filtered : (rs : List Record) → nat_lt 0 (length rs) ≡ not (list_all (λ r. false) rs)
some-filtered [] = refl
some-filtered (r ∷ rs) = lt-ltb 0 (length (r ∷ rs)) (omega arith)
