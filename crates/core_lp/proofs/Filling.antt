-- A programme that is filled row by row, and each row column by column.
use Rattle.std.proofs.Common.{◌≡◌, ◌≢◌, refl, sym, ◌∙◌, ap, ap₂, ℕ, ◌+◌, ◌<◌, ◌⊎◌, inl, inr, ℤ, pos, List, length, get_or, set, map, replicate, arith, below_more}
use Rattle.std.proofs.lemmas.Bool.{cases_eq}
use Rattle.std.proofs.lemmas.List.{get_or-set_same, get_or-set_other, length-set, length-map, length-replicate, get_or-replicate, set-set, ext_get_or, get_or-map}
use Rattle.core_sums.specs.Places.{at}
use Rattle.core_book.specs.View.{CaseView}
use Rattle.core_dict.specs.Programme.{ProgrammeView, Row, row, height, no_row, zeros, with_entry, with_bound}
use Rattle.core_lp.specs.declared.names.Col.{Col}
use Rattle.core_lp.specs.declared.names.Col.TheVariants as col
use Rattle.core_lp.specs.declared.names.RowName.{RowName}
use Rattle.core_lp.specs.declared.names.RowName.TheVariants as name
use Rattle.core_lp.specs.CaseProgramme.{columns, row_names, entry_at, bound_of, row_of, programme_of}
use Rattle.core_lp.specs.Named.{with_row}

-- row i of p0 has another bound and its first entries, and nothing else is changed
pub record IsFilled (p0 : ProgrammeView) (i : ℕ) (f : ℕ → ℤ) (b : ℤ) (j : ℕ) (p : ProgrammeView) : Type 0 where
  pub rest : p ≡ with_row p0 i (row p i)
  pub bound : (row p i).bound ≡ b
  pub width : length (row p i).entries ≡ length (row p0 i).entries
  pub done : (k : ℕ) → k < j → at (row p i).entries k ≡ f k

module _ (p0 : ProgrammeView) (i : ℕ) (f : ℕ → ℤ) (b : ℤ) (inside : i < height p0) where
  -- with its bound alone
  pub filled-none : IsFilled p0 i f b 0 (with_bound p0 i b)
  filled-none =
      let r : Row = record (row p0 i) { bound = b } in
      let here : row (with_bound p0 i b) i ≡ r = get_or-set_same p0.rows i r no_row inside in
      record {
        rest = ap (with_row p0 i) (sym here);
        bound = ap (λ (x : Row). x.bound) here;
        width = ap (λ (x : Row). length x.entries) here;
        done = λ k l. absurd (omega (arith, l));
      }

  -- the height and the number of columns stay
  pub filled-height : (j : ℕ) (p : ProgrammeView) → IsFilled p0 i f b j p → height p ≡ height p0
  filled-height j p h = ap height h.rest ∙ length-set p0.rows i (row p i)

  pub filled-cols : (j : ℕ) (p : ProgrammeView) → IsFilled p0 i f b j p → p.cols ≡ p0.cols
  filled-cols j p h = ap (λ (q : ProgrammeView). q.cols) h.rest

  -- and with one entry more
  pub filled-more : (j : ℕ) (p : ProgrammeView) (z : ℤ) → IsFilled p0 i f b j p → j < length (row p0 i).entries → z ≡ f j
      → IsFilled p0 i f b (j + 1) (with_entry p i j z)
  filled-more j p z h l e = record {
    rest = ap (λ (q : ProgrammeView). record q { rows = set q.rows i next }) h.rest
        ∙ ap (λ (xs : List Row). record p0 { rows = xs }) (set-set p0.rows i (row p i) next)
        ∙ ap (with_row p0 i) (sym here);
    bound = ap (λ (x : Row). x.bound) here ∙ h.bound;
    width = ap (λ (x : Row). length x.entries) here ∙ length-set (row p i).entries j z ∙ h.width;
    done = below_more (λ (k : ℕ). at (row (with_entry p i j z) i).entries k ≡ f k) j
        (λ k m. ap (λ (x : Row). at x.entries k) here
        ∙ get_or-set_other (row p i).entries j k z (pos 0) (λ g. omega (arith, m, g)) ∙ h.done k m)
        (ap (λ (x : Row). at x.entries j) here ∙ get_or-set_same (row p i).entries j z (pos 0) here-in ∙ e);
  }
    where
      next : Row
      next = record (row p i) { entries = set (row p i).entries j z }

      here-in : j < length (row p i).entries
      here-in = let w = h.width in omega (arith, l, w)

      here : row (with_entry p i j z) i ≡ next
      here = get_or-set_same p.rows i next no_row (let e = filled-height j p h in omega (arith, e, inside))

-- a row with all its entries
pub filled-all : (c : CaseView) (p0 : ProgrammeView) (i j : ℕ) (cols : List Col) (x : RowName) (p : ProgrammeView)
    → length (row p0 i).entries ≡ length cols → cols ≡ columns c → j ≡ length cols
    → IsFilled p0 i (λ k. entry_at c x (get_or cols k col.Loss)) (bound_of c x) j p → p ≡ with_row p0 i (row_of c x)
filled-all c p0 i j cols x p w is last h =
    h.rest ∙ ap (with_row p0 i) (ap₂ (λ (es : List ℤ) (b : ℤ). record { entries = es; bound = b }) entries h.bound)
  where
    count : length (row p i).entries ≡ length cols
    count = h.width ∙ w

    entries : (row p i).entries ≡ map (entry_at c x) (columns c)
    entries =
        ext_get_or (pos 0) (row p i).entries (map (entry_at c x) cols) (count ∙ sym (length-map cols (entry_at c x)))
        (λ k l. h.done k (omega (arith, l, count, last))
        ∙ sym (get_or-map (entry_at c x) cols k col.Loss (pos 0) (omega (arith, l, count))))
        ∙ ap (map (entry_at c x)) is

-- the first rows are those of their names
pub record IsBegun (c : CaseView) (width : ℕ) (names : List RowName) (i : ℕ) (p : ProgrammeView) : Type 0 where
  pub count : p.cols ≡ width
  pub rows : height p ≡ length names
  pub widths : (k : ℕ) → k < length names → length (row p k).entries ≡ width
  pub done : (k : ℕ) → k < i → row p k ≡ row_of c (get_or names k (name.Full 0))

pub begun-none : (c : CaseView) (width : ℕ) (names : List RowName) → IsBegun c width names 0 (zeros (length names) width)
begun-none c width names = record {
  count = refl;
  rows = length-replicate (length names) _;
  widths = λ k l. ap (λ (x : Row). length x.entries) (get_or-replicate (length names) k
      (record { entries = replicate width (pos 0); bound = pos 0 }) no_row l) ∙ length-replicate width (pos 0);
  done = λ k l. absurd (omega (arith, l));
}

pub begun-more : (c : CaseView) (width : ℕ) (names : List RowName) (i : ℕ) (p : ProgrammeView) (x : RowName)
    → IsBegun c width names i p → i < length names → width ≡ length (columns c) → x ≡ get_or names i (name.Full 0)
    → IsBegun c width names (i + 1) (with_row p i (row_of c x))
begun-more c width names i p x h l w e = record {
  count = h.count;
  rows = length-set p.rows i (row_of c x) ∙ h.rows;
  widths = λ k m. by k m (cases_eq k i);
  done = below_more (λ (k : ℕ). row (with_row p i (row_of c x)) k ≡ row_of c (get_or names k (name.Full 0))) i
      (λ k m. get_or-set_other p.rows i k (row_of c x) no_row (λ g. omega (arith, m, g)) ∙ h.done k m)
      (here ∙ ap (row_of c) e);
}
  where
    here : row (with_row p i (row_of c x)) i ≡ row_of c x
    here = get_or-set_same p.rows i (row_of c x) no_row (let n = h.rows in omega (arith, l, n))

    by : (k : ℕ) → k < length names → (k ≡ i) ⊎ (k ≢ i) → length (row (with_row p i (row_of c x)) k).entries ≡ width
    by k m (inl f) =
        ap (λ (n : ℕ). length (row (with_row p i (row_of c x)) n).entries) f ∙ ap (λ (y : Row). length y.entries) here
        ∙ length-map (columns c) (entry_at c x) ∙ sym w
    by k m (inr d) =
        ap (λ (y : Row). length y.entries) (get_or-set_other p.rows i k (row_of c x) no_row d) ∙ h.widths k m

pub begun-all : (c : CaseView) (width i : ℕ) (names : List RowName) (p : ProgrammeView) → IsBegun c width names i p
    → i ≡ length names → width ≡ length (columns c) → names ≡ row_names c → p ≡ programme_of c
begun-all c width i names p h last w is =
    ap₂ (λ (n : ℕ) (xs : List Row). record { cols = n; rows = xs }) (h.count ∙ w)
    (ext_get_or no_row p.rows (map (row_of c) names) (h.rows ∙ sym (length-map names (row_of c)))
    (λ k l. h.done k (let n = h.rows in omega (arith, l, n, last))
    ∙ sym (get_or-map (row_of c) names k (name.Full 0) no_row (let n = h.rows in omega (arith, l, n))))
    ∙ ap (map (row_of c)) is)
