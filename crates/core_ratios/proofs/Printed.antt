-- What is printed of rows, one after the other.
use Rattle.std.proofs.Common.{◌≡◌, ◌++◌, ◌+◌, ◌∙◌, [], ℕ, List, append_assoc, sym, ap}
use Rattle.std.proofs.lemmas.List.{append-nil}
use Rattle.core_sums.specs.Places.{below, each}
use Rattle.core_sums.proofs.Joined.{each-append, each-more, each-none}
use Rattle.core_rows.specs.Fields.{row_text}
use Rattle.core_rows.specs.Names.{Record}
use Rattle.core_rows.specs.Written.{rows_text}

-- the rows are printed behind a start
abbrev pub Prints : List ℕ → List Record → List ℕ → Type 0
Prints start rows now = now ≡ start ++ rows_text rows

-- rows and more rows
pub prints-on : (start now next : List ℕ) (xs ys : List Record) → Prints start xs now → Prints now ys next → Prints start (xs ++ ys) next
prints-on start now next xs ys first second =
    second
    ∙ ap (λ t. t ++ rows_text ys) first
    ∙ append_assoc start (rows_text xs) (rows_text ys)
    ∙ ap (λ t. start ++ t) (sym (each-append xs ys row_text))

-- nothing
pub prints-none : (start : List ℕ) → Prints start [] start
unfolding each
prints-none start = sym (append-nil start)

-- the rows of the numbers below a count
pub prints-first : (f : ℕ → List Record) (start : List ℕ) → Prints start (each (below 0) f) start
prints-first f start = prints-none start ∙ ap (λ rows. start ++ rows_text rows) (sym (each-none f))

pub prints-more : (n : ℕ) (f : ℕ → List Record) (start now next : List ℕ) → Prints start (each (below n) f) now → Prints now (f n) next
    → Prints start (each (below (n + 1)) f) next
prints-more n f start now next before step =
    prints-on start now next (each (below n) f) (f n) before step ∙ ap (λ rows. start ++ rows_text rows) (sym (each-more n f))

-- the same rows in another form
pub prints-same : (start now : List ℕ) (xs ys : List Record) → xs ≡ ys → Prints start xs now → Prints start ys now
prints-same start now xs ys same printed = printed ∙ ap (λ rows. start ++ rows_text rows) same
