-- What has been printed of rows, with one row more.
use Rattle.std.proofs.Common.{◌≡◌, ◌∷◌, ◌++◌, ◌∙◌, [], ℕ, suc, zero, ◌+◌, ◌-◌, ◌≤◌, List, append_assoc, add-one, refl, sym, ap, arith}
use Rattle.std.proofs.lemmas.List.{append-nil}
use Rattle.core_sums.specs.Places.{below, days_to, each}
use Rattle.core_rows.specs.Names.{Record}
use Rattle.core_rows.specs.Written.{rows_text}
use Rattle.core_cert.proofs.Printed.{rows_text-append, rows_text-none}

-- what a joined list, a list of one and a list with one more at its end give
pub each-append : (xs ys : List ℕ) (f : ℕ → List Record) → each (xs ++ ys) f ≡ each xs f ++ each ys f
unfolding each
each-append [] ys f = refl
each-append (x ∷ xs) ys f = rw (each-append xs ys f) (sym (append_assoc (f x) (each xs f) (each ys f)))

pub each-one : (x : ℕ) (f : ℕ → List Record) → each (x ∷ []) f ≡ f x
unfolding each
each-one x f = append-nil (f x)

pub each-last : (xs : List ℕ) (x : ℕ) (f : ℕ → List Record) → rows_text (each (xs ++ (x ∷ [])) f) ≡ rows_text (each xs f) ++ rows_text (f x)
each-last xs x f = rw (each-append xs (x ∷ []) f, each-one x f) (rows_text-append (each xs f) (f x))

-- nothing is printed at first
pub none_below : (f : ℕ → List Record) (text : List ℕ) → text ≡ text ++ rows_text (each (below 0) f)
unfolding below each
none_below f text = rw rows_text-none (sym (append-nil text))

pub no_days : (f : ℕ → List Record) (text : List ℕ) → text ≡ text ++ rows_text (each (days_to 0) f)
unfolding days_to each
no_days f text = rw rows_text-none (sym (append-nil text))

joined : (xs : List ℕ) (x : ℕ) (f : ℕ → List Record) (start now next : List ℕ)
    → now ≡ start ++ rows_text (each xs f) → next ≡ now ++ rows_text (f x) → next ≡ start ++ rows_text (each (xs ++ (x ∷ [])) f)
joined xs x f start now next before e = e ∙ ap (λ t. t ++ rows_text (f x)) before
    ∙ append_assoc start (rows_text (each xs f)) (rows_text (f x)) ∙ ap (λ t. start ++ t) (sym (each-last xs x f))

-- one more index
pub one_more : (n : ℕ) (f : ℕ → List Record) (start now next : List ℕ)
    → now ≡ start ++ rows_text (each (below n) f) → next ≡ now ++ rows_text (f n) → next ≡ start ++ rows_text (each (below (n + 1)) f)
unfolding below
one_more n f start now next before e = rw (add-one n) (joined (below n) n f start now next before e)

-- one more day
pub one_day_more : (u : ℕ) (f : ℕ → List Record) (start now next : List ℕ)
    → 1 ≤ u → now ≡ start ++ rows_text (each (days_to (u - 1)) f) → next ≡ now ++ rows_text (f u) → next ≡ start ++ rows_text (each (days_to u) f)
unfolding days_to
one_day_more zero f start now next low before e = absurd (omega (arith, low))
one_day_more (suc v) f start now next low before e =
    let same : suc v - 1 ≡ v = omega arith in
    joined (days_to v) (suc v) f start now next (rw same at before) e
