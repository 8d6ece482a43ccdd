-- Records gone through one by one: those that are left, and an error that is passed on.
use Rattle.std.proofs.Common.{◌≡◌, sym, ◌∙◌, ap, subst, ℕ, suc, ◌+◌, ◌<◌, List, ◌∷◌, length, get_or, drop, drop-cons, arith, Result, Ok, Err}
use Rattle.std.specs.Result.{IfErr, IsErrAnd}
use Rattle.core_rows.specs.Names.{Record}

-- the records left are the one at hand and those after it
pub left-is : (rows : List Record) (i : ℕ) (row : Record) → i < length rows → row ≡ get_or rows i row → drop i rows ≡ row ∷ drop (i + 1) rows
left-is rows i row within at =
    let next : suc i ≡ i + 1 = omega arith in
    drop-cons rows i row within ∙ ap (λ r. r ∷ drop (suc i) rows) (sym at) ∙ ap (λ n. row ∷ drop n rows) next

-- an error that is passed on
pub error-same : {A E : Type 0} (P : E → Type 0) (answer : Result A E) (e : E) → IsErrAnd answer (λ x. x ≡ e) → P e → IfErr answer P
error-same P (Ok a) e is here = tt
error-same P (Err x) e is here = subst P (sym is) here
