use Rattle.std.proofs.Common.{◌≡◌, ◌∙◌, ℕ, List, Bool, true, false, ◌-◌, length, take, replicate, refl, sym, ap, eq-eqb, eqb-true}
use Rattle.std.specs.Prelude.{◌&&◌, ◌==◌}
use Rattle.std.specs.Cmp.Lexicographic.{pointwise}
use Rattle.std.proofs.Math.Seq.{take-append_seam}
use Rattle.std.proofs.lemmas.Bool.Decides.{Decides-eqb}
use Rattle.std.proofs.lemmas.Slice.Eq.{slice_eq-Decides}
use Rattle.core_rows.specs.Names.{padded}
use Rattle.core_rows.proofs.name.names_equal_by_bytes.Goals as goal

-- both tests hold
both : (x y : Bool) → (x && y) ≡ true → (x ≡ true) × (y ≡ true)
both true y h = (refl, h)
both false y h = cc h

-- a name is the front of its padding
same_name : (a b : List ℕ) → padded a ≡ padded b → length a ≡ length b → a ≡ b
same_name a b same long =
    sym (take-append_seam a (replicate (12 - length a) 0)) ∙ ap (take (length a)) same ∙ ap (λ n. take n (padded b)) long
    ∙ take-append_seam b (replicate (12 - length b) 0)

pub returns : goal.returns
returns c = λ a b.
    let front = slice_eq-Decides Decides-eqb (padded a) (padded b) (pointwise (λ x y. x == y) (padded a) (padded b)) refl in (
      λ h. let tests = both (pointwise (λ x y. x == y) (padded a) (padded b)) (length a == length b) h in same_name a b (front.0 tests.0) (eqb-true (length a) (length b) tests.1),
      λ same. let first : pointwise (λ x y. x == y) (padded a) (padded b) ≡ true = front.1 (ap padded same) in rw (first, eq-eqb (length a) (length b) (ap length same)) refl,
    )
