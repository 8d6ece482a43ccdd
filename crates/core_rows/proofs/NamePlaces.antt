-- The place of a name among keys that are seen by their bytes.
use Rattle.std.proofs.Common.{◌≡◌, refl, sym, ◌∙◌, ap, ℕ, ◌+◌, Bool, true, false, ◌||◌, cond, ltb, not, List, [], ◌∷◌, length, map, position, Some, None, Bor, arith}
use Rattle.std.specs.Str.{bytes_eq}
use Rattle.std.specs.List.{list_any, prefix_len, position_or_len}
use Rattle.std.proofs.lemmas.Bool.Decides.{nat_tests}
use Rattle.std.proofs.lemmas.Cmp.{nat_list_eq_equiv}
use Rattle.std.proofs.lemmas.List.Sums.{prefix_len-le-length}
use Rattle.core_rows.specs.Names.{place_of}

-- the test of bytes is the same either way round
pub bytes_eq-sym : (xs ys : List ℕ) → bytes_eq xs ys ≡ bytes_eq ys xs
bytes_eq-sym xs ys = nat_list_eq_equiv.symm xs ys

-- whether an element passes, seen by a map
pub list_any-map : {K A : Type 0} (p : A → Bool) (seen : K → A) (keys : List K) → list_any p (map seen keys) ≡ list_any (λ k. p (seen k)) keys
list_any-map p seen [] = refl
list_any-map p seen (k ∷ keys) = ap (λ b. p (seen k) || b) (list_any-map p seen keys)

-- the front of a list that passes, seen by a map
pub prefix_len-map : {K A : Type 0} (p : A → Bool) (seen : K → A) (keys : List K) → prefix_len p (map seen keys) ≡ prefix_len (λ k. p (seen k)) keys
prefix_len-map p seen [] = refl
prefix_len-map p seen (k ∷ keys) = ap (λ n. cond (p (seen k)) (1 + n) 0) (prefix_len-map p seen keys)

-- what `position` gives is the first place that passes, and none only where no place does
pub position-here : {K : Type 0} (p : K → Bool) (keys : List K) (i : ℕ) → position p keys ≡ Some i → i ≡ position_or_len p keys
position-here p keys i = here (ltb (position_or_len p keys) (length keys))
  where
    here : (b : Bool) → cond b (Some (position_or_len p keys)) None ≡ Some i → i ≡ position_or_len p keys
    here true e = cc
    here false e = cc

pub position-past : {K : Type 0} (p : K → Bool) (keys : List K) → position p keys ≡ None → length keys ≡ position_or_len p keys
position-past p keys = past (ltb (position_or_len p keys) (length keys)) refl
  where
    past : (b : Bool) → ltb (position_or_len p keys) (length keys) ≡ b → cond b (Some (position_or_len p keys)) None ≡ None → length keys ≡ position_or_len p keys
    past true e h = cc
    past false e h = grind (arith, nat_tests, prefix_len-le-length (λ k. not (p k)) keys)

-- the place of a name that is found among the keys, and of one that is not
pub place-found : (name : List ℕ) (keys : List (Bor (List ℕ))) (i : ℕ) → position (λ k. bytes_eq name k.now) keys ≡ Some i → i ≡ place_of name (map (λ k. k.now) keys)
place-found name keys i e = position-here (λ k. bytes_eq name k.now) keys i e ∙ sym (prefix_len-map (λ k. not (bytes_eq name k)) (λ k. k.now) keys)

pub place-missing : (name : List ℕ) (keys : List (Bor (List ℕ))) → position (λ k. bytes_eq name k.now) keys ≡ None → length keys ≡ place_of name (map (λ k. k.now) keys)
place-missing name keys e = position-past (λ k. bytes_eq name k.now) keys e ∙ sym (prefix_len-map (λ k. not (bytes_eq name k)) (λ k. k.now) keys)
