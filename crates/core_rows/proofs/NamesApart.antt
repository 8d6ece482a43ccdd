-- Names that differ, inserted one after another into a set.
use Rattle.std.proofs.Common.{◌≡◌, ◌≢◌, sym, ◌∙◌, ap, ℕ, ◌+◌, ◌<◌, Bool, false, if◌then◌else◌, List, [], ◌∷◌, ◌++◌, length, map, get_or, take, Bor, arith}
use Rattle.std.specs.List.{AllPairs, list_any}
use Rattle.std.specs.Str.{bytes_eq}
use Rattle.std.proofs.lemmas.List.{take_more, get_or_read, get_or-take, map_push, length-take-le}
use Rattle.std.proofs.lemmas.List.Folds.{list_any_none}
use Rattle.std.proofs.lemmas.Slice.Eq.{bytes_eq-Decides}
use Rattle.std.proofs.lemmas.Bool.{false_from_ne_true}
use Rattle.core_rows.proofs.NamePlaces.{list_any-map}

-- names that differ are not equal by their bytes
differ : (a b : List ℕ) → a ≢ b → bytes_eq b a ≡ false
differ a b apart = false_from_ne_true (bytes_eq b a) (λ e. apart (sym ((bytes_eq-Decides b a).0 e)))

-- a name is none of those before it
is_new : (names : List (List ℕ)) (m : ℕ) (name : List ℕ) → AllPairs (λ x y. x ≢ y) names → m < length names → name ≡ get_or names m name
    → list_any (bytes_eq name) (take m names) ≡ false
is_new names m name apart within e = list_any_none (bytes_eq name) (take m names) (λ k d h.
    let below : k < m = omega (arith, h, length-take-le m names (omega arith)) in
    let here : get_or (take m names) k d ≡ get_or names k d = get_or-take m names k d below in
    let other : get_or names m d ≡ name = sym (get_or_read names m name within e d) in
    differ (get_or (take m names) k d) name (λ same. apart k m d below within (sym here ∙ same ∙ sym other)))

-- the keys after one more that is none of them
pub inserted : {K A : Type 0} (seen : K → A) (same : K → K → Bool) (keys new : List K) (key : K) (before : List A) → list_any (same key) keys ≡ false
    → new ≡ (if list_any (same key) keys then keys else keys ++ (key ∷ [])) → map seen keys ≡ before → map seen new ≡ before ++ (seen key ∷ [])
inserted seen same keys new key before absent is are =
    ap (map seen) (is ∙ ap (λ b. if b then keys else keys ++ key ∷ []) absent) ∙ map_push seen keys key ∙ ap (λ xs. xs ++ seen key ∷ []) are

-- the keys after one more name
pub one_more_name : (names : List (List ℕ)) (m next : ℕ) (keys new : List (Bor (List ℕ))) (key : Bor (List ℕ)) → next ≡ m + 1
    → AllPairs (λ x y. x ≢ y) names → m < length names → key.now ≡ get_or names m key.now
    → map (λ k. k.now) keys ≡ take m names → new ≡ (if list_any (λ k. bytes_eq key.now k.now) keys then keys else keys ++ (key ∷ []))
    → map (λ k. k.now) new ≡ take next names
one_more_name names m next keys new key step apart within e before is =
    let absent : list_any (λ k. bytes_eq key.now k.now) keys ≡ false =
    sym (list_any-map (bytes_eq key.now) (λ k. k.now) keys) ∙ ap (list_any (bytes_eq key.now)) before ∙ is_new names m key.now apart within e in
    inserted (λ k. k.now) (λ a b. bytes_eq a.now b.now) keys new key (take m names) absent is before
    ∙ ap (λ x. take m names ++ x ∷ []) e ∙ sym (ap (λ n. take n names) step ∙ take_more names m key.now within)
