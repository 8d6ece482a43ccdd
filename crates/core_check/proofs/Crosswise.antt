-- Fractions in lowest terms are equal exactly where the products crosswise of the numbers that they come from are.
use Rattle.std.proofs.Common.{◌≡◌, ap, subst, ℕ, ◌*◌, ◌+◌, ◌<◌, ◌≤◌, arith, ℤ, pos, negsuc, ◌*ℤ◌, ◌≤ℤ◌, unsigned_abs}
use Rattle.std.specs.Bool.{Decides}
use Rattle.std.specs.Cmp.{Equal-is, tied_itself}
use Rattle.std.specs.Ordering.{is_eq, int_eq}
use Rattle.std.specs.declared.cmp.Ordering.TheVariants.{Equal}
use Rattle.std.proofs.lemmas.Int.{ints}
use Rattle.std.proofs.lemmas.Bool.Decides.{Decides-int_eq, Decides-like, same_from_decides}
use borrow.Author.Differences.{up, down, same_in, product_is}
use Rattle.fractions.specs.Fraction.{Fraction, reduce, ◌≤ℚ◌}
use Rattle.fractions.specs.Order.{q_cmp}
use Rattle.fractions.proofs.Values.{HasValue, value_reduce, same, values_from_le}
use Rattle.fractions.proofs.Laws.{≤ℚ_refl}
use Rattle.fractions.proofs.Order.{q_total, q_same}

-- the values of one fraction have the same products crosswise
products_from_same : {q r : Fraction} (n m : ℤ) (d e : ℕ) → HasValue q (up n) (down n) d → HasValue r (up m) (down m) e → q ≡ r → n *ℤ pos e ≡ m *ℤ pos d
products_from_same {q} {r} n m d e v w h =
    let low : up n * e + down m * d ≤ up m * d + down n * e = values_from_le v w (subst (λ (z : Fraction). q ≤ℚ z) h (≤ℚ_refl q)) in
    let high : up m * d + down n * e ≤ up n * e + down m * d = values_from_le w v (subst (λ (z : Fraction). z ≤ℚ q) h (≤ℚ_refl q)) in
    same_in (n *ℤ pos e) (m *ℤ pos d) (omega (arith, product_is n (pos e), product_is m (pos d)))

-- fractions whose values have the same products crosswise are one
same_from_products : {q r : Fraction} (n m : ℤ) (d e : ℕ) → HasValue q (up n) (down n) d → HasValue r (up m) (down m) e → n *ℤ pos e ≡ m *ℤ pos d → q ≡ r
same_from_products n m d e v w h = same v w (omega (arith, ap up h, ap down h, product_is n (pos e), product_is m (pos d)))

-- the comparison of a fraction with an equal one
tied : (q r : Fraction) → q ≡ r → q_cmp q r ≡ Equal
tied q r h = subst (λ (z : Fraction). q_cmp q z ≡ Equal) h (tied_itself (q_total (λ (z : Fraction). z)) q)

-- the comparison in lowest terms tells whether the products crosswise are equal
compared-Decides : (n m : ℤ) (d e : ℕ) → 0 < d → 0 < e → Decides (is_eq (q_cmp (reduce n d) (reduce m e))) (n *ℤ pos e ≡ m *ℤ pos d)
compared-Decides n m d e h k =
    let v = value_reduce n d h in
    let w = value_reduce m e k in
    Decides-like (is_eq (q_cmp (reduce n d) (reduce m e)))
    (λ t. products_from_same n m d e v w (q_same (reduce n d) (reduce m e) t))
    (λ t. tied (reduce n d) (reduce m e) (same_from_products n m d e v w t))
    (Equal-is (q_cmp (reduce n d) (reduce m e)))

-- so it answers as the comparison of the products does
pub same_ratio : (n d m e : ℤ) → pos 1 ≤ℤ d → pos 1 ≤ℤ e → is_eq (q_cmp (reduce n (unsigned_abs d)) (reduce m (unsigned_abs e))) ≡ int_eq (n *ℤ e) (m *ℤ d)
same_ratio n (pos d) m (pos e) h k =
    same_from_decides (is_eq (q_cmp (reduce n d) (reduce m e))) (int_eq (n *ℤ pos e) (m *ℤ pos d))
    (compared-Decides n m d e (omega (arith, ints)) (omega (arith, ints)))
    (Decides-int_eq (n *ℤ pos e) (m *ℤ pos d))
same_ratio n (negsuc d) m e h k = absurd (omega (arith, ints))
same_ratio n (pos d) m (negsuc e) h k = absurd (omega (arith, ints))
