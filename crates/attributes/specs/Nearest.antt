-- Division of a weighted sum by its weight, rounded once to the nearest whole number, a half to the greater.
-- What others know of the rule are the laws below; a change of it is made here.
use Rattle.std.specs.Prelude.{◌≡◌, ℕ, suc, ◌+◌, ◌*◌, ◌/◌, ◌<◌, ℤ, pos, negsuc, ◌+ℤ◌, ◌*ℤ◌, ◌≤ℤ◌, ◌<ℤ◌, refl}
use Rattle.std.proofs.Common.{ap, mul-add, mul-suc, mul_assoc, mul-le-mul_left, mod-lt, arith}
use Rattle.std.proofs.Math.Nat.{div-add-mod}
use borrow.Author.Differences.{ints, up, down, le_out, product_is}
use Rattle.std.proofs.lemmas.Int.{by_lt_z}
use Rattle.std.specs.Int.{int_div_euclid}

unfoldable pub nearest : ℤ → ℕ → ℤ
nearest s w = int_div_euclid (pos 2 *ℤ s +ℤ pos w) (pos (2 * w))

-- r is the whole number nearest to s / w, a half to the greater: r ≤ s / w + 1/2 < r + 1, times 2w
pub record Nearest (s : ℤ) (w : ℕ) (r : ℤ) : Type 0 where
  pub low : (pos (2 * w) *ℤ r) ≤ℤ (pos 2 *ℤ s +ℤ pos w)
  pub high : (pos 2 *ℤ s +ℤ pos w) <ℤ (pos (2 * w) *ℤ r +ℤ pos (2 * w))

-- `nearest` gives that number, no other is as near, and bounds of the sum are kept
pub record RoundedOnce : Type 0 where
  pub is_nearest : (s : ℤ) (w : ℕ) → 0 < w → Nearest s w (nearest s w)
  pub only : (s : ℤ) (w : ℕ) (q r : ℤ) → 0 < w → Nearest s w q → Nearest s w r → q ≡ r
  pub above : (s lo : ℤ) (w : ℕ) → 0 < w → (pos w *ℤ lo) ≤ℤ s → lo ≤ℤ nearest s w
  pub below : (s hi : ℤ) (w : ℕ) → 0 < w → s ≤ℤ (pos w *ℤ hi) → nearest s w ≤ℤ hi

-- ---- multiples of a whole number
pub times_mono : (k : ℕ) (a b : ℤ) → a ≤ℤ b → (pos k *ℤ a) ≤ℤ (pos k *ℤ b)
times_mono k a b h =
    omega (arith, ints, product_is (pos k) a, product_is (pos k) b, mul-le-mul_left k (le_out a b h), mul-add k (up a) (down b), mul-add k (up b) (down a))

times_next : (k : ℕ) (a : ℤ) → pos k *ℤ (a +ℤ pos 1) ≡ pos k *ℤ a +ℤ pos k
times_next k a =
    omega (arith, ints, product_is (pos k) a, product_is (pos k) (a +ℤ pos 1), mul-add k (up (a +ℤ pos 1)) (down a), mul-add k (down (a +ℤ pos 1)) (up a), mul-suc k (down (a +ℤ pos 1) + up a), ap (λ n. k * n) (next_is a))
  where
    next_is : (a : ℤ) → up (a +ℤ pos 1) + down a ≡ suc (down (a +ℤ pos 1) + up a)
    next_is a = omega (arith, ints)

times_twice : (k : ℕ) (a : ℤ) → pos (2 * k) *ℤ a ≡ pos 2 *ℤ (pos k *ℤ a)
times_twice k a = omega (arith, ints, product_is (pos k) a, product_is (pos (2 * k)) a, mul_assoc 2 k (up a), mul_assoc 2 k (down a))

-- ---- the laws
-- `divEuclid` at a positive divisor is the floor
floor_is : (z : ℤ) (k : ℕ) → 0 < k → ((pos k *ℤ int_div_euclid z (pos k)) ≤ℤ z) × (z <ℤ (pos k *ℤ int_div_euclid z (pos k) +ℤ pos k))
floor_is (pos a) k h = (omega (arith, ints, div-add-mod a k, mod-lt a h), omega (arith, ints, div-add-mod a k, mod-lt a h))
floor_is (negsuc a) k h =
    (omega (arith, ints, div-add-mod a k, mod-lt a h, mul-suc k (a / k)), omega (arith, ints, div-add-mod a k, mod-lt a h, mul-suc k (a / k)))

pub nearest_is : (s : ℤ) (w : ℕ) → 0 < w → Nearest s w (nearest s w)
unfolding nearest
nearest_is s w h =
    let f = floor_is (pos 2 *ℤ s +ℤ pos w) (2 * w) (omega arith) in
    record { low = f.0; high = f.1 }

pub nearest_none : nearest (pos 0) 0 ≡ pos 0
unfolding nearest
nearest_none = refl

pub nearest_only : (s : ℤ) (w : ℕ) (q r : ℤ) → 0 < w → Nearest s w q → Nearest s w r → q ≡ r
nearest_only s w q r h a b = let le = at_most q r a b in let ge = at_most r q b a in omega (arith, ints)
  where
    at_most : (q r : ℤ) → Nearest s w q → Nearest s w r → q ≤ℤ r
    at_most q r a b =
        by_lt_z r q
        (λ under. absurd (omega (arith, ints, a.low, b.high, times_mono (2 * w) (r +ℤ pos 1) q (omega (arith, ints)), times_next (2 * w) r)))
        (λ le. le)

pub nearest_above : (s lo : ℤ) (w : ℕ) → 0 < w → (pos w *ℤ lo) ≤ℤ s → lo ≤ℤ nearest s w
nearest_above s lo w h b =
    let n = nearest_is s w h in
    by_lt_z (nearest s w) lo
    (λ under. absurd (omega (arith, ints, n.high, times_mono (2 * w) (nearest s w +ℤ pos 1) lo (omega (arith, ints)), times_next (2 * w) (nearest s w), times_twice w lo)))
    (λ le. le)

pub nearest_below : (s hi : ℤ) (w : ℕ) → 0 < w → s ≤ℤ (pos w *ℤ hi) → nearest s w ≤ℤ hi
nearest_below s hi w h b =
    let n = nearest_is s w h in
    by_lt_z hi (nearest s w)
    (λ over. absurd (omega (arith, ints, n.low, times_mono (2 * w) (hi +ℤ pos 1) (nearest s w) (omega (arith, ints)), times_next (2 * w) hi, times_twice w hi)))
    (λ le. le)
