-- Bounds of sums, and what rows make of coordinates.
use Rattle.std.specs.Prelude.{◌≡◌, ℕ, ◌+◌, ◌*◌, ◌<◌, ◌≤◌, List, [], ◌∷◌, ◌++◌, ℤ, pos, negsuc, ◌+ℤ◌, ◌*ℤ◌, Ok, Err, FitsSigned, slice_index_or, unsigned_abs, refl}
use Rattle.std.proofs.Common.{sym, subst, ap, ap₂, ◌∙◌, mul-le-mul_left, arith, to_z, of_z}
use Rattle.std.proofs.Math.Decide.{dec_le}
use Rattle.std.specs.Int.{w32, w64}
use borrow.Author.Differences.{ints, abs_is}
use Rattle.std.proofs.lemmas.Int.{to_z-of_z}
use Rattle.kinds.specs.Parts.{Each, most_weight, total}
use Rattle.kinds.proofs.Parts.{each_weaker}
use Rattle.attributes.specs.Coordinates.{Between, Span, checked, judged, mean, at, same_coordinates, verdict_of}
use Rattle.attributes.specs.Limit.{Limited, farthest}
use Rattle.attributes.specs.Nearest.{nearest_above, nearest_below}
use Rattle.attributes.specs.Sums.{weighted, weighted_above, weighted_below, weighted_push}
use Rattle.attributes.specs.declared.coordinates.Coordinates.{Coordinates}

pub product_small : (w : ℕ) (a : ℤ) → Limited a → unsigned_abs (pos w *ℤ a) ≤ farthest * w
product_small w (pos n) h = omega (arith, mul-le-mul_left w h)
product_small w (negsuc n) h = omega (arith, ints, abs_is (pos w *ℤ negsuc n), mul-le-mul_left w h)

pub sum_small : (a b : ℤ) (m n : ℕ) → unsigned_abs a ≤ m → unsigned_abs b ≤ n → unsigned_abs (a +ℤ b) ≤ m + n
sum_small a b m n h k = omega (arith, ints)

-- ---- rows
module _ (x y z : ℤ) where
  judged_ok : (dx : Dec (Limited x)) (dy : Dec (Limited y)) (dz : Dec (Limited z)) (hx : Limited x) (hy : Limited y) (hz : Limited z) → judged x y z dx dy dz ≡ Ok (at x y z hx hy hz)
  judged_ok (no k) dy dz hx hy hz = absurd (k hx)
  judged_ok (yes _) (no k) dz hx hy hz = absurd (k hy)
  judged_ok (yes _) (yes _) (no k) hx hy hz = absurd (k hz)
  judged_ok (yes a) (yes b) (yes c) hx hy hz = ap Ok (same_coordinates (at x y z a b c) (at x y z hx hy hz) refl refl refl)

  judged_x : (dx : Dec (Limited x)) (dy : Dec (Limited y)) (dz : Dec (Limited z)) → (Limited x → ⊥) → judged x y z dx dy dz ≡ Err 0
  judged_x (no _) dy dz k = refl
  judged_x (yes h) dy dz k = absurd (k h)

  judged_y : (dx : Dec (Limited x)) (dy : Dec (Limited y)) (dz : Dec (Limited z)) → Limited x → (Limited y → ⊥) → judged x y z dx dy dz ≡ Err 1
  judged_y (no n) dy dz h k = absurd (n h)
  judged_y (yes _) (no _) dz h k = refl
  judged_y (yes _) (yes b) dz h k = absurd (k b)

  judged_z : (dx : Dec (Limited x)) (dy : Dec (Limited y)) (dz : Dec (Limited z)) → Limited x → Limited y → (Limited z → ⊥) → judged x y z dx dy dz ≡ Err 2
  judged_z (no n) dy dz h g k = absurd (n h)
  judged_z (yes _) (no n) dz h g k = absurd (n g)
  judged_z (yes _) (yes _) (no _) h g k = refl
  judged_z (yes _) (yes _) (yes c) h g k = absurd (k c)

  pub checked_ok : (hx : Limited x) (hy : Limited y) (hz : Limited z) → checked x y z ≡ Ok (at x y z hx hy hz)
  unfolding checked
  checked_ok = judged_ok (dec_le (unsigned_abs x) farthest) (dec_le (unsigned_abs y) farthest) (dec_le (unsigned_abs z) farthest)

  pub checked_x : (Limited x → ⊥) → checked x y z ≡ Err 0
  unfolding checked
  checked_x = judged_x (dec_le (unsigned_abs x) farthest) (dec_le (unsigned_abs y) farthest) (dec_le (unsigned_abs z) farthest)

  pub checked_y : Limited x → (Limited y → ⊥) → checked x y z ≡ Err 1
  unfolding checked
  checked_y = judged_y (dec_le (unsigned_abs x) farthest) (dec_le (unsigned_abs y) farthest) (dec_le (unsigned_abs z) farthest)

  pub checked_z : Limited x → Limited y → (Limited z → ⊥) → checked x y z ≡ Err 2
  unfolding checked
  checked_z = judged_z (dec_le (unsigned_abs x) farthest) (dec_le (unsigned_abs y) farthest) (dec_le (unsigned_abs z) farthest)

-- a row with these numbers makes them
pub makes : (r : List ℤ) (p : Coordinates) → p.x ≡ slice_index_or r 0 (pos 0) → p.y ≡ slice_index_or r 1 (pos 0) → p.z ≡ slice_index_or r 2 (pos 0) → Ok p ≡ verdict_of r
makes r p ex ey ez = cc (checked_ok p.x p.y p.z p.xok p.yok p.zok)

-- ---- the range law, one coordinate at a time
pub mean_between : (f : Coordinates → ℤ) (s : Span) (ps : List (Coordinates × ℕ)) → 0 < total ps → Each (λ p. Between s (f p)) ps → Between s (mean f ps)
mean_between f s ps some each = (
  nearest_above (weighted f ps) s.low (total ps) some (weighted_above f s.low ps (each_weaker _ _ (λ p h. h.0) ps each)),
  nearest_below (weighted f ps) s.high (total ps) some (weighted_below f s.high ps (each_weaker _ _ (λ p h. h.1) ps each)),
)

-- ---- one part more in the sum of a coordinate
pub sum_fits : (s : ℤ) (had : ℕ) → had ≤ most_weight → unsigned_abs s ≤ farthest * had → FitsSigned w64 s
sum_fits s had few h = omega (arith, ints)

pub fits : (a : ℤ) → Limited a → FitsSigned w32 a
fits a h = omega (arith, ints)

pub sum_next : (f : Coordinates → ℤ) (ps : List (Coordinates × ℕ)) (p : Coordinates) (w : ℕ) (r s : ℤ) → FitsSigned w64 r → FitsSigned w64 s → FitsSigned w32 (f p)
    → r ≡ to_z w64 (of_z w64 s) +ℤ pos w *ℤ to_z w32 (of_z w32 (f p)) → s ≡ weighted f ps → to_z w64 (of_z w64 r) ≡ weighted f (ps ++ ((p, w) ∷ []))
sum_next f ps p w r s fr fs fp e h =
    to_z-of_z w64 r fr ∙ e ∙ ap₂ (λ a b. a +ℤ pos w *ℤ b) (to_z-of_z w64 s fs ∙ h) (to_z-of_z w32 (f p) fp) ∙ sym (weighted_push f ps p w)

pub sum_grows : (r s : ℤ) (had w : ℕ) → FitsSigned w64 r → had ≤ most_weight → unsigned_abs s ≤ farthest * had → unsigned_abs r ≤ unsigned_abs (to_z w64 (of_z w64 s)) + farthest * w
    → unsigned_abs (to_z w64 (of_z w64 r)) ≤ farthest * (had + w)
sum_grows r s had w fr few h g =
    let e = ap unsigned_abs (to_z-of_z w64 s (sum_fits s had few h)) in
    subst (λ t. unsigned_abs t ≤ farthest * (had + w)) (sym (to_z-of_z w64 r fr)) (omega arith)
