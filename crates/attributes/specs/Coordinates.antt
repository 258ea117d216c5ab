-- What rows, ranges and blends of coordinates are.
use Rattle.std.specs.Prelude.{◌≡◌, ℕ, zero, suc, ◌<◌, List, [], ◌∷◌, ℤ, pos, ◌*ℤ◌, neg_ℤ, ◌≤ℤ◌, Ok, Err, Result, slice_index_or, unsigned_abs}
use Rattle.std.proofs.Common.{sym, subst, ap, ◌∙◌, arith, lit≤}
use mathlib.Core.HLevel.{is_prop→PathP}
use Rattle.std.proofs.Math.Bridge.{le_prop}
use Rattle.std.proofs.Math.Decide.{dec_le}
use Rattle.std.proofs.lemmas.Int.{ints}
use Rattle.kinds.specs.Parts.{total}
use Rattle.kinds.proofs.Parts.{each_any}
use Rattle.attributes.specs.Limit.{Limited, farthest}
use Rattle.attributes.specs.Nearest.{nearest, nearest_none, nearest_above, nearest_below}
use Rattle.attributes.specs.Sums.{weighted, weighted_above, weighted_below}
use Rattle.attributes.specs.declared.coordinates.Coordinates.{Coordinates}
use Rattle.attributes.specs.declared.coordinates.CoordinatesMix.{CoordinatesMix}

-- ---- rows
abbrev pub row_of : Coordinates → List ℤ
row_of p = p.x ∷ (p.y ∷ (p.z ∷ []))

abbrev pub at : (x y z : ℤ) → Limited x → Limited y → Limited z → Coordinates
at x y z hx hy hz = record { x = x; y = y; z = z; xok = hx; yok = hy; zok = hz }

-- these coordinates, or the number of the first that is past the limit
abbrev pub judged : (x y z : ℤ) → Dec (Limited x) → Dec (Limited y) → Dec (Limited z) → Result Coordinates ℕ
judged x y z (no _) dy dz = Err 0
judged x y z (yes hx) (no _) dz = Err 1
judged x y z (yes hx) (yes hy) (no _) = Err 2
judged x y z (yes hx) (yes hy) (yes hz) = Ok (at x y z hx hy hz)

unfoldable pub checked : ℤ → ℤ → ℤ → Result Coordinates ℕ
checked x y z = judged x y z (dec_le (unsigned_abs x) farthest) (dec_le (unsigned_abs y) farthest) (dec_le (unsigned_abs z) farthest)

abbrev pub verdict_of : List ℤ → Result Coordinates ℕ
verdict_of r = checked (slice_index_or r 0 (pos 0)) (slice_index_or r 1 (pos 0)) (slice_index_or r 2 (pos 0))

-- ---- ranges: boxes with whole bounds
pub record Span : Type 0 where
  pub low : ℤ
  pub high : ℤ

pub record Cuboid : Type 0 where
  pub along_x : Span
  pub along_y : Span
  pub along_z : Span

abbrev pub Between : Span → ℤ → Type 0
Between s c = (s.low ≤ℤ c) × (c ≤ℤ s.high)

abbrev pub inside : Cuboid → Coordinates → Type 0
inside b p = Between b.along_x p.x × Between b.along_y p.y × Between b.along_z p.z

-- ---- blends
-- one coordinate of a blend: the weighted sum over the weight, rounded once
abbrev pub mean : (Coordinates → ℤ) → List (Coordinates × ℕ) → ℤ
mean f ps = nearest (weighted f ps) (total ps)

-- a quotient is not past the limit where no part is
pub quotient_limited : (s : ℤ) (w : ℕ) → (pos w *ℤ neg_ℤ (pos farthest)) ≤ℤ s → s ≤ℤ (pos w *ℤ pos farthest) → Limited (nearest s w)
quotient_limited s zero a b =
    let e : s ≡ pos 0 = omega (arith, ints) in subst Limited (sym (ap (λ t. nearest t 0) e ∙ nearest_none)) (lit≤ tt)
quotient_limited s (suc w) a b =
    let pw : 0 < suc w = omega arith in omega (arith, ints, nearest_above s (neg_ℤ (pos farthest)) (suc w) pw a, nearest_below s (pos farthest) (suc w) pw b)

pub mean_limited : (f : Coordinates → ℤ) → ((p : Coordinates) → Limited (f p)) → (ps : List (Coordinates × ℕ)) → Limited (mean f ps)
mean_limited f h ps =
    quotient_limited (weighted f ps) (total ps)
    (weighted_above f (neg_ℤ (pos farthest)) ps (each_any _ (λ p. low p (h p)) ps))
    (weighted_below f (pos farthest) ps (each_any _ (λ p. high p (h p)) ps))
  where
    low : (p : Coordinates) → Limited (f p) → neg_ℤ (pos farthest) ≤ℤ f p
    low p k = omega (arith, ints)

    high : (p : Coordinates) → Limited (f p) → f p ≤ℤ pos farthest
    high p k = omega (arith, ints)

abbrev pub blend_of : List (Coordinates × ℕ) → Coordinates
blend_of ps =
    at (mean (λ p. p.x) ps) (mean (λ p. p.y) ps) (mean (λ p. p.z) ps)
    (mean_limited (λ p. p.x) (λ p. p.xok) ps) (mean_limited (λ p. p.y) (λ p. p.yok) ps) (mean_limited (λ p. p.z) (λ p. p.zok) ps)

-- those with the same numbers are the same
pub same_coordinates : (p q : Coordinates) → p.x ≡ q.x → p.y ≡ q.y → p.z ≡ q.z → p ≡ q
same_coordinates p q ex ey ez = λ i.
    at (ex i) (ey i) (ez i)
    (is_prop→PathP (λ j. Limited (ex j)) (λ j. le_prop) p.xok q.xok i)
    (is_prop→PathP (λ j. Limited (ey j)) (λ j. le_prop) p.yok q.yok i)
    (is_prop→PathP (λ j. Limited (ez j)) (λ j. le_prop) p.zok q.zok i)

-- ---- a running mix
-- m is the sum of the parts ps
pub record SumOf (m : CoordinatesMix) (ps : List (Coordinates × ℕ)) : Type 0 where
  pub weight_is : m.weight.taken ≡ total ps
  pub x_is : m.x ≡ weighted (λ p. p.x) ps
  pub y_is : m.y ≡ weighted (λ p. p.y) ps
  pub z_is : m.z ≡ weighted (λ p. p.z) ps
