-- The parts of a moved point, as code adds them, and that their weights fit.
use Rattle.std.proofs.Common.{◌≡◌, ℕ, ◌+◌, ◌-◌, ◌*◌, ◌<◌, ◌≤◌, List, [], ◌∷◌, ◌++◌, length, sym, refl, ap, ◌∙◌, arith}
use Rattle.std.proofs.lemmas.List.{append_assoc}
use Rattle.mesh.specs.Mesh.{Lawful, Mesh, valence}
use Rattle.kinds.specs.Parts.{most_weight, total}
use Rattle.carried.specs.Blends.{cornered, creased, marked, sharpness, smooth, times}
use Rattle.carried.proofs.Weights.{corner_sum, crease_sum, marked_few, product_le, sharp_most, smooth_total, total_times}
use Rattle.carry.specs.Walks.{Seen}
use Rattle.carry.specs.declared.seen.Around.{Around}
use Rattle.carry.proofs.Rounds.{crease_parts}

pub times_one : (ps : List (ℕ × ℕ)) → times 1 ps ≡ ps
times_one [] = refl
times_one (p ∷ ps) = let one : 1 * p.1 ≡ p.1 = omega arith in λ i. (p.0, one i) ∷ times_one ps i

-- the parts, by the code's names for the valence, the sharpness and the count of marked off-edges
module _ (m : Mesh) (v n s : ℕ) (steps : n ≡ valence m v) (sharp : s ≡ sharpness m v) where
  pub creased_is : (times (8 * (512 - s)) (smooth m v) ++ (v, 6 * (4 * (n * n) * s)) ∷ []) ++ crease_parts m (4 * (n * n) * s) (marked m v) ≡ creased m v
  unfolding creased
  creased_is =
      append_assoc (times (8 * (512 - s)) (smooth m v)) ((v, 6 * (4 * (n * n) * s)) ∷ []) (crease_parts m (4 * (n * n) * s) (marked m v))
      ∙ (λ i. times (8 * (512 - sharp i)) (smooth m v) ++ (v, 6 * (4 * (steps i * steps i) * sharp i)) ∷ crease_parts m (4 * (steps i * steps i) * sharp i) (marked m v))

  pub cornered_is : (j : ℕ) → j ≡ length (marked m v) → times (256 * j - s) (smooth m v) ++ (v, 4 * (n * n) * s) ∷ [] ≡ cornered m v
  unfolding cornered
  cornered_is j e = λ i. times (256 * e i - sharp i) (smooth m v) ++ (v, 4 * (steps i * steps i) * sharp i) ∷ []

-- ---- weights
pub smooth_weight_is : (m : Mesh) → Lawful m → (v n k : ℕ) → v < m.points → n ≡ valence m v → total (times k (smooth m v)) ≡ k * (4 * (n * n))
smooth_weight_is m w v n k h e =
    total_times k (smooth m v) ∙ ap (λ x. k * x) (smooth_total m v (w.sound.walks_not_short v h) ∙ (λ i. 4 * (sym e i * sym e i)))

-- the limits of what a walk can see
pub record Limits (n s j : ℕ) : Type 0 where
  pub two : 2 ≤ n
  pub square : 4 * (n * n) ≤ 16384
  pub few : j ≤ 64
  pub sharp : s ≤ 256 * j

pub limits : (m : Mesh) → Lawful m → (v s : ℕ) (a : Around) → v < m.points → a.valence ≡ valence m v → Seen m (marked m v) a → s ≡ sharpness m v → Limits a.valence s a.marked
limits m w v s a h steps seen e =
    let low = w.sound.walks_not_short v h in
    let high = w.sound.walks_return v h in
    let j = seen.marked_is in
    let f = marked_few m v in
    let t = sharp_most m v in
    let q = product_le a.valence a.valence 64 64 (omega arith) (omega arith) in
    record { two = omega arith; square = omega arith; few = omega arith; sharp = omega arith }

-- a crease: each sum on the way fits
module _ (x s : ℕ) (few : x ≤ 16384) (l : s ≤ 512) where
  pub crease_sums : 8 * (512 - s) * x + (6 * (x * s) + 2 * (x * s)) ≤ 67108864
  crease_sums = let e = crease_sum x s l in omega arith

  pub crease_small : x * s ≤ 8388608
  crease_small = let p = product_le x s 16384 512 few l in omega arith

-- a corner
module _ (x s j : ℕ) (few : x ≤ 16384) (fewer : j ≤ 64) (l : s ≤ 256 * j) where
  pub corner_sums : (256 * j - s) * x + x * s ≤ most_weight
  corner_sums = let e = corner_sum x s (256 * j) l in let p = product_le x (256 * j) 16384 16384 few (omega arith) in omega arith

  pub corner_small : x * s ≤ most_weight
  corner_small = let e = corner_sums in omega arith
