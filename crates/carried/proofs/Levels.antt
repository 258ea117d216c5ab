-- Levels that are not too large.
use Rattle.std.proofs.Common.{◌≡◌, ℕ, zero, suc, ◌+◌, ◌*◌, ◌^◌, ◌≤◌, ap, pow-suc, arith}
use Rattle.mesh.specs.Mesh.{Mesh, Lawful, most_quads}
use Rattle.refinement.specs.Tasks.{level}
use Rattle.refinement.proofs.Keeps.{levels_lawful}

pub earlier : (m : Mesh) (k : ℕ) → 4 ^ suc k * m.quads ≤ most_quads → 4 ^ k * m.quads ≤ most_quads
earlier m k h = let e = ap (λ x. x * m.quads) (pow-suc 4 k) in omega arith

pub earlier_by : (m : Mesh) (k i : ℕ) → 4 ^ (k + i) * m.quads ≤ most_quads → 4 ^ k * m.quads ≤ most_quads
earlier_by m k zero h = let e : k + 0 ≡ k = omega arith in rw e at h
earlier_by m k (suc i) h = let e : k + suc i ≡ suc (k + i) = omega arith in earlier_by m k i (earlier m (k + i) (rw e at h))

pub lawful_at : (m : Mesh) → Lawful m → (k : ℕ) → 4 ^ k * m.quads ≤ most_quads → Lawful (level m k)
lawful_at m w k h = (levels_lawful m w k h).0
