use Rattle.std.proofs.Common.{◌≡◌, ℕ, ◌-◌, ◌<◌}
use Rattle.mesh.specs.Mesh.{Mesh, start, valence, walk}
use Rattle.tables.specs.Lent.{mesh}
use Rattle.carry.specs.Walks.{Seen, marked_met}
use Rattle.carry.specs.declared.seen.Around.{Around}
use Rattle.carry.proofs.around.around.Given as goal

-- the walk at v is not back, and what it has met was seen
abbrev pub Walks : Mesh → ℕ → ℕ → Around → Type 0
Walks m v c a = (a.valence < valence m v) × (c ≡ walk m v a.valence) × Seen m (marked_met m v a.valence) a

abbrev pub invariant-loop-corner : goal.invariant-loop-corner
invariant-loop-corner l = (v : ℕ) → v < (mesh l.level.tables).points → start (mesh l.level.tables) v ≡ l.start → Walks (mesh l.level.tables) v l.corner.0 l.seen

abbrev pub decreases-loop-corner : goal.decreases-loop-corner
decreases-loop-corner l = 64 - l.seen.valence
