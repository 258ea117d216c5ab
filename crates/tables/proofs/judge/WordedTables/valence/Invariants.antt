use Rattle.std.proofs.Common.{◌≡◌, ℕ, suc, ◌*◌, ◌<◌}
use Rattle.mesh.specs.Mesh.{start, walk}
use Rattle.tables.specs.Lent.{mesh}
use Rattle.tables.proofs.judge.WordedTables.valence.Given as goal

-- the corner is that of the walk, and the walk has not been back
abbrev pub invariant-loop-steps : goal.invariant-loop-steps
invariant-loop-steps l =
    (l.corner.0 < 4 * (mesh l.self.tables).quads)
    × ((v : ℕ) → start (mesh l.self.tables) v ≡ l.from.0 → l.corner.0 ≡ walk (mesh l.self.tables) v l.steps)
    × ((v : ℕ) → start (mesh l.self.tables) v ≡ l.from.0 → (i : ℕ) → i < l.steps → walk (mesh l.self.tables) v (suc i) ≡ start (mesh l.self.tables) v → ⊥)
