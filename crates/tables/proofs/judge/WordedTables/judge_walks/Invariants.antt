use Rattle.std.proofs.Common.{◌≡◌, ℕ, ◌*◌, ◌<◌, ◌≤◌, true}
use Rattle.mesh.specs.Causes.{walk_ok}
use Rattle.mesh.specs.Count.{total}
use Rattle.mesh.specs.Mesh.{valence}
use Rattle.tables.specs.Lent.{mesh}
use Rattle.tables.proofs.judge.WordedTables.judge_walks.Given as goal

-- the walks so far are back in time, and these are their steps together
abbrev pub invariant-loop-v : goal.invariant-loop-v
invariant-loop-v l =
    ((k : ℕ) → k < l.v → walk_ok (mesh l.self.tables) k ≡ true)
    × (l.steps ≡ total (valence (mesh l.self.tables)) l.v)
    × (l.steps ≤ 64 * l.v)
