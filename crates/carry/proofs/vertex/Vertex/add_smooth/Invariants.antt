use Rattle.std.proofs.Common.{◌≡◌, ℕ, ◌+◌, ◌*◌, ◌<◌, ◌≤◌, List, ◌++◌}
use Rattle.carried.specs.Blends.{times}
use Rattle.kinds.specs.Parts.{most_weight, total}
use Rattle.mesh.specs.Mesh.{start, walk}
use Rattle.tables.specs.Lent.{mesh}
use Rattle.carry.specs.Mixes.{Mixed}
use Rattle.carry.specs.Rows.{made}
use Rattle.carry.specs.Walks.{met}
use Rattle.carry.proofs.Rounds.{round}
use Rattle.carry.proofs.vertex.Vertex.add_smooth.Given as goal

-- the corner is that of the walk, and the parts of the corners so far are added
abbrev pub invariant-loop-met : goal.invariant-loop-met
invariant-loop-met g l =
    (v : ℕ) → v < (mesh l.valued.level.tables).points → start (mesh l.valued.level.tables) v ≡ l.initial.corner.0 →
    (l.corner.0 ≡ walk (mesh l.valued.level.tables) v l._met)
    × ((ps : List (ℕ × ℕ)) → Mixed g.K.ValueKind.blended g.K.ValueKind.holds (made g.K.Rowed.verdict l.valued.rows.rows.now) l.initial.mix ps →
    total ps + 7 * (l.times * l.self.seen.valence) ≤ most_weight →
    Mixed g.K.ValueKind.blended g.K.ValueKind.holds (made g.K.Rowed.verdict l.valued.rows.rows.now) l.mix (ps ++ times l.times (round (mesh l.valued.level.tables) (met (mesh l.valued.level.tables) v l._met))))
