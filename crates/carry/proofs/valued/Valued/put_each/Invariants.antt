use Rattle.std.proofs.Common.{ℕ, ◌<◌}
use Rattle.tables.specs.Lent.{mesh}
use Rattle.carry.specs.Rows.{made}
use Rattle.carry.specs.Slots.{RightAt}
use Rattle.carry.proofs.valued.Valued.put_each.Given as goal

-- the slots so far are right, and so is each that was
abbrev pub invariant-loop-n : goal.invariant-loop-n
invariant-loop-n g l =
    ((s : ℕ) → RightAt g.K.Rowed.row g.K.ValueKind.blended (mesh l.self.level.tables) (made g.K.Rowed.verdict l.self.rows.rows.now) l.initial.out s → RightAt g.K.Rowed.row g.K.ValueKind.blended (mesh l.self.level.tables) (made g.K.Rowed.verdict l.self.rows.rows.now) l.out s)
    × ((k : ℕ) → k < l.n → (r : _) × goal.F-post g l.at k r × RightAt g.K.Rowed.row g.K.ValueKind.blended (mesh l.self.level.tables) (made g.K.Rowed.verdict l.self.rows.rows.now) l.out r.1)
