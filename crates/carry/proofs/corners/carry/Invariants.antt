use Rattle.std.proofs.Common.{◌*◌}
use Rattle.carried.specs.Corners.{corners}
use Rattle.carry.specs.Corners.{Upto}
use Rattle.carry.specs.Rows.{made}
use Rattle.carry.proofs.corners.carry.Given as goal

-- the rows of the quads so far are right
abbrev pub invariant-loop-q : goal.invariant-loop-q
invariant-loop-q g l = Upto g.C.Rowed.row (corners g.C.CornerKind.middle (made g.C.Rowed.verdict l.rows.rows.now)) l.out (16 * l.q)
