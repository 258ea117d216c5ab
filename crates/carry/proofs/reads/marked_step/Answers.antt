use Rattle.std.proofs.Common.{arith}
use Rattle.refinement.proofs.Steps.{off_edge_below}
use Rattle.tables.proofs.Reading.{step_by}
use Rattle.tables.specs.Lent.{mesh}
use Rattle.carry.proofs.reads.marked_step.Goals as goal

pub edge-record-requires : goal.edge-record-requires
edge-record-requires c =
    let l = off_edge_below c.args.corner.0 (mesh c.args.level.now.tables).quads c.requires in
    let o = c.off_edge.ensures in
    omega arith

pub returns-clause-is : goal.returns-clause-is
returns-clause-is c = step_by (mesh c.args.level.now.tables) c.args.corner.0 _ _ c.off_edge.ensures c.edge-record.ensures.friend_is
