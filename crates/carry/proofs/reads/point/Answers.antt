use Rattle.std.proofs.Common.{refl, arith}
use Rattle.mesh.specs.Causes.{mesh_of}
use Rattle.carry.proofs.reads.point.Goals as goal

pub bounds-level-corner : goal.bounds-level-corner
unfolding mesh_of
bounds-level-corner c = let n = c.args.level.now.lawful.sound.counted.corner_count in let l = c.requires in omega arith

pub returns : goal.returns
unfolding mesh_of
returns c = record { is = refl; below = c.args.level.now.lawful.sound.corners_have_points c.args.corner.0 c.requires }
