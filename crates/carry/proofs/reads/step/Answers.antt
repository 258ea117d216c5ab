use Rattle.std.proofs.Common.{refl, arith}
use Rattle.mesh.specs.Causes.{mesh_of}
use Rattle.tables.proofs.Reading.{corner_reads, friend_below, sound_worded, step_by}
use Rattle.tables.specs.Lent.{mesh}
use Rattle.carry.proofs.reads.step.Goals as goal

pub bounds-level-off : goal.bounds-level-off
unfolding mesh_of
bounds-level-off c =
    (corner_reads (mesh c.args.level.now.tables) (sound_worded _ c.args.level.now.lawful.sound) _ _ c.requires c.off_edge-off.ensures).in_friends

pub overflow_mul-result : goal.overflow_mul-result
unfolding mesh_of
overflow_mul-result c =
    let b = friend_below (mesh c.args.level.now.tables) (sound_worded _ c.args.level.now.lawful.sound) _ _ _ c.requires c.off_edge-off.ensures refl in omega arith

pub overflow_add-result : goal.overflow_add-result
unfolding mesh_of
overflow_add-result c =
    let b = friend_below (mesh c.args.level.now.tables) (sound_worded _ c.args.level.now.lawful.sound) _ _ _ c.requires c.off_edge-off.ensures refl in omega arith

pub returns : goal.returns
unfolding mesh_of
returns c =
    let b = friend_below (mesh c.args.level.now.tables) (sound_worded _ c.args.level.now.lawful.sound) _ _ _ c.requires c.off_edge-off.ensures refl in
    record { is = step_by (mesh c.args.level.now.tables) _ _ _ c.off_edge-off.ensures refl; below = omega arith }
