use Rattle.std.proofs.Common.{◌≡◌, ◌+◌, ◌*◌, ap, refl, ◌∙◌, arith}
use Rattle.mesh.specs.Causes.{mesh_of}
use Rattle.refinement.specs.Tasks.{edge_slot}
use Rattle.refinement.proofs.Loops.{row_is}
use Rattle.tables.specs.Lent.{mesh}
use Rattle.bench.proofs.Tasks.{slot_fits, edge_slot_there}
use Rattle.bench.proofs.words.QuadTask.row.Goals as goal

pub overflow_cast-w0 : goal.overflow_cast-w0
unfolding mesh_of
overflow_cast-w0 c = omega (arith, slot_fits _ _ _ c.old_slot-w0.ensures, c.requires.range.corners_have_points (4 * c.args.self.q) (omega arith))

pub overflow_cast-w1 : goal.overflow_cast-w1
unfolding mesh_of
overflow_cast-w1 c = omega (arith, slot_fits _ _ _ c.old_slot-w1.ensures, c.requires.range.corners_have_points (4 * c.args.self.q + 1) (omega arith))

pub overflow_cast-w2 : goal.overflow_cast-w2
unfolding mesh_of
overflow_cast-w2 c = omega (arith, slot_fits _ _ _ c.old_slot-w2.ensures, c.requires.range.corners_have_points (4 * c.args.self.q + 2) (omega arith))

pub overflow_cast-w3 : goal.overflow_cast-w3
unfolding mesh_of
overflow_cast-w3 c = omega (arith, slot_fits _ _ _ c.old_slot-w3.ensures, c.requires.range.corners_have_points (4 * c.args.self.q + 3) (omega arith))

pub overflow_cast-e0 : goal.overflow_cast-e0
overflow_cast-e0 c = omega (arith, edge_slot_there c.args.self.g0)

pub overflow_cast-e1 : goal.overflow_cast-e1
overflow_cast-e1 c = omega (arith, edge_slot_there c.args.self.g1)

pub returns : goal.returns
unfolding mesh_of
returns c g h =
    let t = c.args.standing.now in
    let m = mesh t in
    let k = c.requires.lengths.corners in
    let e : m.quads ≡ c.args.self.size.quads = omega arith in
    row_is m t.corners.now t.friends.now c.args.self.q _ _ _ _ _ _ refl refl
    (c.old_slot-w0.ensures m e) (c.old_slot-w1.ensures m e) (c.old_slot-w2.ensures m e) (c.old_slot-w3.ensures m e)
    (c.edge_slot-e0.ensures ∙ ap edge_slot g)
    (c.edge_slot-e1.ensures ∙ ap edge_slot h)
