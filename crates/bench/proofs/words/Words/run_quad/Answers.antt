use Rattle.std.proofs.Common.{◌+◌, ◌*◌, refl, ap, ◌∙◌, arith}
use Rattle.mesh.specs.Causes.{mesh_of}
use Rattle.refinement.specs.Tasks.{new_corners, fallen}
use Rattle.bench.proofs.Tasks.{friend_lent, mark_lent, quad_writes}
use Rattle.bench.proofs.words.Words.run_quad.Goals as goal

pub invariant_of-task : goal.invariant_of-task
invariant_of-task c =
    let q = c.args.quad.0 in
    let g = friend_lent c.tables-standing.result _ _ _ c.tables-standing.ensures.is in
    let r = c.requires.ready.range in
    record {
      q_there = c.requires.there;
      g0_there = omega (arith, g (2 * q), r.friends_are_edges (2 * q) (omega arith));
      g1_there = omega (arith, g (2 * q + 1), r.friends_are_edges (2 * q + 1) (omega arith));
    }

pub returns : goal.returns
unfolding mesh_of
returns c =
    let q = c.args.quad.0 in
    let is = c.tables-standing.ensures.is in
    let g = friend_lent c.tables-standing.result _ _ _ is in
    let k = mark_lent c.tables-standing.result _ _ _ is in
    quad_writes c.args.size.quads c.args.size.points q _ _ _ _ _ _ c.args.self.now.cells.now _ _ _ _ _ _
    c.words-at.ensures c.ran_from.ensures (let room = c.requires.ready.room in omega arith)
    (g (2 * q)) (g (2 * q + 1))
    (c.fallen_mark-m0.ensures ∙ ap fallen (k (2 * q))) (c.fallen_mark-m1.ensures ∙ ap fallen (k (2 * q + 1)))
    (c.row-row.ensures refl refl ∙ ap (λ m. new_corners m q) is)
    c.copy_in.ensures c.put_friends.ensures c.put_marks.ensures c.put_starts.ensures refl
