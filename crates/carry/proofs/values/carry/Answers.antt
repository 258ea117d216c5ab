use Rattle.std.proofs.Common.{◌≡◌, ◌+◌, ◌*◌, length, sym, refl, ap, ◌∙◌, subst, arith}
use Rattle.std.proofs.lemmas.Result.{err_from_is_err_and}
use Rattle.mesh.specs.Causes.{mesh_of}
use Rattle.mesh.specs.Mesh.{friend}
use Rattle.mesh.specs.Refusals.{fine}
use Rattle.refinement.specs.Tasks.{edge_slot, face_slot, old_slot}
use Rattle.refinement.proofs.Slots.{edge_slot_below, face_slot_below, old_slot_below}
use Rattle.carried.proofs.Weights.{edge_parts, face_parts, old_parts}
use Rattle.tables.specs.Lent.{mesh}
use Rattle.carry.specs.Rows.{made, refusal}
use Rattle.carry.specs.Slots.{RightAt}
use Rattle.carry.proofs.Made.{accepted}
use Rattle.carry.proofs.Slots.{all_right, due_at}
use Rattle.carry.proofs.values.carry.Goals as goal

pub accepted-requires : goal.accepted-requires
unfolding mesh_of
accepted-requires g c =
    let q = c.args.level.lawful.sound.quads_few in
    let p = c.args.level.lawful.sound.points_few in
    let e = c.quads-quads.ensures in
    (omega arith, omega arith)

pub returns-in_err-rows : goal.returns-in_err-rows
unfolding mesh_of
returns-in_err-rows g c =
    let p = err_from_is_err_and c.from_residual.result c.from_residual.ensures.1 in
    let n = length c.args.level.tables.starts.now in
    rw (p.1, p.2) (record {
      verdict = c.in_err-rows.ensures.verdict ∙ ap (λ q. refusal g.K.Rowed.verdict q n (n + 3 * q) c.args.rows.now (length c.args.out.now)) c.quads-quads.ensures;
      written = refl;
    })

pub invariant_of-valued : goal.invariant_of-valued
unfolding mesh_of
invariant_of-valued g c = record { count = ap length c.in_ok-rows.ensures.held ∙ (accepted _ _ _ _ _ _ c.in_ok-rows.ensures.verdict).count }

pub overflow_cast-points : goal.overflow_cast-points
unfolding mesh_of
overflow_cast-points g c =
    let p = c.args.level.lawful.sound.points_few in
    let q = c.args.level.lawful.sound.quads_few in
    omega arith

pub put_each-requires : goal.put_each-requires
unfolding mesh_of
put_each-requires g c =
    let m = mesh c.args.level.tables in
    let w = c.args.level.lawful in
    let xs = made g.K.Rowed.verdict c.in_ok-rows.rows.rows.now in
    let n = (accepted _ _ _ _ _ _ c.in_ok-rows.ensures.verdict).enough in
    let e = c.quads-quads.ensures in
    record {
      callable = λ v l. l;
      due = λ v r l d.
          let b = old_slot_below m v l in
          due_at g.K.ValueKind.blended m xs _ r.1 (old_slot m v) r.0 _ d.0 (d.1 (sym e)) (omega arith) (old_parts m w v);
    }

pub put_each-requires-2-clause-due : goal.put_each-requires-2-clause-due
unfolding mesh_of
put_each-requires-2-clause-due g c = λ q r l d.
    let m = mesh c.args.level.tables in
    let w = c.args.level.lawful in
    let n = (accepted _ _ _ _ _ _ c.in_ok-rows.ensures.verdict).enough in
    let e = c.quads-quads.ensures in
    let b = face_slot_below m w.sound.points_enough q (omega arith) in
    due_at g.K.ValueKind.blended m (made g.K.Rowed.verdict c.in_ok-rows.rows.rows.now) _ r.1 (face_slot q) r.0 _ d.0 d.1 (omega arith) (face_parts m w q (omega arith))

pub put_each-requires-3-clause-due : goal.put_each-requires-3-clause-due
unfolding mesh_of
put_each-requires-3-clause-due g c = λ o r l d.
    let m = mesh c.args.level.tables in
    let w = c.args.level.lawful in
    let n = (accepted _ _ _ _ _ _ c.in_ok-rows.ensures.verdict).enough in
    let e = c.quads-quads.ensures in
    let b = edge_slot_below m w.sound.points_enough (friend m o) (w.sound.friends_are_edges o (omega arith)) in
    due_at g.K.ValueKind.blended m (made g.K.Rowed.verdict c.in_ok-rows.rows.rows.now) _ r.1 (edge_slot (friend m o)) r.0 _ d.0 d.1 (omega arith) (edge_parts m w o (omega arith))

pub returns : goal.returns
unfolding mesh_of
returns g c =
    let v = g.K.Rowed.verdict in
    let m = mesh c.args.level.tables in
    let rows = c.args.rows.now in
    let n = length c.args.level.tables.starts.now in
    let e = c.quads-quads.ensures in
    let t : fine ≡ refusal v m.quads m.points (m.points + 3 * m.quads) rows (length c.args.out.now) =
    c.in_ok-rows.ensures.verdict ∙ ap (λ q. refusal v q n (n + 3 * q) rows (length c.args.out.now)) e in
    let enough = (accepted v _ _ _ _ _ t).enough in
    let Right = RightAt g.K.Rowed.row g.K.ValueKind.blended m (made v c.in_ok-rows.rows.rows.now) c.put_each-3.new.out in
    let kept = c.put_each-3.ensures.kept in
    record {
      verdict = t;
      written = rw (← c.in_ok-rows.ensures.held) (all_right g.K.Rowed.row g.K.ValueKind.blended m (made v c.in_ok-rows.rows.rows.now) c.args.level.lawful c.put_each-3.new.out (omega arith)
          (λ v l. let p = c.put_each.ensures.right v (omega arith) in subst Right (p.1.1 (sym e)) (kept _ (c.put_each-2.ensures.kept _ p.2)))
          (λ q l. let p = c.put_each-2.ensures.right q (omega arith) in subst Right p.1.1 (kept _ p.2))
          (λ o l. let p = c.put_each-3.ensures.right o (omega arith) in subst Right p.1.1 p.2));
    }
