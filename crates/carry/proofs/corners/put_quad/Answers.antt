use Rattle.std.proofs.Common.{◌∙◌, arith}
use Rattle.carry.specs.Rows.{made}
use Rattle.carry.proofs.Made.{length_made}
use Rattle.carry.proofs.Right.{four, upto_quad}
use Rattle.carry.proofs.corners.put_quad.Goals as goal

pub returns : goal.returns
unfolding four
returns g c = λ n h u.
    let v = g.C.Rowed.verdict in
    let rows = c.args.rows.now.rows.now in
    upto_quad g.C.Rowed.row g.C.CornerKind.middle (made v rows) n c.args.q (length_made v rows c.args.rows.now.all ∙ h) (omega arith) _ _ _ _ _ _ _ _ _
    c.value-a.ensures c.value-b.ensures c.value-c.ensures c.value-d.ensures
    c.midway-ab.ensures c.midway-bc.ensures c.midway-cd.ensures c.midway-da.ensures c.midway-centre.ensures
    _ _ _ _ _ c.put.ensures c.put-2.ensures c.put-3.ensures c.put-4.ensures (omega arith) u
