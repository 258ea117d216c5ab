use Rattle.std.proofs.Common.{◌≡◌, ◌+◌, ◌*◌, length, refl, ap, ◌∙◌, arith}
use Rattle.std.proofs.lemmas.Result.{err_from_is_err_and}
use Rattle.carried.proofs.Seams.{corners_length}
use Rattle.carried.specs.Corners.{corners}
use Rattle.carry.specs.Rows.{made, refusal}
use Rattle.carry.proofs.Made.{accepted, length_made}
use Rattle.carry.proofs.Right.{upto_all}
use Rattle.carry.proofs.corners.carry.Goals as goal

pub accepted-requires : goal.accepted-requires
accepted-requires g c = let q = c.args.level.lawful.sound.quads_few in let e = c.quads-quads.ensures in (omega arith, omega arith)

pub returns-in_err-rows : goal.returns-in_err-rows
returns-in_err-rows g c =
    let p = err_from_is_err_and c.from_residual.result c.from_residual.ensures.1 in
    rw (p.1, p.2) (record {
      verdict = c.in_err-rows.ensures.verdict ∙ ap (λ q. refusal g.C.Rowed.verdict q (4 * q) (16 * q) c.args.rows.now (length c.args.out.now)) c.quads-quads.ensures;
      written = refl;
    })

pub put_quad-requires : goal.put_quad-requires
put_quad-requires g c =
    let a = accepted _ _ _ _ _ _ c.in_ok-rows.ensures.verdict in
    let n = a.count in
    let o = a.enough in
    let h = ap length c.in_ok-rows.ensures.held in
    record { within = omega arith; room = omega arith }

pub loop-q-preserved : goal.loop-q-preserved
loop-q-preserved g c =
    let a = accepted _ _ _ _ _ _ c.in_ok-rows.ensures.verdict in
    let z : 16 * c.loop-q.q + 16 ≡ 16 * (c.loop-q.q + 1) = omega arith in
    rw z at (c.put_quad.ensures c.quads-quads.result (ap length c.in_ok-rows.ensures.held ∙ a.count) c.loop-q.invariant)

pub returns : goal.returns
returns g c =
    let v = g.C.Rowed.verdict in
    let rows = c.args.rows.now in
    let a = accepted _ _ _ _ _ _ c.in_ok-rows.ensures.verdict in
    let n = a.enough in
    let ys = corners_length g.C.CornerKind.middle c.quads-quads.result (made v rows) (length_made v rows a.all ∙ a.count) in
    record {
      verdict = c.in_ok-rows.ensures.verdict ∙ ap (λ q. refusal v q (4 * q) (16 * q) rows (length c.args.out.now)) c.quads-quads.ensures;
      written = upto_all g.C.Rowed.row (corners g.C.CornerKind.middle (made v rows)) c.loop-q.out (16 * c.loop-q.q) (omega arith) (omega arith)
          (rw c.in_ok-rows.ensures.held at c.loop-q.invariant);
    }
