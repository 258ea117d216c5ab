use Rattle.std.proofs.Common.{sym, ap, ◌∙◌}
use Rattle.mesh.specs.Mesh.{Mesh}
use Rattle.lines.specs.Reading.{lines, laid, mesh_read}
use Rattle.lines.proofs.Bodies.{accepted_from_rows}
use Rattle.lines.proofs.lent.TablesMut.fill.Goals as goal

pub returns-in_err-points-clause-filled : goal.returns-in_err-points-clause-filled
returns-in_err-points-clause-filled c m e =
    let a = accepted_from_rows c.args.counts.quads c.args.counts.points c.args.body.now m e in
    absurd (c.in_err-points.ensures.filled a.quads a.between a.quads_there)

pub returns-clause-filled : goal.returns-clause-filled
unfolding mesh_read
returns-clause-filled c m e =
    let f = c.args.counts.quads in
    let v = c.args.counts.points in
    let t = c.args.self.now in
    let a = accepted_from_rows f v c.args.body.now m e in
    let q = c.in_ok-points.ensures.filled a.quads a.between a.quads_there in
    let s = c.fill_starts.ensures a.starts _ (ap (lines 48 50 1 v) q.0 ∙ a.starts_there) in
    let k = c.fill_quads.ensures.starts_kept in
    let is = sym a.mesh_is in (
      s.0,
      record {
        corners_hold = q.1 ∙ ap (λ (x : Mesh). laid x.corners t.corners.now) is;
        friends_hold = q.2 ∙ ap (λ (x : Mesh). laid x.friends t.friends.now) is;
        marks_hold = q.3 ∙ ap (λ (x : Mesh). laid x.marks t.marks.now) is;
        starts_hold = s.1 ∙ ap (laid _) k ∙ ap (λ (x : Mesh). laid x.starts t.starts.now) is;
      },
    )
