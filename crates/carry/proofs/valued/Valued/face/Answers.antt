use Rattle.std.proofs.Common.{[], ◌∷◌, ◌∙◌, arith}
use Rattle.carried.specs.Blends.{face}
use Rattle.carry.specs.Mixes.{blend}
use Rattle.carry.specs.Rows.{made}
use Rattle.carry.proofs.valued.Valued.face.Goals as goal

pub returns : goal.returns
unfolding face
returns g c =
    let p0 = c.point.result.0 in
    let p1 = c.point-2.result.0 in
    let p2 = c.point-3.result.0 in
    let h1 = c.add_at.ensures [] c.start-mix.ensures.none (omega arith) in
    let h2 = c.add_at-2.ensures ((p0, 1) ∷ []) h1 (omega arith) in
    let h3 = c.add_at-3.ensures ((p0, 1) ∷ (p1, 1) ∷ []) h2 (omega arith) in
    let h4 = c.add_at-4.ensures ((p0, 1) ∷ (p1, 1) ∷ (p2, 1) ∷ []) h3 (omega arith) in
    c.finish.ensures.blends _ h4
    ∙ (λ i. blend g.K.ValueKind.blended (made g.K.Rowed.verdict c.args.self.now.rows.rows.now)
    ((c.point.ensures.is i, 1) ∷ (c.point-2.ensures.is i, 1) ∷ (c.point-3.ensures.is i, 1) ∷ (c.point-4.ensures.is i, 1) ∷ []))
