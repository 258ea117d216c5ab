use Rattle.std.proofs.Common.{◌≡◌, ◌+◌, ◌-◌, ◌*◌, min, [], ◌∷◌, ap, ◌∙◌, arith}
use Rattle.carried.specs.Blends.{edge, low_across, high_across}
use Rattle.mesh.specs.Mesh.{point, mark, friend, other_end}
use Rattle.tables.specs.Lent.{mesh}
use Rattle.carry.specs.Mixes.{blend}
use Rattle.carry.specs.Rows.{made}
use Rattle.carry.proofs.valued.Valued.edge.Goals as goal

pub returns : goal.returns
unfolding edge other_end low_across high_across
returns g c =
    let m = mesh c.args.self.now.level.tables in
    let o = c.args.off.0 in
    let e = c.edge-record.ensures in
    let a = c.capped-a.result in
    let is : a ≡ min (mark m o) 256 = c.capped-a.ensures ∙ ap (λ w. min w 256) e.mark_is in
    let near = 6 * (256 - a) + 8 * a in
    let far = 256 - a in
    let p0 = c.edge-record.result.begin.0 in
    let p1 = c.edge-record.result.end.0 in
    let p2 = c.point.result.0 in
    let p3 = c.point-2.result.0 in
    let p4 = c.point-3.result.0 in
    let s4 : p4 ≡ point m (other_end (2 * friend m o)) = c.point-3.ensures.is ∙ ap (point m) (c.other_end.ensures ∙ ap (λ f. other_end (2 * f)) e.friend_is) in
    let s5 : c.point-4.result.0 ≡ point m (other_end (2 * friend m o + 1)) = c.point-4.ensures.is ∙ ap (point m) (c.other_end-2.ensures ∙ ap (λ f. other_end (2 * f + 1)) e.friend_is) in
    let h1 = c.add_at.ensures [] c.start-mix.ensures.none (omega arith) in
    let h2 = c.add_at-2.ensures ((p0, near) ∷ []) h1 (omega arith) in
    let h3 = c.add_at-3.ensures ((p0, near) ∷ (p1, near) ∷ []) h2 (omega arith) in
    let h4 = c.add_at-4.ensures ((p0, near) ∷ (p1, near) ∷ (p2, far) ∷ []) h3 (omega arith) in
    let h5 = c.add_at-5.ensures ((p0, near) ∷ (p1, near) ∷ (p2, far) ∷ (p3, far) ∷ []) h4 (omega arith) in
    let h6 = c.add_at-6.ensures ((p0, near) ∷ (p1, near) ∷ (p2, far) ∷ (p3, far) ∷ (p4, far) ∷ []) h5 (omega arith) in
    c.finish.ensures.blends _ h6
    ∙ (λ i. blend g.K.ValueKind.blended (made g.K.Rowed.verdict c.args.self.now.rows.rows.now)
    ((e.begin_is i, 6 * (256 - is i) + 8 * is i) ∷ (e.end_is i, 6 * (256 - is i) + 8 * is i) ∷ (c.point.ensures.is i, 256 - is i) ∷ (c.point-2.ensures.is i, 256 - is i)
    ∷ (s4 i, 256 - is i) ∷ (s5 i, 256 - is i) ∷ []))
