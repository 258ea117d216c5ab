use Rattle.std.proofs.Common.{[], ap, ◌∙◌, arith}
use Rattle.carried.proofs.Weights.{product_le}
use Rattle.carried.specs.Blends.{smooth}
use Rattle.tables.specs.Lent.{mesh}
use Rattle.carry.specs.Mixes.{blend}
use Rattle.carry.specs.Rows.{made}
use Rattle.carry.proofs.Creases.{times_one}
use Rattle.carry.proofs.vertex.Vertex.smooth.Goals as goal

pub returns : goal.returns
returns g c =
    let m = mesh c.args.self.now.valued.now.level.tables in
    let v = c.args.self.now.point.0 in
    let n = c.args.self.now.seen.valence in
    let most = c.args.self.now.valued.now.level.lawful.sound.walks_return v c.args.self.now.within in
    let steps = c.args.self.now.steps in
    let q = product_le n n 64 64 (omega arith) (omega arith) in
    let h = c.add_smooth.ensures [] c.start-mix.ensures.none (omega arith) in
    c.finish.ensures.blends _ h ∙ ap (blend g.K.ValueKind.blended (made g.K.Rowed.verdict c.args.self.now.valued.now.rows.rows.now)) (times_one (smooth m v))
