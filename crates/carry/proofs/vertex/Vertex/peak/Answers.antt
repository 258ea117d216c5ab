use Rattle.std.proofs.Common.{◌≡◌, ◌-◌, ◌*◌, [], ap, ◌∙◌, arith}
use Rattle.carried.specs.Blends.{smooth, times}
use Rattle.kinds.specs.Parts.{total}
use Rattle.tables.specs.Lent.{mesh}
use Rattle.carry.specs.Mixes.{blend}
use Rattle.carry.specs.Rows.{made}
use Rattle.carry.proofs.Creases.{corner_small, corner_sums, cornered_is, limits, smooth_weight_is}
use Rattle.carry.proofs.vertex.Vertex.peak.Goals as goal

pub overflow_mul-self : goal.overflow_mul-self
overflow_mul-self g c =
    let l = limits (mesh c.args.self.now.valued.now.level.tables) c.args.self.now.valued.now.level.lawful c.args.self.now.point.0 _ _ c.args.self.now.within c.args.self.now.steps c.args.self.now.sees c.sharpness-s.ensures in
    let few = l.few in
    omega arith

pub overflow_sub-self : goal.overflow_sub-self
overflow_sub-self g c =
    let l = limits (mesh c.args.self.now.valued.now.level.tables) c.args.self.now.valued.now.level.lawful c.args.self.now.point.0 _ _ c.args.self.now.within c.args.self.now.steps c.args.self.now.sees c.sharpness-s.ensures in
    l.sharp

pub add_smooth-requires : goal.add_smooth-requires
add_smooth-requires g c =
    let l = limits (mesh c.args.self.now.valued.now.level.tables) c.args.self.now.valued.now.level.lawful c.args.self.now.point.0 _ _ c.args.self.now.within c.args.self.now.steps c.args.self.now.sees c.sharpness-s.ensures in
    let few = l.few in
    omega arith

pub overflow_mul-n-3 : goal.overflow_mul-n-3
overflow_mul-n-3 g c =
    let l = limits (mesh c.args.self.now.valued.now.level.tables) c.args.self.now.valued.now.level.lawful c.args.self.now.point.0 _ _ c.args.self.now.within c.args.self.now.steps c.args.self.now.sees c.sharpness-s.ensures in
    let p = corner_small _ c.sharpness-s.result c.args.self.now.seen.marked l.square l.few l.sharp in
    omega arith

pub returns : goal.returns
returns g c =
    let m = mesh c.args.self.now.valued.now.level.tables in
    let v = c.args.self.now.point.0 in
    let n = c.args.self.now.seen.valence in
    let j = c.args.self.now.seen.marked in
    let s = c.sharpness-s.result in
    let is = c.sharpness-s.ensures in
    let l = limits m c.args.self.now.valued.now.level.lawful v s c.args.self.now.seen c.args.self.now.within c.args.self.now.steps c.args.self.now.sees is in
    let x = 4 * (n * n) in
    let k = 256 * j - s in
    let sums = corner_sums x s j l.square l.few l.sharp in
    let first = times k (smooth m v) in
    let weight : total first ≡ k * x = smooth_weight_is m c.args.self.now.valued.now.level.lawful v n k c.args.self.now.within c.args.self.now.steps in
    let h1 = c.add_smooth.ensures [] c.start-mix.ensures.none (omega arith) in
    let h2 = c.add_at.ensures first h1 (omega arith) in
    c.finish.ensures.blends _ h2
    ∙ ap (blend g.K.ValueKind.blended (made g.K.Rowed.verdict c.args.self.now.valued.now.rows.rows.now)) (cornered_is m v n s c.args.self.now.steps is j c.args.self.now.sees.marked_is)
