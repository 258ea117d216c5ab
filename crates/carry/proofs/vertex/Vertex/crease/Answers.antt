use Rattle.std.proofs.Common.{◌≡◌, ◌+◌, ◌-◌, ◌*◌, ◌≤◌, [], ◌∷◌, ◌++◌, length, sym, ap, ◌∙◌, arith}
use Rattle.carried.specs.Blends.{marked, smooth, times}
use Rattle.kinds.specs.Parts.{total}
use Rattle.kinds.proofs.Parts.{total_append}
use Rattle.tables.specs.Lent.{mesh}
use Rattle.carry.specs.Mixes.{blend}
use Rattle.carry.specs.Rows.{made}
use Rattle.carry.proofs.Creases.{crease_small, crease_sums, creased_is, limits, smooth_weight_is}
use Rattle.carry.proofs.vertex.Vertex.crease.Goals as goal

pub overflow_mul-weight-3 : goal.overflow_mul-weight-3
overflow_mul-weight-3 g c =
    let l = limits (mesh c.args.self.now.valued.now.level.tables) c.args.self.now.valued.now.level.lawful c.args.self.now.point.0 _ _ c.args.self.now.within c.args.self.now.steps c.args.self.now.sees c.sharpness-s.ensures in
    let j = c.requires in
    let sharp = l.sharp in
    let p = crease_small _ c.sharpness-s.result l.square (omega arith) in
    omega arith

pub overflow_mul-weight-4 : goal.overflow_mul-weight-4
overflow_mul-weight-4 g c =
    let l = limits (mesh c.args.self.now.valued.now.level.tables) c.args.self.now.valued.now.level.lawful c.args.self.now.point.0 _ _ c.args.self.now.within c.args.self.now.steps c.args.self.now.sees c.sharpness-s.ensures in
    let j = c.requires in
    let sharp = l.sharp in
    let p = crease_small _ c.sharpness-s.result l.square (omega arith) in
    omega arith

pub overflow_sub-s : goal.overflow_sub-s
overflow_sub-s g c =
    let l = limits (mesh c.args.self.now.valued.now.level.tables) c.args.self.now.valued.now.level.lawful c.args.self.now.point.0 _ _ c.args.self.now.within c.args.self.now.steps c.args.self.now.sees c.sharpness-s.ensures in
    let j = c.requires in
    let sharp = l.sharp in
    omega arith

pub returns : goal.returns
returns g c =
    let m = mesh c.args.self.now.valued.now.level.tables in
    let v = c.args.self.now.point.0 in
    let n = c.args.self.now.seen.valence in
    let s = c.sharpness-s.result in
    let is = c.sharpness-s.ensures in
    let l = limits m c.args.self.now.valued.now.level.lawful v s c.args.self.now.seen c.args.self.now.within c.args.self.now.steps c.args.self.now.sees is in
    let j = c.requires in
    let sharp = l.sharp in
    let small : s ≤ 512 = omega arith in
    let x = 4 * (n * n) in
    let k = 8 * (512 - s) in
    let sums = crease_sums x s l.square small in
    let first = times k (smooth m v) in
    let weight : total first ≡ k * x = smooth_weight_is m c.args.self.now.valued.now.level.lawful v n k c.args.self.now.within c.args.self.now.steps in
    let next : total (first ++ (v, 6 * (x * s)) ∷ []) ≡ total first + (6 * (x * s) + 0) = total_append first ((v, 6 * (x * s)) ∷ []) in
    let count : length (marked m v) ≡ 2 = sym c.args.self.now.sees.marked_is ∙ j in
    let two : length (marked m v) * (x * s) ≡ 2 * (x * s) = ap (λ n. n * (x * s)) count in
    let h1 = c.add_smooth.ensures [] c.start-mix.ensures.none (omega arith) in
    let h2 = c.add_at.ensures first h1 (omega arith) in
    let h3 = c.add_marked.ensures (first ++ (v, 6 * (x * s)) ∷ []) h2 (omega arith) in
    c.finish.ensures.blends _ h3 ∙ ap (blend g.K.ValueKind.blended (made g.K.Rowed.verdict c.args.self.now.valued.now.rows.rows.now)) (creased_is m v n s c.args.self.now.steps is)
