use Rattle.std.proofs.Common.{◌≡◌, ◌*◌, rules, min, ◌∙◌, arith}
use Rattle.std.specs.Option.{option_map_or}
use Rattle.carried.proofs.Weights.{marked_few}
use Rattle.tables.specs.Lent.{mesh}
use Rattle.carry.proofs.Walks.{sharp_seen}
use Rattle.carry.proofs.vertex.Vertex.sharpness.Goals as goal

pub overflow_mul-most : goal.overflow_mul-most
overflow_mul-most g c =
    let m = mesh c.args.self.now.valued.now.level.tables in
    let v = c.args.self.now.point.0 in
    let few = marked_few m v in
    let most = c.args.self.now.valued.now.level.lawful.sound.walks_return v c.args.self.now.within in
    let is = c.args.self.now.sees.marked_is in
    omega arith

pub returns : goal.returns
returns g c =
    let m = mesh c.args.self.now.valued.now.level.tables in
    let v = c.args.self.now.point.0 in
    let a = c.args.self.now.seen in
    let is : c.map_or.result ≡ option_map_or (λ n. min n (256 * a.marked)) a.sum (256 * a.marked) = search rules in
    is ∙ sharp_seen m v a c.args.self.now.sees
