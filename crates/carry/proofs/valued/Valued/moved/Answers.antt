use Rattle.std.proofs.Common.{sym, ap, ◌∙◌, arith}
use Rattle.carried.proofs.Weights.{moved_cornered, moved_creased, moved_smooth}
use Rattle.tables.specs.Lent.{mesh}
use Rattle.carry.specs.Mixes.{blend}
use Rattle.carry.specs.Rows.{made}
use Rattle.carry.proofs.valued.Valued.moved.Goals as goal

pub returns-then-vertex-lt2 : goal.returns-then-vertex-lt2
returns-then-vertex-lt2 g c =
    let m = mesh c.args.self.now.level.tables in
    let v = c.args.point.0 in
    let n = c.around.ensures.sees.marked_is in
    c.smooth.ensures ∙ ap (blend g.K.ValueKind.blended (made g.K.Rowed.verdict c.args.self.now.rows.rows.now)) (sym (moved_smooth m v (c.args.self.now.level.lawful.sound.walks_not_short v c.requires.within) (omega arith)))

pub returns-then-vertex-eq2 : goal.returns-then-vertex-eq2
returns-then-vertex-eq2 g c =
    let m = mesh c.args.self.now.level.tables in
    let v = c.args.point.0 in
    let n = c.around.ensures.sees.marked_is in
    c.crease.ensures ∙ ap (blend g.K.ValueKind.blended (made g.K.Rowed.verdict c.args.self.now.rows.rows.now)) (sym (moved_creased m v (c.args.self.now.level.lawful.sound.walks_not_short v c.requires.within) (omega arith)))

pub returns : goal.returns
returns g c =
    let m = mesh c.args.self.now.level.tables in
    let v = c.args.point.0 in
    let n = c.around.ensures.sees.marked_is in
    c.peak.ensures ∙ ap (blend g.K.ValueKind.blended (made g.K.Rowed.verdict c.args.self.now.rows.rows.now)) (sym (moved_cornered m v (c.args.self.now.level.lawful.sound.walks_not_short v c.requires.within) (omega arith)))
