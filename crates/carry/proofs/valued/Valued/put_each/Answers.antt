use Rattle.std.proofs.Common.{◌<◌, length, set, ap, arith}
use Rattle.tables.specs.Lent.{mesh}
use Rattle.carry.specs.Rows.{made}
use Rattle.carry.proofs.Slots.{put_keeps, put_more}
use Rattle.carry.proofs.valued.Valued.put_each.Goals as goal

pub loop-n-preserved : goal.loop-n-preserved
loop-n-preserved g c =
    let m = mesh c.args.self.now.level.tables in
    let xs = made g.K.Rowed.verdict c.args.self.now.rows.rows.now in
    let r = c.at-value.result in
    let d = c.requires.due c.loop-n.n r (omega arith) c.at-value.ensures in
    let l : r.1 < length c.loop-n.out = omega (arith, d.0) in
    let is = ap (λ x. set c.loop-n.out r.1 x) c.to_row.ensures in (
      λ s h. put_keeps g.K.Rowed.row g.K.ValueKind.blended m xs c.loop-n.out _ r.1 r.0 l is d.1 s (c.loop-n.invariant.0 s h),
      put_more g.K.Rowed.row g.K.ValueKind.blended m xs c.loop-n.out _ r.1 r.0 l is d.1 (λ k r. goal.F-post g c.args.at k r) c.loop-n.n c.at-value.ensures c.loop-n.invariant.1,
    )

pub returns-clause-right : goal.returns-clause-right
returns-clause-right g c = λ n l. c.loop-n.invariant.1 n (omega arith)
