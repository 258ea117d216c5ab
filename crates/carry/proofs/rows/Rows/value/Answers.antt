use Rattle.std.proofs.Common.{is_ok, ap, ◌∙◌}
use Rattle.carry.proofs.Made.{makes_at, made_at}
use Rattle.carry.proofs.rows.Rows.value.Goals as goal

pub unwrap-requires : goal.unwrap-requires
unwrap-requires g c =
    let v = g.K.Rowed.verdict in
    let r = c.index-self-i.result in
    ap is_ok c.make.ensures ∙ makes_at v c.args.self.now.rows.now c.args.self.now.all c.args.i c.requires r

pub returns : goal.returns
returns g c = λ d.
    let v = g.K.Rowed.verdict in
    let r = c.index-self-i.result in
    let made = made_at v c.args.self.now.rows.now c.args.self.now.all c.args.i c.requires r d in
    let read = ap v c.index-self-i.is in
    cc
