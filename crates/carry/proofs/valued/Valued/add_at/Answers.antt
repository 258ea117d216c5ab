use Rattle.carry.specs.Rows.{made}
use Rattle.carry.proofs.Mixes.{mixed_more}
use Rattle.carry.proofs.valued.Valued.add_at.Goals as goal

pub returns : goal.returns
returns g c =
    let k = g.K.ValueKind in
    mixed_more k.blended k.holds k.weighed g.met.K.ValueKind.weighs (made g.K.Rowed.verdict c.args.self.now.rows.rows.now) c.args.mix.now c.add_part.new.mix _ c.args.at.0 c.args.weight
    (c.value-value.ensures (k.blended _)) c.add_part.ensures.adds
