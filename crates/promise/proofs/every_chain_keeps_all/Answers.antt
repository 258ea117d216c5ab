use Rattle.promise.proofs.Chains.{every_chain_keeps_all}
use Rattle.promise.proofs.every_chain_keeps_all.Goals as goal

pub returns : goal.returns
returns g c =
    every_chain_keeps_all g.K.ValueKind.lies g.K.ValueKind.blended g.C.CornerKind.middle g.met.K.ValueKind.keeps g.met.C.CornerKind.even
