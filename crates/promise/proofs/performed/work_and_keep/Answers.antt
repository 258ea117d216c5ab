use Rattle.std.proofs.Common.{[]}
use Rattle.promise.specs.Whole.{KeepsAllThrough}
use Rattle.promise.proofs.Chains.{keeps_through}
use Rattle.promise.proofs.performed.work_and_keep.Goals as goal

pub returns : goal.returns
unfolding KeepsAllThrough
returns g c =
    let w = c.work.ensures in
    let keeps =
    keeps_through g.K.ValueKind.lies g.K.ValueKind.blended g.C.CornerKind.middle g.met.K.ValueKind.keeps g.met.C.CornerKind.even _ _ _ w.promise in
    record { keeps = keeps; made = λ words mark m. keeps words mark [] m.holds; after = w.after; gave = w.gave }
