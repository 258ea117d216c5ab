use Rattle.std.proofs.Common.{ℕ, arith}
use Rattle.std.proofs.Math.ListN.{length-set}
use Rattle.refinement.specs.Tasks.{put}
use Rattle.bench.proofs.Tasks.{edge_slot_is}
use Rattle.bench.proofs.words.QuadTask.put_starts.Goals as goal

pub bounds-cells-at-2 : goal.bounds-cells-at-2
bounds-cells-at-2 c = omega (arith, length-set {A = ℕ}, c.edge_slot-e0.ensures, edge_slot_is c.args.self.g0)

pub bounds-cells-at-3 : goal.bounds-cells-at-3
bounds-cells-at-3 c = omega (arith, length-set {A = ℕ}, c.edge_slot-e1.ensures, edge_slot_is c.args.self.g1)

pub returns : goal.returns
unfolding put
returns c = cc
