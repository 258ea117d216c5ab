use Rattle.std.proofs.Common.{◌≡◌, ℕ}
use Rattle.mesh.specs.Mesh.{Mesh}
use Rattle.bench.specs.Model.{state}
use Rattle.exported.specs.Benches.{standing_on}
use Rattle.exported.proofs.Levels.{At}
use Rattle.exported.proofs.benches.refine_levels.Given as goal

abbrev pub invariant-loop-done : goal.invariant-loop-done
invariant-loop-done l =
    (words mark : ℕ) (m : Mesh) → state l.initial.bench ≡ standing_on words mark m → At words mark m l._done (state l.bench)
