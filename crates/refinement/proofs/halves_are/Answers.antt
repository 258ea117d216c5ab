use Rattle.refinement.proofs.Halves.{halves_are}
use Rattle.refinement.proofs.halves_are.Goals as goal

pub returns : goal.returns
returns c = halves_are
