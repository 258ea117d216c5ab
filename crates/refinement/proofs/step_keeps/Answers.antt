use Rattle.refinement.proofs.Corners.{step_keeps}
use Rattle.refinement.proofs.step_keeps.Goals as goal

pub returns : goal.returns
returns c = step_keeps
