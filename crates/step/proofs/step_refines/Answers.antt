use Rattle.step.proofs.Steps.{step_refines}
use Rattle.step.proofs.step_refines.Goals as goal

pub returns : goal.returns
returns c = step_refines
