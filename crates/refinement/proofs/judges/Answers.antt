use Rattle.refinement.proofs.Causes.{judges}
use Rattle.refinement.proofs.judges.Goals as goal

pub returns : goal.returns
returns c = judges
