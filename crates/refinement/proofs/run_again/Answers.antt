use Rattle.refinement.proofs.Order.{run_again}
use Rattle.refinement.proofs.run_again.Goals as goal

pub returns : goal.returns
returns c = run_again
