use Rattle.refinement.proofs.Order.{refined_is}
use Rattle.refinement.proofs.refined_is.Goals as goal

pub returns : goal.returns
returns c = refined_is
