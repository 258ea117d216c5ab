use Rattle.refinement.proofs.Order.{any_order}
use Rattle.refinement.proofs.any_order.Goals as goal

pub returns : goal.returns
returns c = any_order
