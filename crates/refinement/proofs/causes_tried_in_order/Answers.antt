use Rattle.refinement.proofs.Causes.{causes_tried_in_order}
use Rattle.refinement.proofs.causes_tried_in_order.Goals as goal

pub returns : goal.returns
returns c = causes_tried_in_order
