use Rattle.refinement.proofs.Order.{slots_owned_once}
use Rattle.refinement.proofs.slots_owned_once.Goals as goal

pub returns : goal.returns
returns c = slots_owned_once
