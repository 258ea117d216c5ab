use Rattle.refinement.proofs.Order.{work_begins}
use Rattle.refinement.proofs.work_begins.Goals as goal

pub returns : goal.returns
returns c = work_begins
