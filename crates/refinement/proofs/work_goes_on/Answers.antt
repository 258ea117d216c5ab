use Rattle.refinement.proofs.Order.{work_goes_on}
use Rattle.refinement.proofs.work_goes_on.Goals as goal

pub returns : goal.returns
returns c = work_goes_on
