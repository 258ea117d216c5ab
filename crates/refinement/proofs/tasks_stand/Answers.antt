use Rattle.refinement.proofs.Order.{tasks_stand}
use Rattle.refinement.proofs.tasks_stand.Goals as goal

pub returns : goal.returns
returns c = tasks_stand
