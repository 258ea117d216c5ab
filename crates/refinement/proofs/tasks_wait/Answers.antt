use Rattle.refinement.proofs.Order.{tasks_wait}
use Rattle.refinement.proofs.tasks_wait.Goals as goal

pub returns : goal.returns
returns c = tasks_wait
