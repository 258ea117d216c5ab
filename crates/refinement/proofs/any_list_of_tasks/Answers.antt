use Rattle.refinement.proofs.Made.{any_list_of_tasks}
use Rattle.refinement.proofs.any_list_of_tasks.Goals as goal

pub returns : goal.returns
returns c = any_list_of_tasks
