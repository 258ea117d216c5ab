use Rattle.layout.proofs.Writes.{tasks_write}
use Rattle.layout.proofs.tasks_write.Goals as goal

pub returns : goal.returns
returns c = tasks_write
