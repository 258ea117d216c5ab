use Rattle.layout.proofs.Laid.{begins_write}
use Rattle.layout.proofs.begins_write.Goals as goal

pub returns : goal.returns
returns c = begins_write
