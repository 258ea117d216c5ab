use Rattle.layout.proofs.Laid.{loads_write}
use Rattle.layout.proofs.loads_write.Goals as goal

pub returns : goal.returns
returns c = loads_write
