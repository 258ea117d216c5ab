use Rattle.layout.proofs.Laid.{finishes_write}
use Rattle.layout.proofs.finishes_write.Goals as goal

pub returns : goal.returns
returns c = finishes_write
