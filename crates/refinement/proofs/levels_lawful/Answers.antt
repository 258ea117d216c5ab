use Rattle.refinement.proofs.Keeps.{levels_lawful}
use Rattle.refinement.proofs.levels_lawful.Goals as goal

pub returns : goal.returns
returns c = levels_lawful
