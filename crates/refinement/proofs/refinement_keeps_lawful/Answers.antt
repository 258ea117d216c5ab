use Rattle.refinement.proofs.Keeps.{refinement_keeps_lawful}
use Rattle.refinement.proofs.refinement_keeps_lawful.Goals as goal

pub returns : goal.returns
returns c = refinement_keeps_lawful
