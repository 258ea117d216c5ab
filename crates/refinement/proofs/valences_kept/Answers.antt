use Rattle.refinement.proofs.Keeps.{valences_kept}
use Rattle.refinement.proofs.valences_kept.Goals as goal

pub returns : goal.returns
returns c = valences_kept
