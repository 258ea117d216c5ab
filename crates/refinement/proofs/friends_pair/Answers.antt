use Rattle.refinement.proofs.Corners.{friends_pair}
use Rattle.refinement.proofs.friends_pair.Goals as goal

pub returns : goal.returns
returns c = friends_pair
