use Rattle.refinement.proofs.Corners.{corners_met_once}
use Rattle.refinement.proofs.corners_met_once.Goals as goal

pub returns : goal.returns
returns c = corners_met_once
