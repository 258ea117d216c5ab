use Rattle.refinement.proofs.Corners.{edges_serve_once}
use Rattle.refinement.proofs.edges_serve_once.Goals as goal

pub returns : goal.returns
returns c = edges_serve_once
