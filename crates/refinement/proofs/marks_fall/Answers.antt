use Rattle.refinement.proofs.Keeps.{marks_fall}
use Rattle.refinement.proofs.marks_fall.Goals as goal

pub returns : goal.returns
returns c = marks_fall
