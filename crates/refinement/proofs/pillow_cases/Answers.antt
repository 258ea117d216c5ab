use Rattle.refinement.proofs.Pillow.{pillow_cases}
use Rattle.refinement.proofs.pillow_cases.Goals as goal

pub returns : goal.returns
returns c = pillow_cases
