use Rattle.refinement.proofs.Causes.{tables_have_shape}
use Rattle.refinement.proofs.tables_have_shape.Goals as goal

pub returns : goal.returns
returns c = tables_have_shape
