use Rattle.std.proofs.Common.{arith}
use Rattle.std.proofs.lemmas.Bool.Decides.{nat_tests}
use Rattle.lines.specs.Reading.{roomy}
use Rattle.lines.proofs.lent.TablesMut.has_room.Goals as goal

pub returns-then-quads-self-3 : goal.returns-then-quads-self-3
unfolding roomy
returns-then-quads-self-3 c = grind (arith, nat_tests)

pub returns-else-quads-self-3 : goal.returns-else-quads-self-3
unfolding roomy
returns-else-quads-self-3 c = grind (arith, nat_tests)
