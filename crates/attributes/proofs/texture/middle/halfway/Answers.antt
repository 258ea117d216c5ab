-- The code's two operations are those of `halfway_of`; the literal 0.5 is its bit pattern.
use Rattle.std.proofs.Common.{refl}
use lib.Ieee.{of_bits}
use Rattle.attributes.specs.Halfway.{halfway_of}
use Rattle.attributes.proofs.texture.middle.halfway.Goals as goal

pub returns : goal.returns
unfolding of_bits halfway_of
returns c = refl
