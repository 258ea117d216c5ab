-- The literal 65536.0 is its bit pattern, which computes once `of_bits` is open.
use Rattle.std.proofs.Common.{false, pos, ap, ◌∙◌}
use lib.Ieee.{Float, fin, le, of_bits}
use Rattle.attributes.proofs.Tested.{tested}
use Rattle.attributes.proofs.texture.middle.is_lawful.Goals as goal

pub returns : goal.returns
unfolding of_bits
returns c = ap (λ (y : Float). le y (fin false 1 (pos 16))) c.abs.ensures.value ∙ tested c.args.x
