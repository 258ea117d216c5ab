use Rattle.attributes.proofs.Equals.{equal_is_a_likeness}
use Rattle.attributes.proofs.texture.middle.equal_is_a_likeness.Goals as goal

pub returns : goal.returns
returns c = equal_is_a_likeness
