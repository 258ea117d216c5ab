use Rattle.attributes.specs.Nearest.{nearest_is, nearest_only, nearest_above, nearest_below}
use Rattle.attributes.proofs.rounding.rounded_once.Goals as goal

pub returns : goal.returns
returns c = record { is_nearest = nearest_is; only = nearest_only; above = nearest_above; below = nearest_below }
