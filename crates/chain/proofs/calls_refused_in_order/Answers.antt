use Rattle.chain.proofs.Causes.{calls_refused_in_order}
use Rattle.chain.proofs.calls_refused_in_order.Goals as goal

pub returns : goal.returns
returns c = calls_refused_in_order
