use Rattle.chain.proofs.Cases.{text_chains}
use Rattle.chain.proofs.text_chains.Goals as goal

pub returns : goal.returns
returns c = text_chains
