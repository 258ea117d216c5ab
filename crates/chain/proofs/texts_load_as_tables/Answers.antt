use Rattle.chain.proofs.Runs.{texts_load_as_tables}
use Rattle.chain.proofs.texts_load_as_tables.Goals as goal

pub returns : goal.returns
returns c = texts_load_as_tables
