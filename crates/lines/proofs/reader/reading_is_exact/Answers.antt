use Rattle.lines.proofs.Exactly.{reading_is_exact}
use Rattle.lines.proofs.reader.reading_is_exact.Goals as goal

pub returns : goal.returns
returns c = reading_is_exact
