use Rattle.std.proofs.Common.{arith}
use Rattle.bench.proofs.Asks.{lent_level}
use Rattle.bench.proofs.words.Words.tables.Goals as goal

pub returns-clause-is : goal.returns-clause-is
returns-clause-is c = lent_level c.args.self.now.cells.now c.args.base c.args.size.quads c.args.size.points _ _ _ _ c.requires (omega arith) (omega arith) (omega arith) (omega arith)
