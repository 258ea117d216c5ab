use Rattle.bench.proofs.Keeps.{kept, at_work}
use Rattle.bench.proofs.bench.Bench.in_work.Goals as goal

pub returns-in-Working : goal.returns-in-Working
returns-in-Working c =
    let b = c.args.self.now in
    at_work b.mark _ b.words.cells.now _ b.stage c.in-Working.is (kept b)
