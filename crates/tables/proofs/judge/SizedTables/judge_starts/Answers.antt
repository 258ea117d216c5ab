use Rattle.std.proofs.Common.{rules}
use Rattle.mesh.specs.Causes.{mesh_of, start_ok}
use Rattle.refinement.proofs.Tests.{start_tells}
use Rattle.tables.specs.Lent.{mesh}
use Rattle.tables.proofs.Passes.{first_at, nowhere}
use Rattle.tables.proofs.judge.SizedTables.judge_starts.Goals as goal

pub returns-in-Some : goal.returns-in-Some
unfolding mesh_of start_ok
returns-in-Some c = first_at _ _ _ _ (search rules) (search rules) (λ i l. search rules)

pub returns-in-None : goal.returns-in-None
unfolding mesh_of
returns-in-None c = nowhere _ _ _ (λ i l. (start_tells (mesh c.args.self.now.tables) i).passes (search rules, search rules))
