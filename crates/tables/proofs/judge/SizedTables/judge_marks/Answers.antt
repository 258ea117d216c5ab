use Rattle.std.proofs.Common.{rules}
use Rattle.mesh.specs.Causes.{mesh_of, mark_ok}
use Rattle.tables.proofs.Passes.{first_at, nowhere}
use Rattle.tables.proofs.judge.SizedTables.judge_marks.Goals as goal

pub returns-in-Some : goal.returns-in-Some
unfolding mesh_of mark_ok
returns-in-Some c = first_at _ _ _ _ (search rules) (search rules) (λ i l. search rules)

pub returns-in-None : goal.returns-in-None
unfolding mesh_of mark_ok
returns-in-None c = nowhere _ _ _ (λ i l. search rules)
