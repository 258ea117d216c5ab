use Rattle.requests.proofs.Rows.{gave_shown}
use Rattle.exported_work.specs.Works.{numbers_of}
use Rattle.exported_work_c.proofs.mesh_work.Goals as goal

pub returns-clause-gave : goal.returns-clause-gave
returns-clause-gave c = rw c.new-bench.ensures.is at (gave_shown numbers_of _ _ _ c.work_in.ensures.gave)
