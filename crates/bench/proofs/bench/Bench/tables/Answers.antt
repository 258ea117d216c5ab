use Rattle.std.proofs.Common.{inl, inr}
use Rattle.bench.specs.Model.{state}
use Rattle.bench.proofs.Asks.{lent_standing, lent_while_working, lent_work}
use Rattle.bench.proofs.Keeps.{kept}
use Rattle.bench.proofs.bench.Bench.tables.Goals as goal

pub returns-in-Standing-stage : goal.returns-in-Standing-stage
returns-in-Standing-stage c =
    let b = c.args.self.now in
    rw c.in-Standing.is (elim c.in-Standing-stage.is [
      | inl e ↦ lent_standing b.mark b.words.cells.now c.tables.result b.stage c.in-Standing-stage.size (kept b) c.tables.ensures.is e
      | inr e ↦ lent_while_working b.mark b.words.cells.now c.tables.result b.stage c.in-Standing-stage.size (kept b) c.tables.ensures.is _ e.1
    ])

pub returns-in_ok-size-in-InWork : goal.returns-in_ok-size-in-InWork
returns-in_ok-size-in-InWork c =
    let b = c.args.self.now in
    rw c.in-InWork.is (lent_work (state b) b.words.cells.now c.tables-in-InWork.result c.refined.result _ _ _ _ c.in_ok-size-in-InWork.ensures c.words.ensures c.refined.ensures.quads_are c.refined.ensures.points_are c.tables-in-InWork.ensures.is)
