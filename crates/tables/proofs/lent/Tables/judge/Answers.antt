use Rattle.mesh.specs.Refusals.{fine}
use Rattle.tables.proofs.Passes.{worded, started}
use Rattle.tables.proofs.lent.Tables.judge.Goals as goal

pub invariant_of-worded : goal.invariant_of-worded
invariant_of-worded c = record { worded = worded _ c.in_ok-sized.sized.sized (c.in_ok-judge_friends.ensures fine) (c.in_ok-judge_marks.ensures fine) }

pub judge_walks-requires : goal.judge_walks-requires
judge_walks-requires c = started _ (worded _ c.in_ok-sized.sized.sized (c.in_ok-judge_friends.ensures fine) (c.in_ok-judge_marks.ensures fine)) (c.in_ok-judge_starts.ensures fine)
