use Rattle.std.proofs.lemmas.Result.{err_from_is_err_and}
use Rattle.refinement.specs.Tasks.{point_task}
use Rattle.bench.specs.Model.{state}
use Rattle.bench.proofs.Steps.{no_work_point, no_such_point, point_carried}
use Rattle.bench.proofs.Keeps.{task_keeps}
use Rattle.bench.proofs.bench.Bench.point.Goals as goal

pub returns-in_err-size-clause-call : goal.returns-in_err-size-clause-call
returns-in_err-size-clause-call c =
    let p = err_from_is_err_and c.from_residual.result c.from_residual.ensures.1 in
    rw (p.1, p.2) (no_work_point (state c.args.self.now) _ _ c.in_err-size.ensures c.args.point.0)

pub returns-then-point-size-clause-call : goal.returns-then-point-size-clause-call
returns-then-point-size-clause-call c = no_such_point _ _ _ _ _ c.in_ok-size.ensures c.args.point.0 c.if-point-size.true

pub invariant_of-self : goal.invariant_of-self
invariant_of-self c = task_keeps _ _ _ _ _ c.in_ok-size.ensures (point_task c.args.point.0) _ _ c.if-point-size.false c.left_after-left.ensures c.run_point.ensures

pub returns-clause-call : goal.returns-clause-call
returns-clause-call c = point_carried _ _ _ _ _ c.in_ok-size.ensures c.args.point.0 _ c.if-point-size.false c.run_point.ensures
