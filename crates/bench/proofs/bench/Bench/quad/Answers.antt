use Rattle.std.proofs.lemmas.Result.{err_from_is_err_and}
use Rattle.refinement.specs.Tasks.{quad_task}
use Rattle.bench.specs.Model.{state}
use Rattle.bench.proofs.Steps.{no_work_quad, no_such_quad, quad_carried}
use Rattle.bench.proofs.Keeps.{task_keeps}
use Rattle.bench.proofs.bench.Bench.quad.Goals as goal

pub returns-in_err-size-clause-call : goal.returns-in_err-size-clause-call
returns-in_err-size-clause-call c =
    let p = err_from_is_err_and c.from_residual.result c.from_residual.ensures.1 in
    rw (p.1, p.2) (no_work_quad (state c.args.self.now) _ _ c.in_err-size.ensures c.args.quad.0)

pub returns-then-quad-size-clause-call : goal.returns-then-quad-size-clause-call
returns-then-quad-size-clause-call c = no_such_quad _ _ _ _ _ c.in_ok-size.ensures c.args.quad.0 c.if-quad-size.true

pub invariant_of-self : goal.invariant_of-self
invariant_of-self c = task_keeps _ _ _ _ _ c.in_ok-size.ensures (quad_task c.args.quad.0) _ _ c.if-quad-size.false c.left_after-left.ensures c.run_quad.ensures

pub returns-clause-call : goal.returns-clause-call
returns-clause-call c = quad_carried _ _ _ _ _ c.in_ok-size.ensures c.args.quad.0 _ c.if-quad-size.false c.run_quad.ensures
