use Rattle.std.proofs.Common.{arith}
use Rattle.std.proofs.lemmas.Result.{err_from_is_err_and}
use Rattle.bench.specs.Model.{state}
use Rattle.exported.proofs.Levels.{at_first, at_next, at_stop, at_end}
use Rattle.exported.proofs.benches.refine_levels.Goals as goal

pub loop-done-init : goal.loop-done-init
loop-done-init c = λ words mark m e. at_first words mark m _ e

pub returns-in_err-refine_once : goal.returns-in_err-refine_once
returns-in_err-refine_once c =
    let r = err_from_is_err_and c.from_residual.result c.from_residual.ensures.1 in
    rw (r.1, r.2) (λ words mark m e. at_stop words mark m (state c.loop-done.bench) _ c.loop-done._done c.args.levels _ _ c.loop-done-test.true (c.loop-done.invariant words mark m e) c.in_err-refine_once.ensures)

pub loop-done-preserved : goal.loop-done-preserved
loop-done-preserved c =
    λ words mark m e. at_next words mark m (state c.loop-done.bench) _ c.loop-done._done (c.loop-done.invariant words mark m e) c.in_ok-refine_once.ensures

pub returns : goal.returns
returns c =
    λ words mark m e. at_end words mark m (state c.loop-done.bench) c.loop-done._done c.args.levels (omega arith) (omega arith) (c.loop-done.invariant words mark m e)
