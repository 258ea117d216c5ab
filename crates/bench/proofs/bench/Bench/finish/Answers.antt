use Rattle.std.proofs.Common.{sym, ◌∙◌}
use Rattle.std.proofs.lemmas.Result.{err_from_is_err_and}
use Rattle.bench.specs.Model.{state}
use Rattle.bench.proofs.Steps.{not_closed, not_run, finish_carried}
use Rattle.bench.proofs.Tasks.{one_left, none_left}
use Rattle.bench.proofs.Keeps.{ran_length, finish_keeps}
use Rattle.bench.proofs.bench.Bench.finish.Goals as goal

pub returns-in_err-size-clause-call : goal.returns-in_err-size-clause-call
returns-in_err-size-clause-call c =
    let p = err_from_is_err_and c.from_residual.result c.from_residual.ensures.1 in
    rw (p.1, p.2) (not_closed (state c.args.self.now) c.args.slip.mark _ _ c.in_err-size.ensures.call)

pub returns-in-Some-clause-call : goal.returns-in-Some-clause-call
returns-in-Some-clause-call c =
    let h = c.in_ok-size.ensures.call in
    let a = h.1.1 in
    let n = one_left _ _ (ran_length _ _ a.ready) c.in-Some.task (sym c.lowest.ensures ∙ c.in-Some.is) in
    not_run _ _ _ _ _ a c.args.slip.mark c.in-Some.task h.0 n.0 n.1

pub invariant_of-self : goal.invariant_of-self
invariant_of-self c =
    let a = c.in_ok-size.ensures.call.1.1 in
    finish_keeps _ _ _ _ _ a c.refined.result _ c.refined.ensures.quads_are c.refined.ensures.points_are (none_left _ _ (ran_length _ _ a.ready) (λ k e. c.in_default.not-Some k (c.lowest.ensures ∙ e))) c.bring_down.ensures

pub returns-clause-call : goal.returns-clause-call
returns-clause-call c =
    let h = c.in_ok-size.ensures.call in
    let a = h.1.1 in
    finish_carried _ _ _ _ _ a c.args.slip.mark c.refined.result _ h.0 c.refined.ensures.quads_are c.refined.ensures.points_are (none_left _ _ (ran_length _ _ a.ready) (λ k e. c.in_default.not-Some k (c.lowest.ensures ∙ e))) c.bring_down.ensures
