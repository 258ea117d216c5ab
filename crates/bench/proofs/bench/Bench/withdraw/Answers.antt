use Rattle.std.proofs.lemmas.Result.{err_from_is_err_and}
use Rattle.chain.specs.Calls.{withdraw as withdraw_call}
use Rattle.chain.proofs.Runs.{declines}
use Rattle.bench.specs.Model.{state}
use Rattle.bench.proofs.Steps.{withdraw_carried}
use Rattle.bench.proofs.bench.Bench.withdraw.Goals as goal

pub returns-in_err-size-clause-call : goal.returns-in_err-size-clause-call
returns-in_err-size-clause-call c =
    let p = err_from_is_err_and c.from_residual.result c.from_residual.ensures.1 in
    rw (p.1, p.2) (declines (state c.args.self.now) (withdraw_call c.args.slip.mark) _ _ c.in_err-size.ensures.call)

pub returns-clause-call : goal.returns-clause-call
returns-clause-call c =
    let h = c.in_ok-size.ensures.call in
    withdraw_carried _ _ _ _ _ h.1.1 c.args.slip.mark h.0
