use Rattle.std.proofs.Common.{None}
use Rattle.requests.specs.Sessions.{beside}
use Rattle.requests.proofs.Through.{goes}
use Rattle.requests.proofs.Rows.{gave_answers}
use Rattle.requests.proofs.perform.work.Goals as goal

pub returns : goal.returns
returns c =
    let after = c.work_in.ensures.after in
    let through = goes _ _ _ after in
    record {
      promise = through.promise;
      after = after;
      made = through.made;
      gave = gave_answers (beside c.args.bench.now None) c.args.requests.now _ _ c.work_in.ensures.gave;
    }
