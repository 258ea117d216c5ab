use Rattle.std.proofs.Common.{length, ap, ◌∙◌}
use Rattle.requests.specs.Sessions.{Session, asked, beside, calls_made, first_asked}
use Rattle.requests.proofs.Through.{goes, plays_run}
use Rattle.requests.proofs.Rows.{gave_answers}
use Rattle.requests.proofs.perform.perform.Goals as goal

pub returns : goal.returns
returns c =
    let t = beside c.args.bench.now c.args.held in
    let rs = first_asked asked (length c.args.answers.now) c.args.requests.now in
    let after = c.perform_in.ensures.after in
    let through = goes t.bench (calls_made t rs) _ (ap (λ (u : Session). u.bench) after ∙ plays_run t rs) in
    record { after = after; promise = through.promise; made = through.made; gave = gave_answers t c.args.requests.now _ _ c.perform_in.ensures.gave }
