use Rattle.std.proofs.Common.{length, refl}
use Rattle.bench.specs.Model.{state}
use Rattle.requests.specs.Sessions.{first_asked}
use Rattle.requests.proofs.Fits.{settles}
use Rattle.requests.proofs.Through.{closed, fits_held, never_refused}
use Rattle.requests.proofs.perform.work_in.Goals as goal

pub unwrap-requires : goal.unwrap-requires
unwrap-requires g c =
    let rs = first_asked (g.F.Form.asks c.args.form.now) (length c.args.answers.now) c.args.rows.now in
    let f = fits_held (state c.args.bench.now) rs _ _ c.in-Some.ensures.after in
    never_refused c.withdraw.result _ c.withdraw.ensures.call.answers (settles (state c.perform_in.new.bench) c.in-Some.slip.mark f)

pub returns-in_default-clause-after : goal.returns-in_default-clause-after
returns-in_default-clause-after g c =
    closed (state c.args.bench.now) (first_asked (g.F.Form.asks c.args.form.now) (length c.args.answers.now) c.args.rows.now) _ _ c.in_default.ensures.after _ refl

pub returns-in-Some-clause-after : goal.returns-in-Some-clause-after
returns-in-Some-clause-after g c =
    closed (state c.args.bench.now) (first_asked (g.F.Form.asks c.args.form.now) (length c.args.answers.now) c.args.rows.now) _ _ c.in-Some.ensures.after _ c.withdraw.ensures.call.leaves
