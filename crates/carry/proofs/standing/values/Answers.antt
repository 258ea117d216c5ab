use Rattle.std.proofs.Common.{◌≡◌, ◌+◌, ◌*◌, map, length, refl, ◌∙◌}
use Rattle.std.proofs.lemmas.Result.{MatchResult-weaker, err_from_is_err_and}
use Rattle.bench.specs.Model.{state}
use Rattle.carried.specs.Blends.{values}
use Rattle.tables.specs.Lent.{mesh}
use Rattle.carry.specs.Rows.{made, refusal}
use Rattle.carry.proofs.Asks.{asked_none, asked_some, of_some}
use Rattle.carry.proofs.OneLevel.{range_kept}
use Rattle.carry.proofs.standing.values.Goals as goal

pub returns-in_err-standing : goal.returns-in_err-standing
returns-in_err-standing g c =
    let p = err_from_is_err_and c.from_residual.result c.from_residual.ensures.1 in
    rw (p.1, p.2) (record { verdict = asked_none (state c.args.bench.now).standing _ _ _ c.in_err-standing.ensures; written = refl; range = tt })

pub returns : goal.returns
returns g c =
    let v = g.K.Rowed.verdict in
    let rows = c.args.rows.now in
    let is = c.in_ok-standing.ensures.is in
    let o = (state c.args.bench.now).standing in
    record {
      verdict = c.carry.ensures.verdict ∙ asked_some o _ (λ m. refusal v m.quads m.points (m.points + 3 * m.quads) rows (length c.args.out.now)) is;
      written = MatchResult-weaker c.carry.result c.carry.ensures.written (λ _ h. of_some o _ (λ m. c.carry.new.out ≡ map g.K.Rowed.row (values g.K.ValueKind.blended m (made v rows))) is h) (λ _ h. h);
      range = range_kept v g.K.Rowed.row g.met.K.Rowed.again (mesh c.in_ok-standing.standing) c.in_ok-standing.ensures.lawful rows c.carry.new.out c.args.out.now
          (length c.args.out.now) g.K.ValueKind.lies g.K.ValueKind.blended g.met.K.ValueKind.keeps c.carry.result c.carry.ensures.verdict c.carry.ensures.written;
    }
