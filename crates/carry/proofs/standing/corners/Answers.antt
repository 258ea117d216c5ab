use Rattle.std.proofs.Common.{◌≡◌, ◌*◌, map, length, refl, ◌∙◌}
use Rattle.std.proofs.lemmas.Result.{MatchResult-weaker, err_from_is_err_and}
use Rattle.bench.specs.Model.{state}
use Rattle.carried.specs.Corners.{corners}
use Rattle.tables.specs.Lent.{mesh}
use Rattle.carry.specs.Rows.{made, refusal}
use Rattle.carry.proofs.Asks.{asked_none, asked_some, of_some}
use Rattle.carry.specs.OneLevel.{SeamsMet}
use Rattle.carry.proofs.OneLevel.{seams_kept}
use Rattle.carry.proofs.standing.corners.Goals as goal

pub returns-in_err-tables : goal.returns-in_err-tables
returns-in_err-tables g c =
    let p = err_from_is_err_and c.from_residual.result c.from_residual.ensures.1 in
    rw (p.1, p.2) (record { verdict = asked_none (state c.args.bench.now).standing _ _ _ c.in_err-tables.ensures; written = refl; seams = tt })

pub returns : goal.returns
returns g c =
    let v = g.C.Rowed.verdict in
    let rows = c.args.rows.now in
    let n = length c.args.out.now in
    let is = c.in_ok-tables.ensures.is in
    let t = c.in_ok-tables.tables in
    let o = (state c.args.bench.now).standing in
    record {
      verdict =
          c.carry.ensures.verdict ∙ asked_some o _ (λ m. refusal v m.quads (4 * m.quads) (16 * m.quads) rows n) is;
      written = MatchResult-weaker c.carry.result c.carry.ensures.written (λ _ h. of_some o _ (λ m. c.carry.new.out ≡ map g.C.Rowed.row (corners g.C.CornerKind.middle (made v rows))) is h) (λ _ h. h);
      seams = MatchResult-weaker c.carry.result
          (seams_kept v g.C.Rowed.row g.met.C.Rowed.again (mesh t) c.in_ok-tables.ensures.lawful rows c.carry.new.out c.args.out.now n g.C.CornerKind.middle g.met.C.CornerKind.even
          c.carry.result c.carry.ensures.verdict c.carry.ensures.written)
          (λ _ h. of_some o (mesh t) (λ m. SeamsMet v m rows c.carry.new.out) is h) (λ _ h. h);
    }
