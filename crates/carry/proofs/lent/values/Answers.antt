use Rattle.std.proofs.Common.{◌≡◌, ◌+◌, ◌*◌, map, length, refl, subst, ap, ◌∙◌, MatchResult}
use Rattle.std.proofs.lemmas.Result.{err_from_is_err_and}
use Rattle.mesh.specs.Causes.{judge}
use Rattle.carried.specs.Blends.{values}
use Rattle.tables.specs.Lent.{mesh}
use Rattle.tables.specs.declared.lent.Tables.{Tables}
use Rattle.carry.specs.Rows.{made, refusal, values_refusal}
use Rattle.carry.proofs.Made.{first_fault, first_fine}
use Rattle.carry.proofs.lent.values.Goals as goal

pub returns-in_err-level : goal.returns-in_err-level
unfolding values_refusal
returns-in_err-level g c =
    let p = err_from_is_err_and c.from_residual.result c.from_residual.ensures.1 in
    rw (p.1, p.2) (record { verdict = first_fault (judge (mesh c.args.tables.now)) _ _ _ c.in_err-level.ensures.verdict; written = refl })

pub returns : goal.returns
unfolding values_refusal
returns g c =
    let v = g.K.Rowed.verdict in
    let rows = c.args.rows.now in
    let h = c.in_ok-level.ensures.held in
    record {
      verdict =
          c.carry.ensures.verdict ∙ ap (λ (t : Tables). refusal v (mesh t).quads (mesh t).points ((mesh t).points + 3 * (mesh t).quads) rows (length c.args.out.now)) h
          ∙ first_fine (judge (mesh c.args.tables.now)) _ c.in_ok-level.ensures.verdict;
      written = subst
          (λ (t : Tables). MatchResult c.carry.result (λ _. c.carry.new.out ≡ map g.K.Rowed.row (values g.K.ValueKind.blended (mesh t) (made v rows))) (λ _. c.carry.new.out ≡ c.args.out.now))
          h c.carry.ensures.written;
    }
