use Rattle.std.proofs.Common.{◌*◌, length, refl, ap, ◌∙◌}
use Rattle.std.proofs.lemmas.Result.{err_from_is_err_and}
use Rattle.mesh.specs.Causes.{judge}
use Rattle.tables.specs.Lent.{mesh}
use Rattle.tables.specs.declared.lent.Tables.{Tables}
use Rattle.carry.specs.Rows.{refusal, corners_refusal}
use Rattle.carry.proofs.Made.{first_fault, first_fine}
use Rattle.carry.proofs.lent.corners.Goals as goal

pub returns-in_err-level : goal.returns-in_err-level
unfolding corners_refusal
returns-in_err-level g c =
    let p = err_from_is_err_and c.from_residual.result c.from_residual.ensures.1 in
    rw (p.1, p.2) (record { verdict = first_fault (judge (mesh c.args.tables.now)) _ _ _ c.in_err-level.ensures.verdict; written = refl })

pub returns : goal.returns
unfolding corners_refusal
returns g c = record {
  verdict =
      c.carry.ensures.verdict
      ∙ ap (λ (t : Tables). refusal g.C.Rowed.verdict (mesh t).quads (4 * (mesh t).quads) (16 * (mesh t).quads) c.args.rows.now (length c.args.out.now)) c.in_ok-level.ensures.held
      ∙ first_fine (judge (mesh c.args.tables.now)) _ c.in_ok-level.ensures.verdict;
  written = c.carry.ensures.written;
}
