use Rattle.std.proofs.Common.{◌≡◌, ◌*◌, ◌≤◌, length, sym, ◌∙◌, inl, inr, arith}
use Rattle.mesh.specs.Mesh.{most_quads}
use Rattle.std.proofs.lemmas.Bool.{and_from, and_left, and_right, eq-eqb, ne_eqb, le-leb, lt-leb, cases_eq}
use Rattle.refinement.proofs.Causes.{once_on, once_fault}
use Rattle.carry.specs.Rows.{refusal}
use Rattle.carry.proofs.rows.Rows.accepted.Goals as goal

pub returns-then-sizes-gt-MOST_QUADS-clause-verdict : goal.returns-then-sizes-gt-MOST_QUADS-clause-verdict
unfolding refusal
returns-then-sizes-gt-MOST_QUADS-clause-verdict g c = sym (once_fault 13 _ _ (lt-leb _ _ (omega arith)))

pub returns-then-rows-sizes-clause-verdict : goal.returns-then-rows-sizes-clause-verdict
unfolding refusal
returns-then-rows-sizes-clause-verdict g c =
    sym (once_on 13 _ _ (le-leb _ _ (omega arith))
    ∙ once_fault 19 _ _ (elim (cases_eq (length c.args.rows.now) c.args.sizes.standing) [
      | inl e ↦ and_right _ _ (ne_eqb c.args.sizes.room c.args.sizes.new (λ f. omega arith))
      | inr e ↦ and_left _ _ (ne_eqb _ _ e)
    ]))

pub returns-clause-verdict : goal.returns-clause-verdict
unfolding refusal
returns-clause-verdict g c =
    let few : 4 * c.args.sizes.quads ≤ most_quads = omega arith in
    let old : length c.args.rows.now ≡ c.args.sizes.standing = omega arith in
    let new : c.args.sizes.room ≡ c.args.sizes.new = omega arith in
    c.judged.ensures.verdict ∙ sym (once_on 13 _ _ (le-leb _ _ few) ∙ once_on 19 _ _ (and_from _ _ (eq-eqb _ _ old) (eq-eqb _ _ new)))
