use Rattle.std.proofs.Common.{◌≡◌, ◌+◌, ◌≤◌, sym, refl, ap, ◌∙◌, arith, rules, below_more}
use Rattle.mesh.specs.Causes.{mesh_of, walk_ok}
use Rattle.mesh.specs.Mesh.{valence}
use Rattle.refinement.proofs.Tests.{fails, walk_tells}
use Rattle.tables.specs.Lent.{mesh}
use Rattle.tables.proofs.Passes.{first_at, nowhere}
use Rattle.tables.proofs.Reading.{total_none, total_more}
use Rattle.tables.proofs.judge.WordedTables.judge_walks.Goals as goal

pub loop-v-init : goal.loop-v-init
loop-v-init c = (λ k l. absurd (omega arith), sym (total_none _), omega arith)

pub loop-v-preserved : goal.loop-v-preserved
unfolding mesh_of
loop-v-preserved c =
    let m = mesh c.args.self.now.tables in
    let e = c.valence.ensures c.loop-v.v refl in
    let b = c.loop-v.invariant.2 in
    let n : c.in_ok-steps.field-0 ≡ valence m c.loop-v.v = search rules in
    let s : 2 ≤ c.in_ok-steps.field-0 = search rules in
    let l : c.in_ok-steps.field-0 ≤ 64 = search rules in (
      below_more _ _ c.loop-v.invariant.0 ((walk_tells m c.loop-v.v).passes (omega arith, omega arith)),
      ap (λ n. n + c.in_ok-steps.field-0) c.loop-v.invariant.1 ∙ total_more (valence m) c.loop-v.v _ n,
      omega arith,
    )

pub returns-in_err-steps-clause-verdict : goal.returns-in_err-steps-clause-verdict
unfolding mesh_of
returns-in_err-steps-clause-verdict c =
    let m = mesh c.args.self.now.tables in
    let e = c.valence.ensures c.loop-v.v refl in
    let g : 2 ≤ valence m c.loop-v.v → valence m c.loop-v.v ≤ 64 → ⊥ = search rules in
    λ rest. search rules ∙ first_at 9 (walk_ok m) _ _ (omega arith) (fails (walk_tells m c.loop-v.v) (λ l. g l.0 l.1)) c.loop-v.invariant.0 rest

pub returns-clause-verdict : goal.returns-clause-verdict
unfolding mesh_of
returns-clause-verdict c = nowhere _ _ _ (λ i l. c.loop-v.invariant.0 i (omega arith))
