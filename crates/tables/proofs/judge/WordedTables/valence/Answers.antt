use Rattle.std.proofs.Common.{◌≡◌, suc, ◌+◌, sym, ap, ◌∙◌, arith, below_more}
use Rattle.mesh.specs.Mesh.{start, walk}
use Rattle.refinement.proofs.Loops.{walk_more, walk_first, valence_back, valence_none}
use Rattle.tables.specs.Lent.{mesh}
use Rattle.tables.proofs.judge.WordedTables.valence.Goals as goal

pub loop-steps-init : goal.loop-steps-init
loop-steps-init c = (c.requires, λ v f. walk_first (mesh c.args.self.now.tables) v _ f, λ v f i l. absurd (omega arith))

pub loop-steps-preserved : goal.loop-steps-preserved
loop-steps-preserved c =
    let m = mesh c.args.self.now.tables in (
      c.next-corner.ensures.below,
      λ v f. walk_more m v _ _ _ (c.loop-steps.invariant.1 v f) c.next-corner.ensures.is,
      λ v f.
          below_more (λ i. walk m v (suc i) ≡ start m v → ⊥) _ (c.loop-steps.invariant.2 v f)
          (λ q.
          let z : c.loop-steps.steps + 1 ≡ suc c.loop-steps.steps = omega arith in
          c.if-corner-from.false (walk_more m v _ _ _ (c.loop-steps.invariant.1 v f) c.next-corner.ensures.is ∙ ap (walk m v) z ∙ q ∙ f)),
    )

pub returns-then-corner-from : goal.returns-then-corner-from
returns-then-corner-from c = λ v f.
    let m = mesh c.args.self.now.tables in (
      valence_back m v c.loop-steps.steps c.loop-steps-test.true
          (sym (walk_more m v _ _ _ (c.loop-steps.invariant.1 v f) c.next-corner.ensures.is) ∙ c.if-corner-from.true ∙ sym f)
          (c.loop-steps.invariant.2 v f),
      omega arith,
    )

pub returns : goal.returns
returns c = λ v f. let e = valence_none (mesh c.args.self.now.tables) v (λ i l. c.loop-steps.invariant.2 v f i (omega arith)) in omega arith
