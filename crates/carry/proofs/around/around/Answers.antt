use Rattle.std.proofs.Common.{sym, refl, ap, ◌∙◌, subst, arith}
use Rattle.mesh.specs.Causes.{mesh_of}
use Rattle.mesh.specs.Mesh.{walk}
use Rattle.refinement.proofs.Loops.{walk_first, walk_more}
use Rattle.refinement.proofs.Walks.{walk_below}
use Rattle.tables.specs.Lent.{mesh}
use Rattle.carry.specs.Walks.{Seen, marked_met}
use Rattle.carry.proofs.Walks.{goes_on, is_back, marked_all, met_few, seen_on}
use Rattle.carry.proofs.around.around.Goals as goal

pub bounds-level-point : goal.bounds-level-point
unfolding mesh_of
bounds-level-point c = let n = c.args.level.now.lawful.sound.counted.start_count in let l = c.requires.within in omega arith

pub loop-corner-init : goal.loop-corner-init
loop-corner-init c = λ v l e.
    let m = mesh c.args.level.now.tables in
    let two = c.args.level.now.lawful.sound.walks_not_short v l in
    let z = c.none-seen.ensures.none in (
      omega arith,
      walk_first m v _ e ∙ ap (walk m v) (sym z),
      subst (λ n. Seen m (marked_met m v n) c.none-seen.result) (sym z) (c.none-seen.ensures.sees m),
    )

pub marked_step-mark-requires : goal.marked_step-mark-requires
unfolding mesh_of
marked_step-mark-requires c =
    let i = c.loop-corner.invariant c.args.point.0 c.requires.within refl in
    let b = walk_below (mesh c.args.level.now.tables) c.args.level.now.lawful.sound c.args.point.0 c.loop-corner.seen.valence c.requires.within in
    let e = i.1 in
    omega arith

pub more-seen-requires : goal.more-seen-requires
unfolding mesh_of
more-seen-requires c =
    let m = mesh c.args.level.now.tables in
    let v = c.args.point.0 in
    let i = c.loop-corner.invariant v c.requires.within refl in
    let most = c.args.level.now.lawful.sound.walks_return v c.requires.within in
    let a = i.0 in
    let k = i.2.marked_is in
    let few = met_few m v c.loop-corner.seen.valence in
    record { few = omega arith; fewer = omega arith }

pub returns-then-corner-start : goal.returns-then-corner-start
unfolding mesh_of
returns-then-corner-start c =
    let m = mesh c.args.level.now.tables in
    let v = c.args.point.0 in
    let i = c.loop-corner.invariant v c.requires.within refl in
    let n = c.loop-corner.seen.valence in
    let k = c.more-seen.ensures.steps in
    let back = is_back m v n i.0 (sym (walk_more m v n _ _ i.1 c.marked_step-mark.ensures.is) ∙ c.if-corner-start.true) in
    let s = seen_on m v n _ _ _ i.1 k (c.more-seen.ensures.sees m _ _ c.marked_step-mark.ensures.marks i.2) in
    record { steps = k ∙ back; sees = rw (marked_all m v _ (k ∙ back)) at s }

pub loop-corner-smaller : goal.loop-corner-smaller
unfolding mesh_of
loop-corner-smaller c =
    let i = c.loop-corner.invariant c.args.point.0 c.requires.within refl in
    let a = i.0 in
    let most = c.args.level.now.lawful.sound.walks_return c.args.point.0 c.requires.within in
    let k = c.more-seen.ensures.steps in
    omega arith

pub loop-corner-preserved : goal.loop-corner-preserved
loop-corner-preserved c = λ v l e.
    let m = mesh c.args.level.now.tables in
    let i = c.loop-corner.invariant v l e in
    let n = c.loop-corner.seen.valence in
    let k = c.more-seen.ensures.steps in
    let w = walk_more m v n _ _ i.1 c.marked_step-mark.ensures.is in
    let on = goes_on m v n i.0 (c.args.level.now.lawful.sound.walks_return v l) (λ b. c.if-corner-start.false (w ∙ b ∙ e)) in (
      omega arith,
      w ∙ ap (walk m v) (sym k),
      seen_on m v n _ _ _ i.1 k (c.more-seen.ensures.sees m _ _ c.marked_step-mark.ensures.marks i.2),
    )
