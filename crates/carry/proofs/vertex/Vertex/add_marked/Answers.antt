use Rattle.std.proofs.Common.{◌≡◌, ◌+◌, ◌*◌, ◌≤◌, ltb, [], ◌∷◌, ◌++◌, length, sym, refl, ap, ◌∙◌, subst, arith}
use Rattle.std.proofs.lemmas.List.{append-nil, length_push}
use Rattle.mesh.specs.Causes.{mesh_of}
use Rattle.mesh.specs.Mesh.{point, other_end}
use Rattle.kinds.specs.Parts.{total}
use Rattle.kinds.proofs.Parts.{total_append}
use Rattle.refinement.proofs.Loops.{walk_first, walk_more}
use Rattle.tables.specs.Lent.{mesh}
use Rattle.carry.specs.Mixes.{Mixed}
use Rattle.carry.specs.Rows.{made}
use Rattle.carry.specs.Walks.{marked_met}
use Rattle.carry.proofs.Rounds.{crease_more, crease_parts, crease_room, crease_total, marked_fewer}
use Rattle.carry.proofs.Walks.{marked_all, met_marked, met_smooth, on_walk, other_on_walk}
use Rattle.carry.proofs.vertex.Vertex.add_marked.Goals as goal
use Rattle.carry.proofs.vertex.Vertex.add_marked.Goals.{then-is_marked, else-is_marked}

pub bounds-valued-self : goal.bounds-valued-self
unfolding mesh_of
bounds-valued-self g c = let n = c.args.self.now.valued.now.level.lawful.sound.counted.start_count in let l = c.args.self.now.within in omega arith

pub loop-met-init : goal.loop-met-init
loop-met-init g c = λ v l e.
    (walk_first (mesh c.args.self.now.valued.now.level.tables) v _ e, λ ps h few. subst (Mixed g.K.ValueKind.blended g.K.ValueKind.holds (made g.K.Rowed.verdict c.args.self.now.valued.now.rows.rows.now) _) (sym (append-nil ps)) h)

pub marked_step-mark-requires : goal.marked_step-mark-requires
unfolding mesh_of
marked_step-mark-requires g c =
    let i = (c.loop-met.invariant c.args.self.now.point.0 c.args.self.now.within refl).0 in
    on_walk (mesh c.args.self.now.valued.now.level.tables) c.args.self.now.valued.now.level.lawful.sound c.args.self.now.point.0 _ _ c.args.self.now.within i

pub point-requires : goal.point-requires
unfolding mesh_of other_end
point-requires g c =
    let i = (c.loop-met.invariant c.args.self.now.point.0 c.args.self.now.within refl).0 in
    let l = other_on_walk (mesh c.args.self.now.valued.now.level.tables) c.args.self.now.valued.now.level.lawful.sound c.args.self.now.point.0 _ _ c.args.self.now.within i in
    rw c.other_end.ensures l

pub loop-met-preserved : goal.loop-met-preserved
unfolding other_end
loop-met-preserved g c =
    let m = mesh c.args.self.now.valued.now.level.tables in
    let i = c.loop-met._met in
    let at = c.loop-met.corner.0 in
    let k = c.args.weight in
    let xs = made g.K.Rowed.verdict c.args.self.now.valued.now.rows.rows.now in
    λ v l e.
    let inv = c.loop-met.invariant v l e in
    let cs = marked_met m v i in (
      walk_more m v i _ _ inv.0 c.marked_step-mark.ensures.is,
      λ ps h few. elim c.if-is_marked.branch [
        | then-is_marked w ↦
            let grow = met_marked m v i at inv.0 (w.if-is_marked.ensures ∙ ap (ltb 0) c.marked_step-mark.ensures.marks) in
            let test = c.loop-met-test.true in
            let fewer = marked_fewer m v (i + 1) c.args.self.now.seen.valence (omega arith) in
            let one = ap length grow in
            let push = length_push cs at in
            let room = crease_room m v i c.args.self.now.seen.valence k (omega arith) in
            let before = ps ++ crease_parts m k cs in
            let weight : total before ≡ total ps + length cs * k = total_append ps _ ∙ ap (λ x. total ps + x) (crease_total m k cs) in
            let h1 = w.add_at.ensures before (inv.1 ps h few) (omega arith) in
            let p : w.point.result.0 ≡ point m (other_end at) = w.point.ensures.is ∙ ap (point m) w.other_end.ensures in
            subst (λ x. Mixed g.K.ValueKind.blended g.K.ValueKind.holds xs x (ps ++ crease_parts m k (marked_met m v (i + 1)))) (sym w.mix-is)
            (subst (Mixed g.K.ValueKind.blended g.K.ValueKind.holds xs w.add_at.new.mix)
            ((λ j. before ++ (p j, k) ∷ []) ∙ crease_more m k ps cs at ∙ ap (λ cs. ps ++ crease_parts m k cs) grow) h1)
        | else-is_marked w ↦
            let same = met_smooth m v i at inv.0 (w.if-is_marked.ensures ∙ ap (ltb 0) c.marked_step-mark.ensures.marks) in
            subst (λ x. Mixed g.K.ValueKind.blended g.K.ValueKind.holds xs x (ps ++ crease_parts m k (marked_met m v (i + 1)))) (sym w.mix-is)
            (subst (Mixed g.K.ValueKind.blended g.K.ValueKind.holds xs c.loop-met.mix)
            (ap (λ cs. ps ++ crease_parts m k cs) same) (inv.1 ps h few))
      ],
    )

pub returns : goal.returns
unfolding mesh_of
returns g c = λ ps h few.
    let m = mesh c.args.self.now.valued.now.level.tables in
    let v = c.args.self.now.point.0 in
    let n = c.args.self.now.seen.valence in
    let same = marked_all m v n c.args.self.now.steps in
    let all : c.loop-met._met ≡ n = omega arith in
    let count = ap length same in
    let few' : total ps + length (marked_met m v n) * c.args.weight ≤ 268435456 = rw same few in
    let h2 = (c.loop-met.invariant v c.args.self.now.within refl).1 ps h few' in
    subst (Mixed g.K.ValueKind.blended g.K.ValueKind.holds (made g.K.Rowed.verdict c.args.self.now.valued.now.rows.rows.now) c.loop-met.mix)
    (ap (λ i. ps ++ crease_parts m c.args.weight (marked_met m v i)) all ∙ ap (λ cs. ps ++ crease_parts m c.args.weight cs) same) h2
