use Rattle.std.proofs.Common.{◌≡◌, ◌+◌, ◌-◌, ◌*◌, [], ◌∷◌, ◌++◌, sym, refl, ap, ◌∙◌, subst, arith}
use Rattle.std.proofs.lemmas.List.{append-nil}
use Rattle.mesh.specs.Causes.{mesh_of}
use Rattle.mesh.specs.Mesh.{point, diagonal, other_end}
use Rattle.kinds.specs.Parts.{total}
use Rattle.kinds.proofs.Parts.{total_append}
use Rattle.refinement.proofs.Loops.{walk_first, walk_more}
use Rattle.carried.specs.Blends.{times}
use Rattle.tables.specs.Lent.{mesh}
use Rattle.carry.specs.Mixes.{Mixed}
use Rattle.carry.specs.Rows.{made}
use Rattle.carry.specs.Walks.{met}
use Rattle.carry.proofs.Rounds.{round, round_more, round_room, round_total, smooth_is, smooth_room}
use Rattle.carry.proofs.Walks.{on_walk, opposite_on_walk, other_on_walk}
use Rattle.carry.proofs.vertex.Vertex.add_smooth.Goals as goal

pub bounds-valued-self : goal.bounds-valued-self
unfolding mesh_of
bounds-valued-self g c = let n = c.args.self.now.valued.now.level.lawful.sound.counted.start_count in let l = c.args.self.now.within in omega arith

pub loop-met-init : goal.loop-met-init
loop-met-init g c = λ v l e.
    (walk_first (mesh c.args.self.now.valued.now.level.tables) v _ e, λ ps h few. subst (Mixed g.K.ValueKind.blended g.K.ValueKind.holds (made g.K.Rowed.verdict c.args.self.now.valued.now.rows.rows.now) _) (sym (append-nil ps)) h)

pub step-corner-requires : goal.step-corner-requires
unfolding mesh_of
step-corner-requires g c =
    let i = (c.loop-met.invariant c.args.self.now.point.0 c.args.self.now.within refl).0 in
    on_walk (mesh c.args.self.now.valued.now.level.tables) c.args.self.now.valued.now.level.lawful.sound c.args.self.now.point.0 _ _ c.args.self.now.within i

pub point-requires : goal.point-requires
unfolding mesh_of other_end
point-requires g c =
    let i = (c.loop-met.invariant c.args.self.now.point.0 c.args.self.now.within refl).0 in
    let l = other_on_walk (mesh c.args.self.now.valued.now.level.tables) c.args.self.now.valued.now.level.lawful.sound c.args.self.now.point.0 _ _ c.args.self.now.within i in
    rw c.other_end.ensures l

pub point-requires-in-loop-met : goal.point-requires-in-loop-met
unfolding mesh_of diagonal
point-requires-in-loop-met g c =
    let i = (c.loop-met.invariant c.args.self.now.point.0 c.args.self.now.within refl).0 in
    let l = opposite_on_walk (mesh c.args.self.now.valued.now.level.tables) c.args.self.now.valued.now.level.lawful.sound c.args.self.now.point.0 _ _ c.args.self.now.within i in
    rw c.diagonal.ensures l

pub loop-met-preserved : goal.loop-met-preserved
unfolding other_end diagonal
loop-met-preserved g c = λ v l e.
    let m = mesh c.args.self.now.valued.now.level.tables in
    let k = c.args.times in
    let i = c.loop-met._met in
    let inv = c.loop-met.invariant v l e in (
      walk_more m v i _ _ inv.0 c.step-corner.ensures.is,
      λ ps h few.
          let before = ps ++ times k (round m (met m v i)) in
          let p = c.point.result.0 in
          let weight : total before ≡ total ps + 7 * (k * i) = total_append ps _ ∙ ap (λ x. total ps + x) (round_total m v i k) in
          let room = round_room m k i c.args.self.now.seen.valence c.loop-met-test.true in
          let h1 = c.add_at-in-loop-met.ensures before (inv.1 ps h few) (omega arith) in
          let more : total (before ++ (p, k * 6) ∷ []) ≡ total before + (k * 6 + 0) = total_append before ((p, k * 6) ∷ []) in
          let h2 = c.add_at-in-loop-met-2.ensures (before ++ (p, k * 6) ∷ []) h1 (omega arith) in
          let a : p ≡ point m (other_end c.loop-met.corner.0) = c.point.ensures.is ∙ ap (point m) c.other_end.ensures in
          let b : c.point-in-loop-met.result.0 ≡ point m (diagonal c.loop-met.corner.0) = c.point-in-loop-met.ensures.is ∙ ap (point m) c.diagonal.ensures in
          subst (Mixed g.K.ValueKind.blended g.K.ValueKind.holds (made g.K.Rowed.verdict c.args.self.now.valued.now.rows.rows.now) c.add_at-in-loop-met-2.new.mix)
          ((λ j. (before ++ (a j, k * 6) ∷ []) ++ (b j, k) ∷ []) ∙ round_more m v i k ps _ inv.0) h2,
    )

pub returns : goal.returns
unfolding mesh_of
returns g c = λ ps h few.
    let m = mesh c.args.self.now.valued.now.level.tables in
    let v = c.args.self.now.point.0 in
    let k = c.args.times in
    let n = c.args.self.now.seen.valence in
    let own = k * (n * (4 * n - 7)) in
    let two = c.args.self.now.valued.now.level.lawful.sound.walks_not_short v c.args.self.now.within in
    let steps = c.args.self.now.steps in
    let room = smooth_room m k n (omega arith) in
    let h1 = c.add_at.ensures ps h (omega arith) in
    let more : total (ps ++ (v, own) ∷ []) ≡ total ps + (own + 0) = total_append ps ((v, own) ∷ []) in
    let h2 = (c.loop-met.invariant v c.args.self.now.within refl).1 (ps ++ (v, own) ∷ []) h1 (omega arith) in
    let all : c.loop-met._met ≡ n = omega arith in
    subst (Mixed g.K.ValueKind.blended g.K.ValueKind.holds (made g.K.Rowed.verdict c.args.self.now.valued.now.rows.rows.now) c.loop-met.mix)
    (ap (λ i. (ps ++ (v, own) ∷ []) ++ times k (round m (met m v i))) all ∙ smooth_is m v n k steps ps) h2
