-- The walks of a refined level: those of the old points are as long as before, and all others have four steps.
use Rattle.std.proofs.Common.{◌≡◌, ℕ, zero, suc, ◌+◌, ◌-◌, ◌*◌, ◌%◌, ◌<◌, ◌≤◌, sym, ap, ◌∙◌, inl, inr, arith}
use Rattle.mesh.specs.Count.{total}
use Rattle.mesh.specs.Mesh.{Mesh, Lawful, friend, start, ends, step, walk, valence}
use Rattle.refinement.specs.Tasks.{old_slot, face_slot, edge_slot, Refined}
use Rattle.refinement.proofs.Totals.{total_same, total_each}
use Rattle.refinement.proofs.Numbers.{sides, below_4}
use Rattle.refinement.proofs.Slots.{total_slots}
use Rattle.refinement.proofs.Walks.{walk_below, walk_side, walk_back, walk_not_back, valence_is}
use Rattle.refinement.proofs.Corners.{served, served_below, friend_served}
use Rattle.refinement.proofs.Level.{next, start_old, start_face, start_edge, step_old_even, step_old_odd, step_face, step_edge_0, step_edge_1, step_edge_2, step_edge_3}

-- a walk of four steps
pub four_steps : (m : Mesh) (v a b c d : ℕ) → start m v ≡ a → step m a ≡ b → step m b ≡ c → step m c ≡ d → step m d ≡ a → (b ≡ a → ⊥) → (c ≡ a → ⊥) → (d ≡ a → ⊥) → valence m v ≡ 4
unfolding walk
four_steps m v a b c d e0 e1 e2 e3 e4 nb nc nd =
    let w1 : walk m v 1 ≡ b = ap (step m) e0 ∙ e1 in
    let w2 : walk m v 2 ≡ c = ap (step m) w1 ∙ e2 in
    let w3 : walk m v 3 ≡ d = ap (step m) w2 ∙ e3 in
    let w4 : walk m v 4 ≡ start m v = ap (step m) w3 ∙ e4 ∙ sym e0 in
    valence_is m v 4 (omega arith) (omega arith) w4
    (λ i p l. below_4 (λ i. 0 < i → walk m v i ≡ start m v → ⊥)
    (λ p q. omega arith)
    (λ p q. nb (sym w1 ∙ q ∙ e0))
    (λ p q. nc (sym w2 ∙ q ∙ e0))
    (λ p q. nd (sym w3 ∙ q ∙ e0))
    i l p)

walk_none : (m : Mesh) (v k : ℕ) → k ≡ 0 → walk m v k ≡ start m v
unfolding walk
walk_none m v k e = ap (walk m v) e

module _ (m : Mesh) (w : Lawful m) (r : Mesh) (d : Refined m r) where
  walk_even : (v i : ℕ) → v < m.points → start m v % 2 ≡ 0 → walk r (old_slot m v) i ≡ 4 * walk m v i
  unfolding walk
  walk_even v zero h e = start_old m w r d v h
  walk_even v (suc i) h e =
      ap (step r) (walk_even v i h e) ∙ step_old_even m w r d (walk m v i) (walk_below m w.sound v i h) (walk_side m v i ∙ e)

  walk_odd : (v i : ℕ) → v < m.points → start m v % 2 ≡ 1 → i ≤ valence m v → walk r (old_slot m v) i ≡ 4 * walk m v (valence m v - i)
  unfolding walk
  walk_odd v zero h e l =
      let z : valence m v - 0 ≡ valence m v = omega arith in
      start_old m w r d v h ∙ ap (λ x. 4 * x) (sym (ap (walk m v) z ∙ walk_back m v (w.sound.walks_return v h)))
  walk_odd v (suc i) h e l =
      let k = valence m v - suc i in
      let z : valence m v - i ≡ suc (valence m v - suc i) = omega arith in
      ap (step r) (walk_odd v i h e (omega arith) ∙ ap (λ x. 4 * walk m v x) z)
      ∙ step_old_odd m w r d (walk m v k) (walk_below m w.sound v k h) (walk_side m v k ∙ e)

  pub valence_old : (v : ℕ) → v < m.points → valence r (old_slot m v) ≡ valence m v
  valence_old v h =
      let s = start_old m w r d v h in
      let b = walk_back m v (w.sound.walks_return v h) in
      let two = w.sound.walks_not_short v h in
      let most = w.sound.walks_return v h in
      elim (sides (start m v)) [
        | inl e ↦ valence_is r (old_slot m v) (valence m v) (omega arith) most
            (let a = walk_even v (valence m v) h e in omega arith)
            (λ i p l q. let a = walk_even v i h e in walk_not_back m v i p l (omega arith))
        | inr e ↦ valence_is r (old_slot m v) (valence m v) (omega arith) most
            (let a = walk_odd v (valence m v) h e (omega arith) in
            let y = walk_none m v (valence m v - valence m v) (omega arith) in omega arith)
            (λ i p l q. let a = walk_odd v i h e (omega arith) in walk_not_back m v (valence m v - i) (omega arith) (omega arith) (omega arith))
      ]

  pub valence_face : (q : ℕ) → q < m.quads → valence r (face_slot q) ≡ 4
  unfolding next
  valence_face q h =
      let s0 = step_face m w r d (4 * q) (omega arith) in
      let s1 = step_face m w r d (4 * q + 1) (omega arith) in
      let s2 = step_face m w r d (4 * q + 2) (omega arith) in
      let s3 = step_face m w r d (4 * q + 3) (omega arith) in
      let s = start_face m w r d q h in
      four_steps r (face_slot q) (4 * (4 * q) + 2) (4 * (4 * q + 1) + 2) (4 * (4 * q + 2) + 2) (4 * (4 * q + 3) + 2)
      (omega arith) (omega arith) (omega arith) (omega arith) (omega arith) (omega arith) (omega arith) (omega arith)

  valence_edge_of : (o : ℕ) → o < 2 * m.quads → valence r (edge_slot (friend m o)) ≡ 4
  unfolding ends
  valence_edge_of o h =
      four_steps r (edge_slot (friend m o)) (8 * friend m o + 1) (8 * friend m o + 7) (8 * o + 5) (4 * ends o + 3)
      (start_edge m w r d o h)
      (step_edge_0 m w r d (friend m o) (w.sound.friends_are_edges o h))
      (step_edge_1 m w r d o h) (step_edge_2 m w r d o h) (step_edge_3 m w r d o h)
      (omega arith) (omega arith) (omega arith)

  pub valence_edge : (g : ℕ) → g < 2 * m.quads → valence r (edge_slot g) ≡ 4
  valence_edge g h = let f = friend_served m w g h in rw f at (valence_edge_of (served m w g) (served_below m w g h))

  -- the walks meet all new corners
  pub new_total : total (valence r) (m.points + 3 * m.quads) ≡ 16 * m.quads
  new_total =
      let a = total_slots m w.sound.points_enough (valence r) in
      let b = total_same (λ v. valence r (old_slot m v)) (valence m) m.points valence_old in
      let c = total_each 4 (λ q. valence r (face_slot q)) m.quads valence_face in
      let e = total_each 4 (λ g. valence r (edge_slot g)) (2 * m.quads) valence_edge in
      let all = w.walks_meet_all in
      omega arith
