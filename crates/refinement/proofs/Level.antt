-- What stands in a refined level, by the corners, edges and off-edges of the old one.
use Rattle.std.proofs.Common.{◌≡◌, ℕ, ◌+◌, ◌*◌, ◌/◌, ◌%◌, ◌<◌, get_or, refl, ap, ◌∙◌, arith}
use Rattle.std.proofs.lemmas.Bool.Decides.{nat_tests}
use Rattle.mesh.specs.Mesh.{Mesh, Lawful, point, friend, mark, start, off_edge, begins, ends, step}
use Rattle.refinement.specs.Tasks.{quad_task, point_task, old_slot, face_slot, edge_slot, fallen, new_corners, friend_writes, mark_writes, Refined}
use Rattle.refinement.proofs.Steps.{begins_off_edge, ends_off_edge, off_edge_below, step_even, step_odd}
use Rattle.refinement.proofs.Puts.{from_holds, slot_of, word_of, write_holds}
use Rattle.refinement.proofs.Numbers.{by_halves, by_quarters}

-- the next corner round a quad
unfoldable pub next : ℕ → ℕ
next c = 4 * (c / 4) + (c + 1) % 4

pub next_even : (e : ℕ) → next (2 * e) ≡ 2 * e + 1
unfolding next
next_even e = omega arith

pub next_begins : (o : ℕ) → next (2 * o + 1) ≡ ends o
unfolding next ends
next_begins o = omega arith

module _ (m : Mesh) (w : Lawful m) (r : Mesh) (d : Refined m r) where
  corner_at : (q j s : ℕ) → q < m.quads → j < 16 → s ≡ 16 * q + j → point r s ≡ get_or (new_corners m q) j 0
  corner_at q j s h l e = from_holds r.corners (16 * q) 0 (new_corners m q) (d.all_stand (quad_task q) h).corners_stand j s l (omega arith)

  -- corners
  pub new_old : (c : ℕ) → c < 4 * m.quads → point r (4 * c) ≡ old_slot m (point m c)
  new_old = by_quarters (λ c. c < 4 * m.quads → point r (4 * c) ≡ old_slot m (point m c))
      (λ q h. corner_at q 0 (4 * (4 * q)) (omega arith) (omega arith) (omega arith))
      (λ q h. corner_at q 4 (4 * (4 * q + 1)) (omega arith) (omega arith) (omega arith))
      (λ q h. corner_at q 8 (4 * (4 * q + 2)) (omega arith) (omega arith) (omega arith))
      (λ q h. corner_at q 12 (4 * (4 * q + 3)) (omega arith) (omega arith) (omega arith))

  pub new_face : (c : ℕ) → c < 4 * m.quads → point r (4 * c + 2) ≡ face_slot (c / 4)
  new_face = by_quarters (λ c. c < 4 * m.quads → point r (4 * c + 2) ≡ face_slot (c / 4))
      (λ q h. let e : q ≡ 4 * q / 4 = omega arith in corner_at q 2 (4 * (4 * q) + 2) (omega arith) (omega arith) (omega arith) ∙ ap face_slot e)
      (λ q h. let e : q ≡ (4 * q + 1) / 4 = omega arith in corner_at q 6 (4 * (4 * q + 1) + 2) (omega arith) (omega arith) (omega arith) ∙ ap face_slot e)
      (λ q h. let e : q ≡ (4 * q + 2) / 4 = omega arith in corner_at q 10 (4 * (4 * q + 2) + 2) (omega arith) (omega arith) (omega arith) ∙ ap face_slot e)
      (λ q h. let e : q ≡ (4 * q + 3) / 4 = omega arith in corner_at q 14 (4 * (4 * q + 3) + 2) (omega arith) (omega arith) (omega arith) ∙ ap face_slot e)

  -- the point of an edge, at its beginning and at its end, and at the beginning and the end of the off-edge that it serves
  pub new_on_first : (e : ℕ) → e < 2 * m.quads → point r (8 * e + 1) ≡ edge_slot e
  new_on_first = by_halves (λ e. e < 2 * m.quads → point r (8 * e + 1) ≡ edge_slot e)
      (λ q h. corner_at q 1 (8 * (2 * q) + 1) (omega arith) (omega arith) (omega arith))
      (λ q h. corner_at q 9 (8 * (2 * q + 1) + 1) (omega arith) (omega arith) (omega arith))

  pub new_on_second : (e : ℕ) → e < 2 * m.quads → point r (8 * e + 7) ≡ edge_slot e
  new_on_second = by_halves (λ e. e < 2 * m.quads → point r (8 * e + 7) ≡ edge_slot e)
      (λ q h. corner_at q 7 (8 * (2 * q) + 7) (omega arith) (omega arith) (omega arith))
      (λ q h. corner_at q 15 (8 * (2 * q + 1) + 7) (omega arith) (omega arith) (omega arith))

  pub new_off_begins : (o : ℕ) → o < 2 * m.quads → point r (8 * o + 5) ≡ edge_slot (friend m o)
  new_off_begins = by_halves (λ o. o < 2 * m.quads → point r (8 * o + 5) ≡ edge_slot (friend m o))
      (λ q h. corner_at q 5 (8 * (2 * q) + 5) (omega arith) (omega arith) (omega arith))
      (λ q h. corner_at q 13 (8 * (2 * q + 1) + 5) (omega arith) (omega arith) (omega arith))

  pub new_off_ends : (o : ℕ) → o < 2 * m.quads → point r (4 * ends o + 3) ≡ edge_slot (friend m o)
  unfolding ends
  new_off_ends = by_halves (λ o. o < 2 * m.quads → point r (4 * ends o + 3) ≡ edge_slot (friend m o))
      (λ q h. corner_at q 11 (4 * ends (2 * q) + 3) (omega arith) (omega arith) (omega arith))
      (λ q h. corner_at q 3 (4 * ends (2 * q + 1) + 3) (omega arith) (omega arith) (omega arith))

  -- friends
  friend_at : (q i s : ℕ) → q < m.quads → i < 8 → s ≡ slot_of (friend_writes m (quad_task q)) i → friend r s ≡ word_of (friend_writes m (quad_task q)) i
  friend_at q i s h l e = write_holds r.friends (friend_writes m (quad_task q)) (d.all_stand (quad_task q) h).friends_stand i s l e

  pub friend_inside : (c : ℕ) → c < 4 * m.quads → friend r (2 * c) ≡ 2 * next c + 1
  unfolding next
  friend_inside = by_quarters (λ c. c < 4 * m.quads → friend r (2 * c) ≡ 2 * next c + 1)
      (λ q h. friend_at q 0 (2 * (4 * q)) (omega arith) (omega arith) (omega arith) ∙ omega arith)
      (λ q h. friend_at q 1 (2 * (4 * q + 1)) (omega arith) (omega arith) (omega arith) ∙ omega arith)
      (λ q h. friend_at q 2 (2 * (4 * q + 2)) (omega arith) (omega arith) (omega arith) ∙ omega arith)
      (λ q h. friend_at q 3 (2 * (4 * q + 3)) (omega arith) (omega arith) (omega arith) ∙ omega arith)

  pub friend_at_end : (o : ℕ) → o < 2 * m.quads → friend r (2 * ends o + 1) ≡ 4 * friend m o
  unfolding ends
  friend_at_end = by_halves (λ o. o < 2 * m.quads → friend r (2 * ends o + 1) ≡ 4 * friend m o)
      (λ q h. friend_at q 5 (2 * ends (2 * q) + 1) (omega arith) (omega arith) (omega arith))
      (λ q h. friend_at q 4 (2 * ends (2 * q + 1) + 1) (omega arith) (omega arith) (omega arith))

  pub friend_back : (o : ℕ) → o < 2 * m.quads → friend r (4 * friend m o + 3) ≡ 4 * o + 2
  friend_back = by_halves (λ o. o < 2 * m.quads → friend r (4 * friend m o + 3) ≡ 4 * o + 2)
      (λ q h. friend_at q 6 (4 * friend m (2 * q) + 3) (omega arith) (omega arith) refl ∙ omega arith)
      (λ q h. friend_at q 7 (4 * friend m (2 * q + 1) + 3) (omega arith) (omega arith) refl ∙ omega arith)

  -- marks
  mark_at : (q i s : ℕ) → q < m.quads → i < 8 → s ≡ slot_of (mark_writes m (quad_task q)) i → mark r s ≡ word_of (mark_writes m (quad_task q)) i
  mark_at q i s h l e = write_holds r.marks (mark_writes m (quad_task q)) (d.all_stand (quad_task q) h).marks_stand i s l e

  pub mark_inside : (c : ℕ) → c < 4 * m.quads → mark r (2 * c) ≡ 0
  mark_inside = by_quarters (λ c. c < 4 * m.quads → mark r (2 * c) ≡ 0)
      (λ q h. mark_at q 0 (2 * (4 * q)) (omega arith) (omega arith) (omega arith))
      (λ q h. mark_at q 1 (2 * (4 * q + 1)) (omega arith) (omega arith) (omega arith))
      (λ q h. mark_at q 2 (2 * (4 * q + 2)) (omega arith) (omega arith) (omega arith))
      (λ q h. mark_at q 3 (2 * (4 * q + 3)) (omega arith) (omega arith) (omega arith))

  pub mark_at_end : (o : ℕ) → o < 2 * m.quads → mark r (2 * ends o + 1) ≡ fallen (mark m o)
  unfolding ends
  mark_at_end = by_halves (λ o. o < 2 * m.quads → mark r (2 * ends o + 1) ≡ fallen (mark m o))
      (λ q h. mark_at q 5 (2 * ends (2 * q) + 1) (omega arith) (omega arith) (omega arith))
      (λ q h. mark_at q 4 (2 * ends (2 * q + 1) + 1) (omega arith) (omega arith) (omega arith))

  pub mark_back : (o : ℕ) → o < 2 * m.quads → mark r (4 * friend m o + 3) ≡ fallen (mark m o)
  mark_back = by_halves (λ o. o < 2 * m.quads → mark r (4 * friend m o + 3) ≡ fallen (mark m o))
      (λ q h. mark_at q 6 (4 * friend m (2 * q) + 3) (omega arith) (omega arith) refl)
      (λ q h. mark_at q 7 (4 * friend m (2 * q + 1) + 3) (omega arith) (omega arith) refl)

  -- starts
  pub start_old : (v : ℕ) → v < m.points → start r (old_slot m v) ≡ 4 * start m v
  start_old v h = (d.all_stand (point_task v) h).starts_stand.0

  pub start_face : (q : ℕ) → q < m.quads → start r (face_slot q) ≡ 16 * q + 2
  start_face q h = (d.all_stand (quad_task q) h).starts_stand.0

  pub start_edge : (o : ℕ) → o < 2 * m.quads → start r (edge_slot (friend m o)) ≡ 8 * friend m o + 1
  start_edge = by_halves (λ o. o < 2 * m.quads → start r (edge_slot (friend m o)) ≡ 8 * friend m o + 1)
      (λ q h. (d.all_stand (quad_task q) (omega arith)).starts_stand.1.0)
      (λ q h. (d.all_stand (quad_task q) (omega arith)).starts_stand.1.1.0)

  -- steps
  step_by : (s o x : ℕ) → off_edge s ≡ o → friend r o ≡ x → step r s ≡ 2 * x + s % 2
  unfolding step
  step_by s o x e f = rw (e, f)

  -- round an old point with even corners the new walk goes as the old one, and with odd corners the other way
  pub step_old_even : (c : ℕ) → c < 4 * m.quads → c % 2 ≡ 0 → step r (4 * c) ≡ 4 * step m c
  unfolding off_edge
  step_old_even c h e =
      let a : off_edge (4 * c) ≡ 2 * c + 1 = grind (arith, nat_tests) in
      let k = friend_at_end (off_edge c) (off_edge_below c m.quads h) in
      let t : 2 * ends (off_edge c) + 1 ≡ 2 * c + 1 = ap (λ x. 2 * x + 1) (ends_off_edge c e) in
      let f : friend r (2 * c + 1) ≡ 4 * friend m (off_edge c) = rw t at k in
      let s = step_by (4 * c) (2 * c + 1) (4 * friend m (off_edge c)) a f in
      let u = step_even m c e in
      omega arith

  pub step_old_odd : (c : ℕ) → c < 4 * m.quads → c % 2 ≡ 1 → step r (4 * step m c) ≡ 4 * c
  unfolding off_edge begins
  step_old_odd c h e =
      let u = step_odd m c e in
      let b = begins_off_edge c e in
      let k = friend_back (off_edge c) (off_edge_below c m.quads h) in
      let a : off_edge (4 * step m c) ≡ 4 * friend m (off_edge c) + 3 = rw u (off_edge_odd (friend m (off_edge c))) in
      let s = step_by (4 * step m c) (4 * friend m (off_edge c) + 3) (4 * off_edge c + 2) a k in
      omega arith
    where
      off_edge_odd : (g : ℕ) → off_edge (4 * (2 * g + 1)) ≡ 4 * g + 3
      off_edge_odd g = grind (arith, nat_tests)

  pub step_face : (c : ℕ) → c < 4 * m.quads → step r (4 * c + 2) ≡ 4 * next c + 2
  unfolding off_edge
  step_face c h =
      let a : off_edge (4 * c + 2) ≡ 2 * c = grind (arith, nat_tests) in
      let s = step_by (4 * c + 2) (2 * c) (2 * next c + 1) a (friend_inside c h) in
      omega arith

  -- round the point of an edge
  pub step_edge_0 : (g : ℕ) → g < 2 * m.quads → step r (8 * g + 1) ≡ 8 * g + 7
  unfolding off_edge
  step_edge_0 g h =
      let a : off_edge (8 * g + 1) ≡ 2 * (2 * g) = grind (arith, nat_tests) in
      let s = step_by (8 * g + 1) (2 * (2 * g)) (2 * next (2 * g) + 1) a (friend_inside (2 * g) (omega arith)) in
      let n = next_even g in
      omega arith

  pub step_edge_1 : (o : ℕ) → o < 2 * m.quads → step r (8 * friend m o + 7) ≡ 8 * o + 5
  unfolding off_edge
  step_edge_1 o h =
      let a : off_edge (8 * friend m o + 7) ≡ 4 * friend m o + 3 = off_edge_third (friend m o) in
      let s = step_by (8 * friend m o + 7) (4 * friend m o + 3) (4 * o + 2) a (friend_back o h) in
      omega arith
    where
      off_edge_third : (g : ℕ) → off_edge (8 * g + 7) ≡ 4 * g + 3
      off_edge_third g = grind (arith, nat_tests)

  pub step_edge_2 : (o : ℕ) → o < 2 * m.quads → step r (8 * o + 5) ≡ 4 * ends o + 3
  unfolding off_edge
  step_edge_2 o h =
      let a : off_edge (8 * o + 5) ≡ 2 * (2 * o + 1) = grind (arith, nat_tests) in
      let s = step_by (8 * o + 5) (2 * (2 * o + 1)) (2 * next (2 * o + 1) + 1) a (friend_inside (2 * o + 1) (omega arith)) in
      let n = next_begins o in
      omega arith

  pub step_edge_3 : (o : ℕ) → o < 2 * m.quads → step r (4 * ends o + 3) ≡ 8 * friend m o + 1
  unfolding off_edge
  step_edge_3 o h =
      let a : off_edge (4 * ends o + 3) ≡ 2 * ends o + 1 = off_edge_fourth (ends o) in
      let s = step_by (4 * ends o + 3) (2 * ends o + 1) (4 * friend m o) a (friend_at_end o h) in
      omega arith
    where
      off_edge_fourth : (c : ℕ) → off_edge (4 * c + 3) ≡ 2 * c + 1
      off_edge_fourth c = grind (arith, nat_tests)
