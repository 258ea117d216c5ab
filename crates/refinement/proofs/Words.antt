-- The word and the owner of each slot of a refined level: the one task that writes the slot, and what it writes there.
use Rattle.std.proofs.Common.{◌≡◌, ℕ, ◌+◌, ◌*◌, ◌/◌, ◌%◌, ◌<◌, cond, eqb, ◌⊎◌, List, [], ◌∷◌, get_or, sym, refl, ap, ◌∙◌, inl, inr, arith}
use Rattle.std.proofs.lemmas.Bool.{cond-true, cond-false, eq-eqb, ne_eqb}
use Rattle.mesh.specs.Mesh.{Mesh, Lawful, friend, mark, start}
use Rattle.refinement.specs.Tasks.{Task, quad_task, point_task, TaskOf, Names, number, edge_slot, fallen, new_corners, corner_writes, friend_writes, mark_writes, start_writes}
use Rattle.refinement.proofs.Numbers.{sides, below_8}
use Rattle.refinement.proofs.Slots.{Kind, old, face, edge, kind, kind_old, kind_face, kind_edge, old_slot_below, face_slot_below, edge_slot_below, by_slots}
use Rattle.refinement.proofs.Corners.{served, served_friend, served_below, friend_served}
use Rattle.refinement.proofs.Puts.{Agree, from_agree, from_names}

-- friends and marks: off-edge 4g + 3 belongs to the off-edge that g serves, and any other to its own quad
side : (ℕ → List ℕ) → (ℕ → ℕ) → ℕ → ℕ
side own back s = cond (eqb (s % 4) 3) (back (s / 4)) (get_or (own (s / 8)) (s % 8) 0)

module _ (own : ℕ → List ℕ) (back : ℕ → ℕ) where
  side_own : (q j s : ℕ) → j < 8 → (j % 4 ≡ 3 → ⊥) → s ≡ 8 * q + j → side own back s ≡ get_or (own q) j 0
  unfolding side
  side_own q j s l k e =
      let d : s / 8 ≡ q = omega arith in
      let r : s % 8 ≡ j = omega arith in
      let t : (s % 4 ≡ 3 → ⊥) = λ x. k (omega arith) in
      cond-false _ _ _ (ne_eqb (s % 4) 3 t) ∙ rw (d, r)

  side_back : (g s : ℕ) → s ≡ 4 * g + 3 → side own back s ≡ back g
  unfolding side
  side_back g s e =
      let d : s / 4 ≡ g = omega arith in
      cond-true _ _ _ (eq-eqb (s % 4) 3 (omega arith)) ∙ ap back d

module _ (m : Mesh) (w : Lawful m) where
  -- corners
  pub corner_word : ℕ → ℕ
  corner_word s = get_or (new_corners m (s / 16)) (s % 16) 0

  pub corner_owner : ℕ → ℕ
  corner_owner s = s / 16

  pub corners_agree : (t : Task) → TaskOf m t → Agree corner_word corner_owner (16 * m.quads) (number m t) (corner_writes m t)
  unfolding corner_word corner_owner
  corners_agree (quad_task q) h =
      from_agree corner_word corner_owner (16 * m.quads) q (16 * q) 0 (new_corners m q) (omega arith)
      (λ j l.
      let d : (16 * q + (0 + j)) / 16 ≡ q = omega arith in
      let r : (16 * q + (0 + j)) % 16 ≡ j = omega arith in
      (rw (d, r), d))
  corners_agree (point_task v) h = tt

  pub corner_named : (s : ℕ) → s < 16 * m.quads → (t : Task) × (TaskOf m t) × Names s (corner_writes m t)
  corner_named s h =
      (quad_task (s / 16), omega arith, from_names s (16 * (s / 16)) 0 (new_corners m (s / 16)) (s % 16) (omega arith) (omega arith))

  -- the owner of an off-edge's slot
  eight : ℕ → List ℕ
  eight q = q ∷ q ∷ q ∷ q ∷ q ∷ q ∷ q ∷ q ∷ []

  server : ℕ → ℕ
  server g = served m w g / 2

  pub side_owner : ℕ → ℕ
  side_owner s = side eight server s

  -- friends
  own_friends : ℕ → List ℕ
  own_friends q =
      (8 * q + 3) ∷ (4 * friend m (2 * q + 1)) ∷ (8 * q + 5) ∷ 0 ∷ (8 * q + 7) ∷ (4 * friend m (2 * q)) ∷ (8 * q + 1) ∷ 0 ∷ []

  back_friend : ℕ → ℕ
  back_friend g = 4 * served m w g + 2

  pub friend_word : ℕ → ℕ
  friend_word s = side own_friends back_friend s

  -- marks
  own_marks : ℕ → List ℕ
  own_marks q = 0 ∷ fallen (mark m (2 * q + 1)) ∷ 0 ∷ 0 ∷ 0 ∷ fallen (mark m (2 * q)) ∷ 0 ∷ 0 ∷ []

  back_mark : ℕ → ℕ
  back_mark g = fallen (mark m (served m w g))

  pub mark_word : ℕ → ℕ
  mark_word s = side own_marks back_mark s

  -- at the eight slots of a quad task
  record Eight (own : ℕ → List ℕ) (back : ℕ → ℕ) (q : ℕ) : Type 0 where
    at0 : side own back (8 * q) ≡ get_or (own q) 0 0
    at1 : side own back (8 * q + 1) ≡ get_or (own q) 1 0
    at2 : side own back (8 * q + 2) ≡ get_or (own q) 2 0
    at4 : side own back (8 * q + 4) ≡ get_or (own q) 4 0
    at5 : side own back (8 * q + 5) ≡ get_or (own q) 5 0
    at6 : side own back (8 * q + 6) ≡ get_or (own q) 6 0
    back0 : side own back (4 * friend m (2 * q) + 3) ≡ back (friend m (2 * q))
    back1 : side own back (4 * friend m (2 * q + 1) + 3) ≡ back (friend m (2 * q + 1))

  at_eight : (own : ℕ → List ℕ) (back : ℕ → ℕ) (q : ℕ) → Eight own back q
  at_eight own back q = record {
    at0 = side_own own back q 0 (8 * q) (omega arith) (omega arith) (omega arith);
    at1 = side_own own back q 1 (8 * q + 1) (omega arith) (omega arith) refl;
    at2 = side_own own back q 2 (8 * q + 2) (omega arith) (omega arith) refl;
    at4 = side_own own back q 4 (8 * q + 4) (omega arith) (omega arith) refl;
    at5 = side_own own back q 5 (8 * q + 5) (omega arith) (omega arith) refl;
    at6 = side_own own back q 6 (8 * q + 6) (omega arith) (omega arith) refl;
    back0 = side_back own back (friend m (2 * q)) (4 * friend m (2 * q) + 3) refl;
    back1 = side_back own back (friend m (2 * q + 1)) (4 * friend m (2 * q + 1) + 3) refl;
  }

  pub friends_agree : (t : Task) → TaskOf m t → Agree friend_word side_owner (8 * m.quads) (number m t) (friend_writes m t)
  unfolding friend_word own_friends back_friend side_owner eight server
  friends_agree (quad_task q) h =
      let word = at_eight own_friends back_friend q in
      let owner = at_eight eight server q in
      let g0 = w.sound.friends_are_edges (2 * q) (omega arith) in
      let g1 = w.sound.friends_are_edges (2 * q + 1) (omega arith) in
      let s0 = served_friend m w (2 * q) (omega arith) in
      let s1 = served_friend m w (2 * q + 1) (omega arith) in
      omega arith
  friends_agree (point_task v) h = tt

  pub marks_agree : (t : Task) → TaskOf m t → Agree mark_word side_owner (8 * m.quads) (number m t) (mark_writes m t)
  unfolding mark_word own_marks back_mark side_owner eight server
  marks_agree (quad_task q) h =
      let word = at_eight own_marks back_mark q in
      let owner = at_eight eight server q in
      let g0 = w.sound.friends_are_edges (2 * q) (omega arith) in
      let g1 = w.sound.friends_are_edges (2 * q + 1) (omega arith) in
      let s0 = served_friend m w (2 * q) (omega arith) in
      let s1 = served_friend m w (2 * q + 1) (omega arith) in
      let f0 = ap (λ o. fallen (mark m o)) s0 in
      let f1 = ap (λ o. fallen (mark m o)) s1 in
      omega arith
  marks_agree (point_task v) h = tt

  -- an on-edge is a friend of its server, and the friends and the marks of a task have the same slots
  served_by : (g : ℕ) → g < 2 * m.quads → (q : ℕ) × (q < m.quads) × ((friend m (2 * q) ≡ g) ⊎ (friend m (2 * q + 1) ≡ g))
  served_by g l =
      let o = served m w g in
      let b = served_below m w g l in
      let f = friend_served m w g l in
      elim (sides o) [
        | inl r ↦ let x : 2 * (o / 2) ≡ o = omega arith in (o / 2, omega arith, inl (ap (friend m) x ∙ f))
        | inr r ↦ let x : 2 * (o / 2) + 1 ≡ o = omega arith in (o / 2, omega arith, inr (ap (friend m) x ∙ f))
      ]

  SideNamed : ℕ → Type 0
  SideNamed s = (q : ℕ) × (q < m.quads) × Names s (friend_writes m (quad_task q))

  named_back : (s g : ℕ) → g < 2 * m.quads → s ≡ 4 * g + 3 → SideNamed s
  unfolding SideNamed
  named_back s g l e =
      let r = served_by g l in
      (r.0, r.1, inr (inr (inr (inr (inr (inr (elim r.2 [ inl f ↦ inl (omega arith) | inr f ↦ inr (inl (omega arith)) ])))))))

  side_named : (s : ℕ) → s < 8 * m.quads → SideNamed s
  unfolding SideNamed
  side_named s h =
      let q = s / 8 in
      let l : s / 8 < m.quads = omega arith in
      below_8 (λ j. s ≡ 8 * (s / 8) + j → SideNamed s)
      (λ e. (q, l, inl (omega arith)))
      (λ e. (q, l, inr (inr (inr (inr (inl e))))))
      (λ e. (q, l, inr (inl e)))
      (λ e. named_back s (2 * q) (omega arith) (omega arith))
      (λ e. (q, l, inr (inr (inl e))))
      (λ e. (q, l, inr (inr (inr (inr (inr (inl e)))))))
      (λ e. (q, l, inr (inr (inr (inl e)))))
      (λ e. named_back s (2 * q + 1) (omega arith) (omega arith))
      (s % 8) (omega arith) (omega arith)

  pub friend_named : (s : ℕ) → s < 8 * m.quads → (t : Task) × (TaskOf m t) × Names s (friend_writes m t)
  unfolding SideNamed
  friend_named s h = let r = side_named s h in (quad_task r.0, r.1, r.2)

  pub mark_named : (s : ℕ) → s < 8 * m.quads → (t : Task) × (TaskOf m t) × Names s (mark_writes m t)
  unfolding SideNamed
  mark_named s h = let r = side_named s h in (quad_task r.0, r.1, r.2)

  -- starts
  start_of : Kind → ℕ
  start_of (old v) = 4 * start m v
  start_of (face q) = 16 * q + 2
  start_of (edge g) = 8 * g + 1

  owner_of : Kind → ℕ
  owner_of (old v) = m.quads + v
  owner_of (face q) = q
  owner_of (edge g) = server g

  pub start_word : ℕ → ℕ
  start_word s = start_of (kind m s)

  pub start_owner : ℕ → ℕ
  start_owner s = owner_of (kind m s)

  pub starts_agree : (t : Task) → TaskOf m t → Agree start_word start_owner (m.points + 3 * m.quads) (number m t) (start_writes m t)
  unfolding start_word start_owner start_of owner_of server
  starts_agree (quad_task q) h =
      let enough = w.sound.points_enough in
      let g0 = w.sound.friends_are_edges (2 * q) (omega arith) in
      let g1 = w.sound.friends_are_edges (2 * q + 1) (omega arith) in
      let s0 = served_friend m w (2 * q) (omega arith) in
      let s1 = served_friend m w (2 * q + 1) (omega arith) in
      let f = kind_face m q h in
      let e0 = kind_edge m (friend m (2 * q)) g0 in
      let e1 = kind_edge m (friend m (2 * q + 1)) g1 in (
        (sym (ap start_of f), face_slot_below m enough q h, ap owner_of f),
        (
          (sym (ap start_of e0), edge_slot_below m enough (friend m (2 * q)) g0, ap owner_of e0 ∙ omega arith),
          ((sym (ap start_of e1), edge_slot_below m enough (friend m (2 * q + 1)) g1, ap owner_of e1 ∙ omega arith), tt),
        ),
      )
  starts_agree (point_task v) h =
      let o = kind_old m v in
      ((sym (ap start_of o), old_slot_below m v h, ap owner_of o), tt)

  pub start_named : (s : ℕ) → s < m.points + 3 * m.quads → (t : Task) × (TaskOf m t) × Names s (start_writes m t)
  start_named = by_slots m w.sound.points_enough (λ s. (t : Task) × (TaskOf m t) × Names s (start_writes m t))
      (λ v h. (point_task v, h, inl refl))
      (λ q h. (quad_task q, h, inl refl))
      (λ g h. let r = served_by g h in
      (quad_task r.0, r.1, inr (elim r.2 [ inl f ↦ inl (ap edge_slot (sym f)) | inr f ↦ inr (inl (ap edge_slot (sym f))) ])))
