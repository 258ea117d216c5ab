-- A refined level of a lawful mesh is lawful.
use Rattle.std.proofs.Common.{◌≡◌, ℕ, zero, suc, ◌+◌, ◌-◌, ◌*◌, ◌/◌, ◌<◌, ◌≤◌, sym, ap, ◌∙◌, inl, inr, pow-suc, arith}
use Rattle.std.proofs.lemmas.Bool.{cases_eq, cond-true, cond-false, eq-eqb, ne_eqb}
use Rattle.mesh.specs.Count.{total}
use Rattle.mesh.specs.Marks.{MarkWord}
use Rattle.mesh.specs.Mesh.{Mesh, Lawful, RunsBack, point, friend, mark, start, off_edge, begins, ends, shortest, longest, valence, most_quads}
use Rattle.refinement.specs.Tasks.{old_slot, face_slot, edge_slot, fallen, Refined, refine, level}
use Rattle.refinement.specs.Laws.{ValencesKept, MarksFall, RefinementKeepsLawful, LevelsLawful}
use Rattle.refinement.proofs.Steps.{ends_off_edge, off_edge_below}
use Rattle.refinement.proofs.Numbers.{sides, by_halves, by_quarters}
use Rattle.refinement.proofs.Slots.{by_slots, old_slot_below, face_slot_below, edge_slot_below}
use Rattle.refinement.proofs.Corners.{served, served_below, friend_served}
use Rattle.refinement.proofs.Order.{refined}
use Rattle.refinement.proofs.Level.{next, next_begins, new_old, new_face, new_on_first, new_on_second, new_off_begins, new_off_ends, friend_inside, friend_at_end, friend_back, mark_inside, mark_at_end, mark_back, start_old, start_face, start_edge}
use Rattle.refinement.proofs.NewWalks.{valence_old, valence_face, valence_edge, new_total}

mark_falls : (x : ℕ) → MarkWord x → MarkWord (fallen x)
unfolding fallen
mark_falls x h = elim (cases_eq x 65535) [
  | inl e ↦ inr (cond-true _ _ _ (eq-eqb x 65535 e) ∙ e)
  | inr e ↦ let z = cond-false _ x (x - 256) (ne_eqb x 65535 e) in elim h [ inl k ↦ inl (omega arith) | inr k ↦ absurd (e k) ]
]

ends_below : (o n : ℕ) → o < 2 * n → ends o < 4 * n
unfolding ends
ends_below o n h = omega arith

ends_even : (c : ℕ) → ends (2 * c) ≡ 4 * c + 2
unfolding ends
ends_even c = omega arith

ends_odd : (c : ℕ) → ends (2 * c + 1) ≡ 4 * c
unfolding ends
ends_odd c = omega arith

module _ (m : Mesh) (w : Lawful m) where
  -- the new off-edges: inside an old quad, and the two halves of each old edge
  off_edges : (P : ℕ → Type 0) → ((c : ℕ) → c < 4 * m.quads → P (2 * c)) → ((o : ℕ) → o < 2 * m.quads → P (2 * ends o + 1)) → ((o : ℕ) → o < 2 * m.quads → P (4 * friend m o + 3)) →
      (s : ℕ) → s < 8 * m.quads → P s
  off_edges P inside at_end back =
      by_halves (λ s. s < 8 * m.quads → P s)
      (λ c h. inside c (omega arith))
      (λ c h. elim (sides c) [
        | inl e ↦ let z = ends_off_edge c e in let y : 2 * ends (off_edge c) + 1 ≡ 2 * c + 1 = omega arith in
            rw y at (at_end (off_edge c) (off_edge_below c m.quads (omega arith)))
        | inr e ↦
            let z = friend_served m w (c / 2) (omega arith) in
            let y : 4 * friend m (served m w (c / 2)) + 3 ≡ 2 * c + 1 = omega arith in
            rw y at (back (served m w (c / 2)) (served_below m w (c / 2) (omega arith)))
      ])

  module _ (r : Mesh) (d : Refined m r) where
    enough : m.quads ≤ m.points
    enough = w.sound.points_enough

    corners_have : (s : ℕ) → s < 16 * m.quads → point r s < m.points + 3 * m.quads
    corners_have = by_quarters (λ s. s < 16 * m.quads → point r s < m.points + 3 * m.quads)
        (λ c h. let e = new_old m w r d c (omega arith) in let k = old_slot_below m (point m c) (w.sound.corners_have_points c (omega arith)) in omega arith)
        (by_halves (λ c. 4 * c + 1 < 16 * m.quads → point r (4 * c + 1) < m.points + 3 * m.quads)
        (λ e h. let z : 8 * e + 1 ≡ 4 * (2 * e) + 1 = omega arith in let p = ap (point r) z in let n = new_on_first m w r d e (omega arith) in let k = edge_slot_below m enough e (omega arith) in omega arith)
        (λ o h. let z : 8 * o + 5 ≡ 4 * (2 * o + 1) + 1 = omega arith in let p = ap (point r) z in let n = new_off_begins m w r d o (omega arith) in let k = edge_slot_below m enough (friend m o) (w.sound.friends_are_edges o (omega arith)) in omega arith))
        (λ c h. let e = new_face m w r d c (omega arith) in let k = face_slot_below m enough (c / 4) (omega arith) in omega arith)
        (λ c h. elim (sides c) [
          | inl e ↦ let l = off_edge_below c m.quads (omega arith) in
              let z : 4 * ends (off_edge c) + 3 ≡ 4 * c + 3 = ap (λ x. 4 * x + 3) (ends_off_edge c e) in let p = ap (point r) z in
              let n = new_off_ends m w r d (off_edge c) l in let k = edge_slot_below m enough (friend m (off_edge c)) (w.sound.friends_are_edges (off_edge c) l) in omega arith
          | inr e ↦ let z : 8 * (c / 2) + 7 ≡ 4 * c + 3 = omega arith in let p = ap (point r) z in
              let n = new_on_second m w r d (c / 2) (omega arith) in let k = edge_slot_below m enough (c / 2) (omega arith) in omega arith
        ])

    friends_below : (s : ℕ) → s < 8 * m.quads → friend r s < 8 * m.quads
    unfolding next
    friends_below = off_edges (λ s. friend r s < 8 * m.quads)
        (λ c h. let e = friend_inside m w r d c h in omega arith)
        (λ o h. let e = friend_at_end m w r d o h in let k = w.sound.friends_are_edges o h in omega arith)
        (λ o h. let e = friend_back m w r d o h in omega arith)

    marks_lawful : (s : ℕ) → s < 8 * m.quads → MarkWord (mark r s)
    marks_lawful = off_edges (λ s. MarkWord (mark r s))
        (λ c h. let e = mark_inside m w r d c h in inl (omega arith))
        (λ o h. rw (mark_at_end m w r d o h) (mark_falls (mark m o) (w.sound.marks_are_words o h)))
        (λ o h. rw (mark_back m w r d o h) (mark_falls (mark m o) (w.sound.marks_are_words o h)))

    -- the point of a new corner, at a number that the corner equals
    at : (s c x : ℕ) → s ≡ c → point r c ≡ x → point r s ≡ x
    at s c x e h = ap (point r) e ∙ h

    run_back : (s : ℕ) → s < 8 * m.quads → RunsBack r s
    unfolding begins next
    run_back = off_edges (λ s. RunsBack r s)
        (λ c h.
        let f = friend_inside m w r d c h in
        let k = ends_even c in
        let n : next c < 4 * m.quads = omega arith in
        let z : next c / 4 ≡ c / 4 = omega arith in
        record {
          from_end = at (2 * friend r (2 * c)) (4 * next c + 2) _ (omega arith) (new_face m w r d (next c) n ∙ ap face_slot z ∙ sym (at (ends (2 * c)) (4 * c + 2) _ k (new_face m w r d c h)));
          to_beginning = elim (sides c) [
            | inl e ↦
                let y = new_on_first m w r d (c / 2) (omega arith) in
                let x = new_on_second m w r d (c / 2) (omega arith) in
                at (2 * friend r (2 * c) + 1) (8 * (c / 2) + 7) _ (omega arith) x ∙ sym (at (begins (2 * c)) (8 * (c / 2) + 1) _ (omega arith) y)
            | inr e ↦
                let b = next_begins (c / 2) in
                let t : 2 * (c / 2) + 1 ≡ c = omega arith in
                let u : next (2 * (c / 2) + 1) ≡ next c = ap next t in
                let y = new_off_begins m w r d (c / 2) (omega arith) in
                let x = new_off_ends m w r d (c / 2) (omega arith) in
                at (2 * friend r (2 * c) + 1) (4 * ends (c / 2) + 3) _ (omega arith) x ∙ sym (at (begins (2 * c)) (8 * (c / 2) + 5) _ (omega arith) y)
          ];
        })
        (λ o h.
        let g = w.sound.friends_are_edges o h in
        let f = friend_at_end m w r d o h in
        let b = w.sound.friends_run_back o h in
        let k = ends_odd (ends o) in
        record {
          from_end =
              at (2 * friend r (2 * ends o + 1)) (4 * (2 * friend m o)) _ (omega arith) (new_old m w r d (2 * friend m o) (omega arith))
              ∙ ap (old_slot m) b.from_end ∙ sym (at (ends (2 * ends o + 1)) (4 * ends o) _ k (new_old m w r d (ends o) (ends_below o m.quads h)));
          to_beginning =
              at (2 * friend r (2 * ends o + 1) + 1) (8 * friend m o + 1) _ (omega arith) (new_on_first m w r d (friend m o) g)
              ∙ sym (at (begins (2 * ends o + 1)) (4 * ends o + 3) _ (omega arith) (new_off_ends m w r d o h));
        })
        (λ o h.
        let g = w.sound.friends_are_edges o h in
        let f = friend_back m w r d o h in
        let b = w.sound.friends_run_back o h in
        let t : 4 * friend m o + 3 ≡ 2 * (2 * friend m o + 1) + 1 = omega arith in
        let k : ends (4 * friend m o + 3) ≡ 4 * (2 * friend m o + 1) = ap ends t ∙ ends_odd (2 * friend m o + 1) in
        record {
          from_end =
              at (2 * friend r (4 * friend m o + 3)) (4 * begins o) _ (omega arith) (new_old m w r d (begins o) (omega arith))
              ∙ ap (old_slot m) (sym b.to_beginning) ∙ sym (at (ends (4 * friend m o + 3)) (4 * (2 * friend m o + 1)) _ k (new_old m w r d (2 * friend m o + 1) (omega arith)));
          to_beginning =
              at (2 * friend r (4 * friend m o + 3) + 1) (8 * o + 5) _ (omega arith) (new_off_begins m w r d o h)
              ∙ sym (at (begins (4 * friend m o + 3)) (8 * friend m o + 7) _ (omega arith) (new_on_second m w r d (friend m o) g));
        })

    start_edge_at : (g : ℕ) → g < 2 * m.quads → start r (edge_slot g) ≡ 8 * g + 1
    start_edge_at g h = let f = friend_served m w g h in rw f at (start_edge m w r d (served m w g) (served_below m w g h))

    starts_below : (s : ℕ) → s < m.points + 3 * m.quads → start r s < 16 * m.quads
    starts_below = by_slots m enough (λ s. start r s < 16 * m.quads)
        (λ v h. let e = start_old m w r d v h in let k = w.sound.starts_are_corners v h in omega arith)
        (λ q h. let e = start_face m w r d q h in omega arith)
        (λ g h. let e = start_edge_at g h in omega arith)

    starts_right : (s : ℕ) → s < m.points + 3 * m.quads → point r (start r s) ≡ s
    starts_right = by_slots m enough (λ s. point r (start r s) ≡ s)
        (λ v h. at _ _ _ (start_old m w r d v h) (new_old m w r d (start m v) (w.sound.starts_are_corners v h) ∙ ap (old_slot m) (w.sound.starts_at_points v h)))
        (λ q h. let z : 16 * q + 2 ≡ 4 * (4 * q) + 2 = omega arith in let y : 4 * q / 4 ≡ q = omega arith in
        at _ _ _ (start_face m w r d q h ∙ z) (new_face m w r d (4 * q) (omega arith) ∙ ap face_slot y))
        (λ g h. at _ _ _ (start_edge_at g h) (new_on_first m w r d g h))

    walks_right : (s : ℕ) → s < m.points + 3 * m.quads → (shortest ≤ valence r s) × (valence r s ≤ longest)
    walks_right = by_slots m enough (λ s. (shortest ≤ valence r s) × (valence r s ≤ longest))
        (λ v h. let e = valence_old m w r d v h in let a = w.sound.walks_not_short v h in let b = w.sound.walks_return v h in omega arith)
        (λ q h. let e = valence_face m w r d q h in omega arith)
        (λ g h. let e = valence_edge m w r d g h in omega arith)

    pub refined_lawful : 4 * m.quads ≤ most_quads → Lawful r
    refined_lawful few =
        let f = d.quads_are in
        let v = d.points_are in
        let two = w.sound.quads_enough in
        let low = w.sound.points_enough in
        let high = w.sound.points_few in
        record {
          walks_meet_all = ap (total (valence r)) v ∙ new_total m w r d ∙ omega arith;
          sound = record {
            counted = d.counted;
            quads_enough = omega arith;
            quads_few = omega arith;
            points_enough = omega arith;
            points_few = omega arith;
            corners_have_points = λ c h. let e = corners_have c (omega arith) in omega arith;
            friends_are_edges = λ o h. let e = friends_below o (omega arith) in omega arith;
            marks_are_words = λ o h. marks_lawful o (omega arith);
            friends_run_back = λ o h. run_back o (omega arith);
            starts_are_corners = λ s h. let e = starts_below s (omega arith) in omega arith;
            starts_at_points = λ s h. starts_right s (omega arith);
            walks_not_short = λ s h. (walks_right s (omega arith)).0;
            walks_return = λ s h. (walks_right s (omega arith)).1;
          };
        }

pub refinement_keeps_lawful : RefinementKeepsLawful
refinement_keeps_lawful m w few = refined_lawful m w (refine m) (refined m w) few

pub levels_lawful : LevelsLawful
unfolding level
levels_lawful m w zero few = (w, omega arith)
levels_lawful m w (suc k) few =
    let e = ap (λ x. x * m.quads) (pow-suc 4 k) in
    let r = levels_lawful m w k (omega arith) in
    let d = refined (level m k) r.0 in
    let q = d.quads_are in
    let n = r.1 in
    (refinement_keeps_lawful (level m k) r.0 (omega arith), omega arith)

pub valences_kept : ValencesKept
valences_kept m w =
    let d = refined m w in
    record { at_old = valence_old m w (refine m) d; at_face = valence_face m w (refine m) d; at_edge = valence_edge m w (refine m) d }

pub marks_fall : MarksFall
marks_fall m w =
    let d = refined m w in
    record { inside = mark_inside m w (refine m) d; at_end = mark_at_end m w (refine m) d; at_beginning = mark_back m w (refine m) d }
