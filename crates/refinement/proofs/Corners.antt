-- Every corner is met by one walk, once. So a step loses no corner, and no on-edge serves two off-edges.
use Rattle.std.proofs.Common.{◌≡◌, ℕ, zero, suc, ◌+◌, ◌*◌, ◌<◌, ◌≤◌, eqb, sym, refl, ap, ◌∙◌, inl, inr, arith}
use Rattle.mesh.specs.Count.{least, total}
use Rattle.refinement.specs.Laws.{StepKeeps, CornersMetOnce, EdgesServeOnce, FriendsPair}
use Rattle.mesh.specs.Mesh.{Mesh, Sound, Lawful, Meets, point, friend, off_edge, begins, step, walk, valence}
use Rattle.refinement.proofs.Totals.{total_same, total_ones, total_le, total_full, total_some, total_single, total_swap, total_term, total_short, hit, hit_same, hit_met, hit_le, total_hits, least_is}
use Rattle.refinement.proofs.Steps.{off_edge_begins, off_edge_below, step_below, step_point, step_side, step_odd}
use Rattle.refinement.proofs.Walks.{walk_below, walk_point, walk_back, walk_not_back, walk_once}
use Rattle.std.proofs.lemmas.Bool.{cases_order, cases_lt, eq-eqb, ne_eqb}

module _ (m : Mesh) (w : Sound m) where
  -- how often the walk at v meets corner c
  pub meets : ℕ → ℕ → ℕ
  meets v c = total (λ i. hit (walk m v i) c) (valence m v)

  meets_once : (v c : ℕ) → v < m.points → meets v c ≤ 1
  unfolding meets
  meets_once v c h =
      total_single (λ i. hit (walk m v i) c) (valence m v) (λ i l. hit_le (walk m v i) c)
      (λ i j l k p q. walk_once m v i j (w.walks_return v h) l k (hit_met _ _ p ∙ sym (hit_met _ _ q)))

  -- a walk that meets c is that of its point
  meets_own : (v c : ℕ) → v < m.points → 0 < meets v c → (i : ℕ) × (i < valence m v) × (walk m v i ≡ c)
  unfolding meets
  meets_own v c h p = let r = total_some (λ i. hit (walk m v i) c) (valence m v) p in (r.0, r.1, hit_met _ _ r.2)

  meets_point : (v c : ℕ) → v < m.points → 0 < meets v c → point m c ≡ v
  meets_point v c h p = let r = meets_own v c h p in ap (point m) (sym r.2) ∙ walk_point m w v r.0 h

  met : ℕ → ℕ
  met c = total (λ v. meets v c) m.points

  met_at_most_once : (c : ℕ) → met c ≤ 1
  unfolding met
  met_at_most_once c =
      total_single (λ v. meets v c) m.points (λ v h. meets_once v c h)
      (λ u v l h p q. let a = meets_point u c (omega arith) p in let b = meets_point v c h q in omega arith)

  met_in_all : total met (4 * m.quads) ≡ total (valence m) m.points
  unfolding met meets
  met_in_all =
      total_swap (λ c v. meets v c) (4 * m.quads) m.points
      ∙ total_same (λ v. total (λ c. meets v c) (4 * m.quads)) (valence m) m.points
      (λ v h.
      total_swap (λ c i. hit (walk m v i) c) (4 * m.quads) (valence m v)
      ∙ total_ones _ (valence m v) (λ i l. total_hits (walk m v i) (4 * m.quads) (walk_below m w v i h)))

  -- the walks never meet more corners than there are
  pub walks_meet_at_most : total (valence m) m.points ≤ 4 * m.quads
  walks_meet_at_most = let a = total_le met (4 * m.quads) (λ c l. met_at_most_once c) in let b = met_in_all in omega arith

  met_once : total (valence m) m.points ≡ 4 * m.quads → (c : ℕ) → c < 4 * m.quads → (v : ℕ) × (v < m.points) × (0 < meets v c)
  unfolding met
  met_once all c h =
      let one = total_full met (4 * m.quads) (λ c l. met_at_most_once c) (met_in_all ∙ all) c h in
      total_some (λ v. meets v c) m.points (omega arith)

  -- if they meet fewer, there is a corner that none meets
  pub unmet_corner : total (valence m) m.points < 4 * m.quads → (c : ℕ) × (c < 4 * m.quads) × ((v i : ℕ) → Meets m v i c → ⊥)
  unfolding met meets
  unmet_corner few =
      let e = met_in_all in
      let r = total_short met (4 * m.quads) (omega arith) in (
        r.0,
        r.1,
        λ v i k.
            let a = total_term (λ v. meets v r.0) m.points v k.a_point in
            let b = total_term (λ i. hit (walk m v i) r.0) (valence m v) i k.not_back in
            let h = hit_same (walk m v i) r.0 k.there in
            let z = r.2 in
            omega arith,
      )

module _ (m : Mesh) (w : Lawful m) where
  -- where corner c is met
  pub record Met (c : ℕ) : Type 0 where
    pub after : ℕ
    pub soon : after < valence m (point m c)
    pub there : walk m (point m c) after ≡ c

  pub corner_met : (c : ℕ) → c < 4 * m.quads → Met c
  corner_met c h =
      let v = met_once m w.sound w.walks_meet_all c h in
      let p = meets_point m w.sound v.0 c v.1 v.2 in
      let o = meets_own m w.sound (point m c) c (w.sound.corners_have_points c h) (rw p v.2) in
      record { after = o.0; soon = o.1; there = o.2 }

  met_at : (c v : ℕ) → c < 4 * m.quads → point m c ≡ v → (i : ℕ) × (i < valence m v) × (walk m v i ≡ c)
  met_at c v h e = let r = corner_met c h in (r.after, rw e at r.soon, rw e at r.there)

  -- a step leads to every corner, and from no two to one
  pub before : (c : ℕ) → c < 4 * m.quads → (b : ℕ) × (b < 4 * m.quads) × (step m b ≡ c)
  unfolding walk
  before c h = go r.after r.soon r.there
    where
      v : ℕ
      v = point m c

      v_below : v < m.points
      v_below = w.sound.corners_have_points c h

      r : Met c
      r = corner_met c h

      go : (i : ℕ) → i < valence m v → walk m v i ≡ c → (b : ℕ) × (b < 4 * m.quads) × (step m b ≡ c)
      go zero l e = back_one (valence m v) refl
        where
          back_one : (n : ℕ) → valence m v ≡ n → (b : ℕ) × (b < 4 * m.quads) × (step m b ≡ c)
          back_one zero s = absurd (omega arith)
          back_one (suc n) s = (walk m v n, walk_below m w.sound v n v_below, (ap (walk m v) (sym s) ∙ walk_back m v (w.sound.walks_return v v_below)) ∙ e)
      go (suc i) l e = (walk m v i, walk_below m w.sound v i v_below, e)

  -- two places of one walk from which a step leads to one corner
  same_place : (v i j : ℕ) → v < m.points → i < j → j < valence m v → walk m v (suc i) ≡ walk m v (suc j) → ⊥
  same_place v i j h l k e =
      let b = w.sound.walks_return v h in
      elim (cases_lt (suc j) (valence m v)) [
        | inl t ↦ walk_once m v (suc i) (suc j) b (omega arith) t e
        | inr t ↦ let n : suc j ≡ valence m v = omega arith in walk_not_back m v (suc i) (omega arith) (omega arith) (e ∙ ap (walk m v) n ∙ walk_back m v b)
      ]

  pub step_once : (c d : ℕ) → c < 4 * m.quads → d < 4 * m.quads → step m c ≡ step m d → c ≡ d
  unfolding walk
  step_once c d h k e =
      let vb = w.sound.corners_have_points c h in
      let p : point m d ≡ point m c = sym (step_point m w.sound d k) ∙ ap (point m) (sym e) ∙ step_point m w.sound c h in
      let r = met_at c (point m c) h refl in
      let s = met_at d (point m c) k p in
      let t : walk m (point m c) (suc r.0) ≡ walk m (point m c) (suc s.0) = ap (step m) r.2 ∙ e ∙ ap (step m) (sym s.2) in
      elim (cases_order r.0 s.0) [
        | inl q ↦ sym r.2 ∙ ap (walk m (point m c)) q ∙ s.2
        | inr o ↦ elim o [
          | inl l ↦ absurd (same_place (point m c) r.0 s.0 vb l s.1 t)
          | inr l ↦ absurd (same_place (point m c) s.0 r.0 vb l r.1 (sym t))
        ]
      ]

  -- each on-edge is the friend of one off-edge
  step_begins : (o : ℕ) → step m (begins o) ≡ 2 * friend m o + 1
  unfolding begins
  step_begins o = step_odd m (begins o) (omega arith) ∙ ap (λ x. 2 * friend m x + 1) (off_edge_begins o)

  pub friend_once : (o p : ℕ) → o < 2 * m.quads → p < 2 * m.quads → friend m o ≡ friend m p → o ≡ p
  unfolding begins
  friend_once o p h k e =
      let s = step_once (begins o) (begins p) (omega arith) (omega arith) (step_begins o ∙ ap (λ x. 2 * x + 1) e ∙ sym (step_begins p)) in
      omega arith

  pub friend_met : (g : ℕ) → g < 2 * m.quads → (o : ℕ) × (o < 2 * m.quads) × (friend m o ≡ g)
  unfolding step
  friend_met g h =
      let b = before (2 * g) (omega arith) in
      (off_edge b.0, off_edge_below b.0 m.quads b.1, omega (arith, b.2))

  -- the off-edge whose friend is g
  pub served : ℕ → ℕ
  served g = least (λ o. eqb (friend m o) g) (2 * m.quads)

  pub served_friend : (o : ℕ) → o < 2 * m.quads → served (friend m o) ≡ o
  unfolding served
  served_friend o h =
      least_is (λ p. eqb (friend m p) (friend m o)) (2 * m.quads) o h (eq-eqb _ _ refl)
      (λ i l. ne_eqb _ _ (λ e. let s = friend_once i o (omega arith) h e in omega arith))

  pub served_below : (g : ℕ) → g < 2 * m.quads → served g < 2 * m.quads
  served_below g h = let r = friend_met g h in let s = served_friend r.0 r.1 in let t = ap served r.2 in omega arith

  pub friend_served : (g : ℕ) → g < 2 * m.quads → friend m (served g) ≡ g
  friend_served g h = let r = friend_met g h in ap (friend m) (ap served (sym r.2) ∙ served_friend r.0 r.1) ∙ r.2

pub step_keeps : StepKeeps
step_keeps m w c h = (step_below m w.sound c h, step_point m w.sound c h, step_side m c)

pub corners_met_once : CornersMetOnce
corners_met_once m w c h =
    let r = corner_met m w c h in
    record {
      by = point m c;
      after = r.after;
      meets = record { a_point = w.sound.corners_have_points c h; not_back = r.soon; there = r.there };
      only = λ v i k.
          let p : v ≡ point m c = sym (walk_point m w.sound v i k.a_point) ∙ ap (point m) k.there in
          (p, same_time (point m c) i r.after (w.sound.corners_have_points c h) (rw p at k.not_back) r.soon ((rw p at k.there) ∙ sym r.there));
    }
  where
    same_time : (v i j : ℕ) → v < m.points → i < valence m v → j < valence m v → walk m v i ≡ walk m v j → i ≡ j
    same_time v i j l a b e = elim (cases_order i j) [
      | inl q ↦ q
      | inr o ↦ elim o [
        | inl k ↦ absurd (walk_once m v i j (w.sound.walks_return v l) k b e)
        | inr k ↦ absurd (walk_once m v j i (w.sound.walks_return v l) k a (sym e))
      ]
    ]

pub edges_serve_once : EdgesServeOnce
edges_serve_once m w g h =
    record {
      off = served m w g;
      off_below = served_below m w g h;
      is_friend = friend_served m w g h;
      only = λ o k e. sym (served_friend m w o k) ∙ ap (served m w) e;
    }

pub friends_pair : FriendsPair
friends_pair m w = record { has_friend = w.sound.friends_are_edges; runs_back = w.sound.friends_run_back; serves_once = friend_once m w }
