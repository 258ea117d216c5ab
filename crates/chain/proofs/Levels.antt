-- A lawful mesh is whole, and what its levels keep of it.
use Rattle.std.proofs.Common.{◌≡◌, ℕ, zero, suc, ◌+◌, ◌*◌, ◌^◌, ◌<◌, ◌≤◌, cond, eqb, sym, refl, ap, ◌∙◌, inl, inr, pow-suc, arith}
use Rattle.std.proofs.lemmas.Bool.{cases_eq, cond-true, cond-false, eq-eqb, ne_eqb}
use Rattle.mesh.specs.Count.{total}
use Rattle.mesh.specs.Mesh.{Mesh, Lawful, point, walk, valence, most_quads}
use Rattle.refinement.specs.Tasks.{old_slot, refine, level}
use Rattle.refinement.proofs.Totals.{total_same, total_zero, total_ones, total_swap, hit, hit_same, hit_other, total_hits}
use Rattle.refinement.proofs.Walks.{walk_below, walk_point}
use Rattle.refinement.proofs.Corners.{friends_pair, corners_met_once}
use Rattle.refinement.proofs.Slots.{kind_old, by_slots, old_slot_below}
use Rattle.refinement.proofs.Order.{refined}
use Rattle.refinement.proofs.Keeps.{levels_lawful, valences_kept}
use Rattle.chain.specs.Level.{JustOne, Whole, Keeps, corners_at, slot}

module _ (m : Mesh) (w : Lawful m) where
  meets_once : (v c : ℕ) → v < m.points → c < 4 * m.quads → point m c ≡ v → JustOne (λ i. (i < valence m v) × (walk m v i ≡ c))
  meets_once v c h k e =
      let r = corners_met_once m w c k in
      let p : r.by ≡ v = sym (walk_point m w.sound r.by r.after r.meets.a_point) ∙ ap (point m) r.meets.there ∙ e in
      record {
        which = r.after;
        it_is = (rw p at r.meets.not_back, rw p at r.meets.there);
        no_other = λ i t. (r.only v i (record { a_point = h; not_back = t.0; there = t.1 })).1;
      }

  -- how often the walk at v meets c: once if c is a corner of v, else never
  met : (v c : ℕ) → v < m.points → c < 4 * m.quads → total (λ i. hit (walk m v i) c) (valence m v) ≡ cond (eqb (point m c) v) 1 0
  met v c h k = elim (cases_eq (point m c) v) [
    | inl e ↦
        let o = meets_once v c h k e in
        total_same (λ i. hit (walk m v i) c) (λ i. hit o.which i) (valence m v)
        (λ i l. elim (cases_eq (walk m v i) c) [
          | inl q ↦ hit_same _ _ q ∙ sym (hit_same _ _ (sym (o.no_other i (l, q))))
          | inr q ↦ hit_other _ _ q ∙ sym (hit_other _ _ (λ x. q (ap (walk m v) (sym x) ∙ o.it_is.1)))
        ])
        ∙ total_hits o.which (valence m v) o.it_is.0
        ∙ sym (cond-true _ _ _ (eq-eqb _ _ e))
    | inr e ↦
        total_zero (λ i. hit (walk m v i) c) (valence m v) (λ i l. hit_other _ _ (λ q. e (ap (point m) (sym q) ∙ walk_point m w.sound v i h)))
        ∙ sym (cond-false _ _ _ (ne_eqb _ _ e))
  ]

  steps_are_corners : (v : ℕ) → v < m.points → valence m v ≡ corners_at m v
  unfolding corners_at
  steps_are_corners v h =
      sym (total_swap (λ c i. hit (walk m v i) c) (4 * m.quads) (valence m v)
      ∙ total_ones _ (valence m v) (λ i l. total_hits (walk m v i) (4 * m.quads) (walk_below m w.sound v i h)))
      ∙ total_same (λ c. total (λ i. hit (walk m v i) c) (valence m v)) (λ c. cond (eqb (point m c) v) 1 0) (4 * m.quads) (λ c k. met v c h k)

  pub whole : Whole m
  whole = record {
    paired = friends_pair m w;
    meets_once = meets_once;
    stays = λ v i h. (walk_below m w.sound v i h, walk_point m w.sound v i h);
    steps_are_corners = steps_are_corners;
  }

old_slot_apart : (m : Mesh) (u v : ℕ) → old_slot m u ≡ old_slot m v → u ≡ v
old_slot_apart m u v e = cc (kind_old m u, kind_old m v)

module _ (m : Mesh) (w : Lawful m) where
  fewer : (k : ℕ) → 4 ^ (suc k) * m.quads ≤ most_quads → 4 ^ k * m.quads ≤ most_quads
  fewer k h = let e = ap (λ x. x * m.quads) (pow-suc 4 k) in omega arith

  lawful_at : (k : ℕ) → 4 ^ k * m.quads ≤ most_quads → Lawful (level m k)
  lawful_at k h = (levels_lawful m w k h).0

  points_less_quads : (k : ℕ) → 4 ^ k * m.quads ≤ most_quads → (level m k).points + m.quads ≡ m.points + (level m k).quads
  unfolding level
  points_less_quads zero h = refl
  points_less_quads (suc k) h =
      let d = refined (level m k) (lawful_at k (fewer k h)) in
      let a = d.quads_are in
      let b = d.points_are in
      let r = points_less_quads k (fewer k h) in
      omega arith

  there : (k : ℕ) → 4 ^ k * m.quads ≤ most_quads → (v : ℕ) → v < m.points → slot m k v < (level m k).points
  unfolding level slot
  there zero h v l = l
  there (suc k) h v l =
      let d = (refined (level m k) (lawful_at k (fewer k h))).points_are in
      let b = old_slot_below (level m k) (slot m k v) (there k (fewer k h) v l) in
      omega arith

  apart : (k u v : ℕ) → slot m k u ≡ slot m k v → u ≡ v
  unfolding slot
  apart zero u v e = e
  apart (suc k) u v e = apart k u v (old_slot_apart (level m k) _ _ e)

  valence_kept : (k : ℕ) → 4 ^ k * m.quads ≤ most_quads → (v : ℕ) → v < m.points → valence (level m k) (slot m k v) ≡ valence m v
  unfolding level slot
  valence_kept zero h v l = refl
  valence_kept (suc k) h v l =
      (valences_kept (level m k) (lawful_at k (fewer k h))).at_old (slot m k v) (there k (fewer k h) v l) ∙ valence_kept k (fewer k h) v l

  later : (k : ℕ) → 4 ^ k * m.quads ≤ most_quads → (s : ℕ) → s < (level m k).points → ((v : ℕ) → v < m.points → slot m k v ≡ s → ⊥) → valence (level m k) s ≡ 4
  unfolding level slot
  later zero h s l new = absurd (new s l refl)
  later (suc k) h s l new =
      let r = lawful_at k (fewer k h) in
      let n = valences_kept (level m k) r in
      let d = (refined (level m k) r).points_are in
      by_slots (level m k) r.sound.points_enough
      (λ s. ((v : ℕ) → v < m.points → old_slot (level m k) (slot m k v) ≡ s → ⊥) → valence (refine (level m k)) s ≡ 4)
      (λ u b fresh. n.at_old u b ∙ later k (fewer k h) u b (λ v c e. fresh v c (ap (old_slot (level m k)) e)))
      (λ q b fresh. n.at_face q b)
      (λ e b fresh. n.at_edge e b)
      s (omega arith) new

  pub keeps : (k : ℕ) → 4 ^ k * m.quads ≤ most_quads → Keeps m k
  keeps k h =
      let here = (whole m w).steps_are_corners in
      let now = (whole (level m k) (lawful_at k h)).steps_are_corners in
      record {
        points_less_quads = points_less_quads k h;
        loaded_there = there k h;
        loaded_apart = λ u v a b e. apart k u v e;
        loaded_corners = λ v l. sym (now (slot m k v) (there k h v l)) ∙ valence_kept k h v l ∙ here v l;
        loaded_least = λ v l. let e = here v l in let b = w.sound.walks_not_short v l in omega arith;
        loaded_most = λ v l. let e = here v l in let b = w.sound.walks_return v l in omega arith;
        later_four = λ s l new. sym (now s l) ∙ later k h s l new;
      }
