-- The slots of the new points: each is that of one old point, of one quad or of one edge.
use Rattle.std.proofs.Common.{◌≡◌, ℕ, ◌+◌, ◌-◌, ◌*◌, ◌/◌, ◌%◌, ◌<◌, ◌≤◌, cond, ltb, List, [], ◌∷◌, get_or, sym, refl, ap, ◌∙◌, inl, inr, arith}
use Rattle.std.proofs.lemmas.Bool.{cases_eq, cases_lt, cond-true, cond-false, lt-ltb, le-ltb, le-leb, lt-leb}
use Rattle.mesh.specs.Count.{total}
use Rattle.mesh.specs.Mesh.{Mesh}
use Rattle.refinement.specs.Tasks.{old_slot, face_slot, edge_slot}
use Rattle.refinement.proofs.Numbers.{sides, by_quarters}
use Rattle.refinement.proofs.Totals.{total_same, total_plus, total_split, total_fours, total_twos}

pub data Kind : Type 0 where
  old face edge : ℕ → Kind

module _ (m : Mesh) where
  four_kinds : ℕ → List Kind
  four_kinds q = old q ∷ face q ∷ edge (2 * q) ∷ edge (2 * q + 1) ∷ []

  -- what a slot is for
  pub kind : ℕ → Kind
  kind s = cond (ltb s (4 * m.quads)) (get_or (four_kinds (s / 4)) (s % 4) (old 0)) (old (s - 3 * m.quads))

  kind_low : (q j s : ℕ) → q < m.quads → j < 4 → s ≡ 4 * q + j → kind s ≡ get_or (four_kinds q) j (old 0)
  unfolding kind
  kind_low q j s h l e =
      let d : s / 4 ≡ q = omega arith in
      let r : s % 4 ≡ j = omega arith in
      cond-true _ _ _ (lt-ltb s (4 * m.quads) (omega arith)) ∙ rw (d, r)

  kind_high : (v s : ℕ) → m.quads ≤ v → s ≡ 3 * m.quads + v → kind s ≡ old v
  unfolding kind
  kind_high v s h e =
      let d : s - 3 * m.quads ≡ v = omega arith in
      cond-false _ _ _ (le-ltb s (4 * m.quads) (omega arith)) ∙ rw d

  old_slot_low : (v : ℕ) → v < m.quads → old_slot m v ≡ 4 * v
  unfolding old_slot
  old_slot_low v h = cond-true _ _ _ (le-leb v m.quads (omega arith))

  old_slot_high : (v : ℕ) → m.quads ≤ v → old_slot m v ≡ 3 * m.quads + v
  unfolding old_slot
  old_slot_high v h = elim (cases_eq v m.quads) [
    | inl e ↦ cond-true _ _ _ (le-leb v m.quads (omega arith)) ∙ omega arith
    | inr e ↦ cond-false _ _ _ (lt-leb v m.quads (omega arith))
  ]

  pub kind_old : (v : ℕ) → kind (old_slot m v) ≡ old v
  unfolding four_kinds
  kind_old v = elim (cases_lt v m.quads) [
    | inl l ↦ let e = old_slot_low v l in kind_low v 0 (old_slot m v) l (omega arith) (omega arith)
    | inr l ↦ kind_high v (old_slot m v) l (old_slot_high v l)
  ]

  pub kind_face : (q : ℕ) → q < m.quads → kind (face_slot q) ≡ face q
  unfolding face_slot four_kinds
  kind_face q h = kind_low q 1 (face_slot q) h (omega arith) refl

  pub kind_edge : (g : ℕ) → g < 2 * m.quads → kind (edge_slot g) ≡ edge g
  unfolding edge_slot four_kinds
  kind_edge g h = elim (sides g) [
    | inl r ↦ let z : 2 * (g / 2) ≡ g = omega arith in kind_low (g / 2) 2 (edge_slot g) (omega arith) (omega arith) (omega arith) ∙ ap edge z
    | inr r ↦ let z : 2 * (g / 2) + 1 ≡ g = omega arith in kind_low (g / 2) 3 (edge_slot g) (omega arith) (omega arith) (omega arith) ∙ ap edge z
  ]

  pub old_slot_below : (v : ℕ) → v < m.points → old_slot m v < m.points + 3 * m.quads
  old_slot_below v h = elim (cases_lt v m.quads) [
    | inl l ↦ let z = old_slot_low v l in omega arith
    | inr l ↦ let z = old_slot_high v l in omega arith
  ]

  module _ (enough : m.quads ≤ m.points) where
    pub face_slot_below : (q : ℕ) → q < m.quads → face_slot q < m.points + 3 * m.quads
    unfolding face_slot
    face_slot_below q h = omega arith

    pub edge_slot_below : (g : ℕ) → g < 2 * m.quads → edge_slot g < m.points + 3 * m.quads
    unfolding edge_slot
    edge_slot_below g h = omega arith

    -- what holds of the slots of old points, of face points and of edge points holds of every slot
    pub by_slots : (P : ℕ → Type 0) → ((v : ℕ) → v < m.points → P (old_slot m v)) → ((q : ℕ) → q < m.quads → P (face_slot q)) → ((g : ℕ) → g < 2 * m.quads → P (edge_slot g)) →
        (s : ℕ) → s < m.points + 3 * m.quads → P s
    unfolding face_slot edge_slot
    by_slots P at_old at_face at_Edge s h = elim (cases_lt s (4 * m.quads)) [
      | inl l ↦ by_quarters (λ s. s < 4 * m.quads → P s)
          (λ q k. rw (old_slot_low q (omega arith)) at (at_old q (omega arith)))
          (λ q k. at_face q (omega arith))
          (λ q k. let z : edge_slot (2 * q) ≡ 4 * q + 2 = omega arith in rw z at (at_Edge (2 * q) (omega arith)))
          (λ q k. let z : edge_slot (2 * q + 1) ≡ 4 * q + 3 = omega arith in rw z at (at_Edge (2 * q + 1) (omega arith)))
          s l
      | inr l ↦ let z = old_slot_high (s - 3 * m.quads) (omega arith) in
          let y : old_slot m (s - 3 * m.quads) ≡ s = omega arith in
          rw y at (at_old (s - 3 * m.quads) (omega arith))
    ]

    pub total_slots : (f : ℕ → ℕ) → total f (m.points + 3 * m.quads) ≡
        total (λ v. f (old_slot m v)) m.points + total (λ q. f (face_slot q)) m.quads + total (λ e. f (edge_slot e)) (2 * m.quads)
    unfolding face_slot edge_slot
    total_slots f =
        let F = m.quads in
        let V = m.points in
        let e : V + 3 * F ≡ 4 * F + (V - F) = omega arith in
        let k : V ≡ F + (V - F) = omega arith in
        let a = total_split f (4 * F) (V - F) in
        let b = total_fours f F in
        let b1 = total_plus (λ i. f (4 * i) + f (4 * i + 1) + f (4 * i + 2)) (λ i. f (4 * i + 3)) F in
        let b2 = total_plus (λ i. f (4 * i) + f (4 * i + 1)) (λ i. f (4 * i + 2)) F in
        let b3 = total_plus (λ i. f (4 * i)) (λ i. f (4 * i + 1)) F in
        let o = ap (total (λ v. f (old_slot m v))) k in
        let os = total_split (λ v. f (old_slot m v)) F (V - F) in
        let low = total_same (λ i. f (4 * i)) (λ v. f (old_slot m v)) F (λ i l. ap f (sym (old_slot_low i l))) in
        let high = total_same (λ i. f (4 * F + i)) (λ i. f (old_slot m (F + i))) (V - F) (λ i l. let z = old_slot_high (F + i) (omega arith) in let y : 4 * F + i ≡ old_slot m (F + i) = omega arith in ap f y) in
        let t = total_twos (λ e. f (edge_slot e)) F in
        let ts = total_plus (λ i. f (edge_slot (2 * i))) (λ i. f (edge_slot (2 * i + 1))) F in
        let c = total_same (λ i. f (4 * i + 2)) (λ i. f (edge_slot (2 * i))) F (λ i l. let y : 4 * i + 2 ≡ edge_slot (2 * i) = omega arith in ap f y) in
        let d = total_same (λ i. f (4 * i + 3)) (λ i. f (edge_slot (2 * i + 1))) F (λ i l. let y : 4 * i + 3 ≡ edge_slot (2 * i + 1) = omega arith in ap f y) in
        ap (total f) e ∙ omega arith
