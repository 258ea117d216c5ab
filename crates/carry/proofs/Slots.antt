-- Rows written at their slots, in any order.
use Rattle.std.proofs.Common.{◌≡◌, ℕ, ◌+◌, ◌*◌, ◌<◌, List, [], map, length, get_or, set, sym, ap, ◌∙◌, subst, inl, inr, arith, below_more}
use Rattle.std.proofs.lemmas.List.FromFn.{get_or-map-range_with_len}
use Rattle.std.proofs.lemmas.List.{get_or-map, get_or-set_other, get_or-set_same, length-map, same_lists}
use Rattle.std.proofs.lemmas.Bool.{cases_eq}
use Rattle.mesh.specs.Mesh.{Lawful, Mesh, friend}
use Rattle.refinement.specs.Tasks.{edge_slot, face_slot, old_slot}
use Rattle.refinement.proofs.Corners.{friend_met}
use Rattle.refinement.proofs.Slots.{by_slots}
use Rattle.carried.specs.Blends.{parts, values}
use Rattle.carried.proofs.Ranges.{values_length}
use Rattle.carry.specs.Mixes.{blend}
use Rattle.carry.specs.Slots.{RightAt}

-- a value that is due at slot s is due at its number t
pub due_at : {V : Type 0} (blended : List (V × ℕ) → V) (m : Mesh) (xs : List V) (n t s : ℕ) (v : V) (ps : List (ℕ × ℕ)) →
    v ≡ blend blended xs ps → t ≡ s → s < n → parts m s ≡ ps → (t < n) × (v ≡ blend blended xs (parts m t))
due_at blended m xs n t s v ps made e l due = (omega arith, made ∙ ap (blend blended xs) (sym (ap (parts m) e ∙ due)))

module _ {V R : Type 0} (row : V → R) (blended : List (V × ℕ) → V) (m : Mesh) (xs : List V) where
  -- a right row written at slot t makes that slot right, and no other wrong
  module _ (out out' : List R) (t : ℕ) (v : V) (l : t < length out) (is : out' ≡ set out t (row v)) (due : v ≡ blend blended xs (parts m t)) where
    put_right : RightAt row blended m xs out' t
    put_right d = ap (λ o. get_or o t d) is ∙ get_or-set_same out t (row v) d l ∙ ap row due

    pub put_keeps : (s : ℕ) → RightAt row blended m xs out s → RightAt row blended m xs out' s
    put_keeps s h = elim (cases_eq s t) [
      | inl e ↦ subst (RightAt row blended m xs out') (sym e) put_right
      | inr ne ↦ λ d. ap (λ o. get_or o s d) is ∙ get_or-set_other out t s (row v) d ne ∙ h d
    ]

    -- values made for numbers, one more of them at its slot
    pub put_more : (Made : ℕ → V × ℕ → Type 0) (i : ℕ) → Made i (v, t) → ((k : ℕ) → k < i → (r : V × ℕ) × Made k r × RightAt row blended m xs out r.1) →
        (k : ℕ) → k < i + 1 → (r : V × ℕ) × Made k r × RightAt row blended m xs out' r.1
    put_more Made i this before =
        below_more (λ k. (r : V × ℕ) × Made k r × RightAt row blended m xs out' r.1) i
        (λ k lt. let b = before k lt in (b.0, b.1, put_keeps b.0.1 b.2))
        ((v, t), this, put_right)

  -- a table with every slot right
  pub all_right : Lawful m → (out : List R) → length out ≡ m.points + 3 * m.quads →
      ((v : ℕ) → v < m.points → RightAt row blended m xs out (old_slot m v)) →
      ((q : ℕ) → q < m.quads → RightAt row blended m xs out (face_slot q)) →
      ((o : ℕ) → o < 2 * m.quads → RightAt row blended m xs out (edge_slot (friend m o))) → out ≡ map row (values blended m xs)
  unfolding values
  all_right w out n at_old at_face at_Edge =
      let ys = values blended m xs in
      let many = values_length blended m xs in
      same_lists out (map row ys) (n ∙ sym many ∙ sym (length-map ys row))
      (λ s d h.
      by_slots m w.sound.points_enough (RightAt row blended m xs out) at_old at_face
      (λ g l. let o = friend_met m w g l in subst (λ g. RightAt row blended m xs out (edge_slot g)) o.2 (at_Edge o.0 o.1))
      s (omega arith) d
      ∙ ap row (sym (get_or-map-range_with_len (λ s. blend blended xs (parts m s)) 0 (m.points + 3 * m.quads) s s (blended []) (omega arith) (omega arith)))
      ∙ sym (get_or-map row ys s (blended []) d (omega arith)))
