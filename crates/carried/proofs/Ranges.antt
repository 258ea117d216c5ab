-- Values that are carried along stay in range.
use Rattle.std.proofs.Common.{◌≡◌, ℕ, zero, suc, ◌+◌, ◌*◌, ◌<◌, ◌≤◌, ltb, List, [], ◌∷◌, length, get_or, sym, refl, ap, ◌∙◌, arith}
use Rattle.std.specs.List.{AllByRecursion}
use Rattle.std.proofs.lemmas.List.FromFn.{get_or-map-range_with_len, length-map-range_with_len}
use Rattle.std.proofs.ByRecursion.{All-get_or, all_kept_by}
use Rattle.std.proofs.lemmas.List.{get_or_default, same_lists}
use Rattle.mesh.specs.Mesh.{Mesh, Lawful, friend}
use Rattle.refinement.specs.Tasks.{level, old_slot, face_slot, edge_slot}
use Rattle.refinement.proofs.Corners.{friend_met}
use Rattle.refinement.proofs.Slots.{by_slots, old_slot_below, face_slot_below, edge_slot_below}
use Rattle.refinement.proofs.Order.{refined}
use Rattle.kinds.specs.Parts.{Each, most_weight, taken, total}
use Rattle.carried.specs.Blends.{face, edge, moved, parts, values_at, values, Blends, carried}
use Rattle.carried.specs.Laws.{ValuesAre, ValuesStayInRange}
use Rattle.carried.proofs.Levels.{earlier, lawful_at}
use Rattle.carried.proofs.Weights.{all_counting, fit_at, old_parts, face_parts, edge_parts}

module _ {V : Type 0} where
  pub values_total : (d : V) (xs : List V) (ps : List (ℕ × ℕ)) → total (values_at d xs ps) ≡ total ps
  values_total d xs [] = refl
  values_total d xs (p ∷ ps) = ap (λ n. p.1 + n) (values_total d xs ps)

  values_each : (P : V → Type 0) (d : V) (xs : List V) → AllByRecursion P xs → (ps : List (ℕ × ℕ)) → AllByRecursion (λ p. p.0 < length xs) ps → Each P (values_at d xs ps)
  values_each P d xs a [] h = tt
  values_each P d xs a (p ∷ ps) h = (All-get_or P xs p.0 d h.0 a, values_each P d xs a ps h.1)

  -- past the end of the list no part reads
  values_same : (d e : V) (xs : List V) (ps : List (ℕ × ℕ)) → AllByRecursion (λ (p : ℕ × ℕ). p.0 < length xs) ps → values_at d xs ps ≡ values_at e xs ps
  values_same d e xs [] h = refl
  values_same d e xs (p ∷ ps) h = λ i. (get_or_default xs p.0 d e h.0 i, p.1) ∷ values_same d e xs ps h.1 i

  module _ (blended : List (V × ℕ) → V) where
    pub values_length : (m : Mesh) (xs : List V) → length (values blended m xs) ≡ m.points + 3 * m.quads
    unfolding values
    values_length m xs = length-map-range_with_len _ 0 (m.points + 3 * m.quads)

    module _ (m : Mesh) (w : Lawful m) (xs : List V) (count : length xs ≡ m.points) where
      at_slot : (s : ℕ) → s < m.points + 3 * m.quads → (ps : List (ℕ × ℕ)) → parts m s ≡ ps → (d : V) → get_or (values blended m xs) s d ≡ blended (values_at d xs (taken ps))
      unfolding values
      at_slot s h ps e d =
          let named = all_kept_by (λ p. ltb 0 p.1) (λ p. p.0 < m.points) (parts m s) (fit_at m w s h).name_points in
          get_or-map-range_with_len (λ s. blended (values_at (blended []) xs (taken (parts m s)))) 0 (m.points + 3 * m.quads) s s d h (omega arith)
          ∙ ap blended (values_same (blended []) d xs (taken (parts m s)) (rw count named))
          ∙ ap (λ ps. blended (values_at d xs (taken ps))) e

      enough : m.quads ≤ m.points
      enough = w.sound.points_enough

      are : Blends blended m xs (values blended m xs)
      are = record {
        as_many = values_length m xs;
        at_old = λ v h. at_slot (old_slot m v) (old_slot_below m v h) (moved m v) (old_parts m w v);
        at_face = λ q h. at_slot (face_slot q) (face_slot_below m enough q h) (face m q) (face_parts m w q h);
        at_edge = λ o h. at_slot (edge_slot (friend m o)) (edge_slot_below m enough (friend m o) (w.sound.friends_are_edges o h)) (edge m o) (edge_parts m w o h);
      }

      are_only : (ys : List V) → Blends blended m xs ys → ys ≡ values blended m xs
      are_only ys k =
          same_lists ys (values blended m xs) (k.as_many ∙ sym (values_length m xs))
          (λ s d h. let l = k.as_many in
          by_slots m enough (λ s. get_or ys s d ≡ get_or (values blended m xs) s d)
          (λ v h. k.at_old v h d ∙ sym (are.at_old v h d))
          (λ q h. k.at_face q h d ∙ sym (are.at_face q h d))
          (λ g h. let o = friend_met m w g h in rw o.2 at (k.at_edge o.0 o.1 d ∙ sym (are.at_edge o.0 o.1 d)))
          s (omega arith))

    pub values_are : ValuesAre blended
    values_are m w xs count = record { is = are m w xs count; only = are_only m w xs count }

  module _ {R : Type 0} (lies : R → V → Type 0) (blended : List (V × ℕ) → V)
      (keeps : (b : R) (ps : List (V × ℕ)) → 0 < total ps → total ps ≤ most_weight → Each (lies b) ps → lies b (blended ps)) where
    -- one level on
    pub values_lie : (m : Mesh) → Lawful m → (xs : List V) → length xs ≡ m.points → (b : R) → AllByRecursion (lies b) xs → AllByRecursion (lies b) (values blended m xs)
    unfolding values
    values_lie m w xs n b a =
        all_counting (lies b) (λ s. blended (values_at (blended []) xs (taken (parts m s)))) 0 (m.points + 3 * m.quads)
        (λ s h.
        let f = fit_at m w s (omega arith) in
        let ps = taken (parts m s) in
        let e = values_total (blended []) xs ps in
        let named = all_kept_by (λ p. ltb 0 p.1) (λ p. p.0 < m.points) (parts m s) f.name_points in
        let low = f.some_weight in
        let high = f.few in
        keeps b (values_at (blended []) xs ps) (omega arith) (omega arith) (values_each (lies b) (blended []) xs a ps (rw n named)))

    -- every level on
    pub stays : ValuesStayInRange lies blended
    unfolding carried level
    stays m w j zero s xs n = let e : j + 0 ≡ j = omega arith in rw e (record { as_many = n; in_range = λ b a. a })
    stays m w j (suc i) s xs n =
        let e : j + suc i ≡ suc (j + i) = omega arith in
        let t = earlier m (j + i) (rw e at s) in
        let r = stays m w j i t xs n in
        let l = lawful_at m w (j + i) t in
        let q = (refined (level m (j + i)) l).points_are in
        let c = values_length blended (level m (j + i)) (carried blended m j xs i) in
        rw e (record {
          as_many = omega arith;
          in_range = λ b a. values_lie (level m (j + i)) l (carried blended m j xs i) r.as_many b (r.in_range b a);
        })
