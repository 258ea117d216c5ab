-- Parts along a walk, corner by corner.
use Rattle.std.proofs.Common.{◌≡◌, ℕ, ◌+◌, ◌-◌, ◌*◌, ◌<◌, ◌≤◌, Bool, cond, ltb, List, [], ◌∷◌, ◌++◌, map, length, take, count_by, sym, ap, ◌∙◌, mul_assoc, mul_comm, add-mul, mul-add, arith}
use Rattle.std.specs.List.{flat_map}
use Rattle.std.proofs.lemmas.List.FromFn.{length-map-range_with_len, map-range_with_len_more, take-map-range_with_len}
use Rattle.std.proofs.lemmas.List.{append_assoc, flat_map_more, map-append, map_push}
use Rattle.std.proofs.lemmas.List.Sums.{length-filter, sum_by-take-le}
use Rattle.mesh.specs.Mesh.{Mesh, mark, off_edge, point, valence, walk, diagonal, other_end}
use Rattle.kinds.specs.Parts.{total}
use Rattle.carried.specs.Blends.{around, smooth, times}
use Rattle.carried.proofs.Weights.{product_le, smooth_sum, total_map, total_round, total_times}
use Rattle.carry.specs.Walks.{marked_met, met}

module _ (m : Mesh) where
  -- the smooth parts of one corner, and of some
  abbrev pub across : ℕ → List (ℕ × ℕ)
  across c = (point m (other_end c), 6) ∷ (point m (diagonal c), 1) ∷ []

  abbrev pub round : List ℕ → List (ℕ × ℕ)
  round cs = flat_map (λ c. (point m (other_end c), 6) ∷ (point m (diagonal c), 1) ∷ []) cs

  round_push : (cs : List ℕ) (c : ℕ) → round (cs ++ c ∷ []) ≡ round cs ++ across c
  round_push cs c = sym (flat_map_more across [] cs c)

  module _ (v i k : ℕ) where
    pub round_total : total (times k (round (met m v i))) ≡ 7 * (k * i)
    round_total =
        let n = length-map-range_with_len (walk m v) 0 i in
        total_times k (round (met m v i)) ∙ ap (λ x. k * x) (total_round m (met m v i) ∙ ap (λ x. 7 * x) n) ∙ (let a = mul_assoc k 7 i in let b = mul_comm k 7 in let c = mul_assoc 7 k i in omega arith)

    pub round_more : (ps : List (ℕ × ℕ)) (c : ℕ) → c ≡ walk m v i →
        ((ps ++ times k (round (met m v i))) ++ (point m (other_end c), k * 6) ∷ []) ++ (point m (diagonal c), k) ∷ [] ≡ ps ++ times k (round (met m v (i + 1)))
    round_more ps c e =
        let a = times k (round (met m v i)) in
        let one : k ≡ k * 1 = omega arith in
        append_assoc (ps ++ a) ((point m (other_end c), k * 6) ∷ []) ((point m (diagonal c), k) ∷ [])
        ∙ append_assoc ps a ((point m (other_end c), k * 6) ∷ (point m (diagonal c), k) ∷ [])
        ∙ ap (λ l. ps ++ l)
        ((λ j. a ++ (point m (other_end (e j)), k * 6) ∷ (point m (diagonal (e j)), one j) ∷ [])
        ∙ sym (map-append (λ (p : ℕ × ℕ). (p.0, k * p.1)) (round (met m v i)) (across (walk m v i)))
        ∙ ap (times k) (sym (round_push (met m v i) (walk m v i)) ∙ ap round (sym (map-range_with_len_more (walk m v) 0 i i (omega arith)))))

  -- the weights along the walk
  pub round_room : (k i n : ℕ) → i < n → 7 * (k * i) + k * 6 + k ≤ 7 * (k * n)
  round_room k i n l = let a : k * (i + 1) ≤ k * n = product_le k (i + 1) k n (omega arith) (omega arith) in let b = mul-add k i 1 in omega arith

  pub smooth_room : (k n : ℕ) → 2 ≤ n → k * (n * (4 * n - 7)) + 7 * (k * n) ≡ k * (4 * (n * n))
  smooth_room k n l =
      let a = smooth_sum n l in
      let b = ap (λ x. k * x) a in
      let c = mul-add k (n * (4 * n - 7)) (7 * n) in
      let d = mul_assoc k 7 n in
      let e = mul_comm k 7 in
      let f = mul_assoc 7 k n in
      omega arith

  pub smooth_is : (v n k : ℕ) → n ≡ valence m v → (ps : List (ℕ × ℕ)) →
      (ps ++ (v, k * (n * (4 * n - 7))) ∷ []) ++ times k (round (met m v n)) ≡ ps ++ times k (smooth m v)
  unfolding smooth around
  smooth_is v n k e ps =
      append_assoc ps ((v, k * (n * (4 * n - 7))) ∷ []) (times k (round (met m v n)))
      ∙ (λ i. ps ++ (v, k * (e i * (4 * e i - 7))) ∷ times k (round (met m v (e i))))

  -- ---- the other ends of marked off-edges, each with the weight w
  abbrev pub crease_parts : ℕ → List ℕ → List (ℕ × ℕ)
  crease_parts w cs = map (λ c. (point m (other_end c), w)) cs

  pub crease_more : (w : ℕ) (ps : List (ℕ × ℕ)) (cs : List ℕ) (c : ℕ) → (ps ++ crease_parts w cs) ++ (point m (other_end c), w) ∷ [] ≡ ps ++ crease_parts w (cs ++ c ∷ [])
  crease_more w ps cs c = append_assoc ps (crease_parts w cs) _ ∙ ap (λ l. ps ++ l) (sym (map_push (λ c. (point m (other_end c), w)) cs c))

  pub crease_total : (w : ℕ) (cs : List ℕ) → total (crease_parts w cs) ≡ length cs * w
  crease_total w cs = total_map (λ c. point m (other_end c)) w cs

  pub marked_fewer : (v i n : ℕ) → i ≤ n → length (marked_met m v i) ≤ length (marked_met m v n)
  marked_fewer v i n l =
      let p : ℕ → Bool = λ c. ltb 0 (mark m (off_edge c)) in
      let a = length-filter p (met m v i) in
      let b = length-filter p (met m v n) in
      let c = sum_by-take-le (λ c. cond (p c) 1 0) (met m v n) i in
      let d : count_by p (take i (met m v n)) ≡ count_by p (met m v i) = ap (count_by p) (take-map-range_with_len (walk m v) 0 n i l) in
      omega arith

  pub crease_room : (v i n w : ℕ) → length (marked_met m v i) + 1 ≤ length (marked_met m v n) → length (marked_met m v i) * w + w ≤ length (marked_met m v n) * w
  crease_room v i n w l = let a : (length (marked_met m v i) + 1) * w ≤ length (marked_met m v n) * w = product_le _ w _ w l (omega arith) in let b = add-mul (length (marked_met m v i)) 1 w in omega arith
