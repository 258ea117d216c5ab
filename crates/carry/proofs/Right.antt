-- Rows written one by one, each the row of the value that belongs there.
use Rattle.std.proofs.Common.{◌≡◌, ℕ, ◌+◌, ◌*◌, ◌<◌, ◌≤◌, ◌≢◌, List, [], ◌∷◌, map, length, get_or, set, sym, refl, ap, ◌∙◌, subst, arith, below_more}
use Rattle.std.proofs.lemmas.List.{get_or-map, get_or-set_same, get_or-set_other, length-map, length-set, nil_from_length, same_lists}
use Rattle.carried.proofs.Seams.{at_row, quad_row}
use Rattle.carried.specs.Corners.{corners}
use Rattle.carry.specs.Corners.{Upto}

module _ {V R : Type 0} (row : V → R) where
  pub upto_more : (ys : List V) (out : List R) (n j : ℕ) (x : V) → j ≡ n + 1 → n < length out → Upto row ys out n → ((e : V) → x ≡ get_or ys n e) → Upto row ys (set out n (row x)) j
  upto_more ys out n j x z l u h =
      rw z (below_more (λ k. (d : R) (e : V) → get_or (set out n (row x)) k d ≡ row (get_or ys k e)) n
      (λ k lt d e. let ne : k ≢ n = omega arith in get_or-set_other out n k (row x) d ne ∙ u k lt d e)
      (λ d e. get_or-set_same out n (row x) d l ∙ ap row (h e)))

  -- four rows side by side
  unfoldable pub four : List R → ℕ → V → V → V → V → List R
  four out n a b c d = set (set (set (set out n (row a)) (n + 1) (row b)) (n + 2) (row c)) (n + 3) (row d)

  pub length_four : (out : List R) (n : ℕ) (a b c d : V) → length (four out n a b c d) ≡ length out
  unfolding four
  length_four out n a b c d = simp length-set

  upto_four : (ys : List V) (out out' : List R) (n j : ℕ) (a b c d : V) → out' ≡ four out n a b c d → j ≡ n + 4 → n + 4 ≤ length out → Upto row ys out n →
      ((e : V) → a ≡ get_or ys n e) → ((e : V) → b ≡ get_or ys (n + 1) e) → ((e : V) → c ≡ get_or ys (n + 2) e) → ((e : V) → d ≡ get_or ys (n + 3) e) → Upto row ys out' j
  unfolding four
  upto_four ys out out' n j a b c d w z l u ha hb hc hd =
      let o1 = set out n (row a) in
      let o2 = set o1 (n + 1) (row b) in
      let o3 = set o2 (n + 2) (row c) in
      let l1 = length-set out n (row a) in
      let l2 = length-set o1 (n + 1) (row b) in
      let l3 = length-set o2 (n + 2) (row c) in
      let u1 = upto_more ys out n (n + 1) a refl (omega arith) u ha in
      let u2 = upto_more ys o1 (n + 1) (n + 2) b (omega arith) (omega arith) u1 hb in
      let u3 = upto_more ys o2 (n + 2) (n + 3) c (omega arith) (omega arith) u2 hc in
      subst (λ o. Upto row ys o j) (sym w) (upto_more ys o3 (n + 3) j d (omega arith) (omega arith) u3 hd)

  -- the sixteen rows of a quad
  module _ (middle : V → V → V) (xs : List V) (n q : ℕ) (count : length xs ≡ 4 * n) (h : q < n) (a b c d ab bc cd da centre : V)
      (ha : (e : V) → a ≡ get_or xs (4 * q) e) (hb : (e : V) → b ≡ get_or xs (4 * q + 1) e) (hc : (e : V) → c ≡ get_or xs (4 * q + 2) e) (hd : (e : V) → d ≡ get_or xs (4 * q + 3) e)
      (hab : ab ≡ middle a b) (hbc : bc ≡ middle b c) (hcd : cd ≡ middle c d) (hda : da ≡ middle d a) (hcentre : centre ≡ middle ab cd) where
    is_at : (x : V) (j s : ℕ) → j < 16 → s ≡ 16 * q + j → ((e : V) → x ≡ get_or (quad_row middle xs e q) j e) → (e : V) → x ≡ get_or (corners middle xs) s e
    is_at x j s l z k e = k e ∙ sym (at_row middle n xs e count q j s h l z)

    pub upto_quad : (out o1 o2 o3 o4 : List R) →
        o1 ≡ four out (16 * q) a ab centre da → o2 ≡ four o1 (16 * q + 4) b bc centre ab → o3 ≡ four o2 (16 * q + 8) c cd centre bc → o4 ≡ four o3 (16 * q + 12) d da centre cd →
        16 * q + 16 ≤ length out → Upto row (corners middle xs) out (16 * q) → Upto row (corners middle xs) o4 (16 * q + 16)
    unfolding quad_row
    upto_quad out o1 o2 o3 o4 e1 e2 e3 e4 l u =
        let ys = corners middle xs in
        let hce : (e : V) → centre ≡ middle (middle (get_or xs (4 * q) e) (get_or xs (4 * q + 1) e)) (middle (get_or xs (4 * q + 2) e) (get_or xs (4 * q + 3) e)) = λ e. cc (ha e, hb e, hc e, hd e) in
        let hab' : (e : V) → ab ≡ middle (get_or xs (4 * q) e) (get_or xs (4 * q + 1) e) = λ e. cc (ha e, hb e) in
        let hbc' : (e : V) → bc ≡ middle (get_or xs (4 * q + 1) e) (get_or xs (4 * q + 2) e) = λ e. cc (hb e, hc e) in
        let hcd' : (e : V) → cd ≡ middle (get_or xs (4 * q + 2) e) (get_or xs (4 * q + 3) e) = λ e. cc (hc e, hd e) in
        let hda' : (e : V) → da ≡ middle (get_or xs (4 * q + 3) e) (get_or xs (4 * q) e) = λ e. cc (hd e, ha e) in
        let l1 = ap length e1 ∙ length_four out (16 * q) a ab centre da in
        let l2 = ap length e2 ∙ length_four o1 (16 * q + 4) b bc centre ab in
        let l3 = ap length e3 ∙ length_four o2 (16 * q + 8) c cd centre bc in
        let u1 = upto_four ys out o1 (16 * q) (16 * q + 4) _ _ _ _ e1 refl (omega arith) u (is_at a 0 _ (omega arith) (omega arith) ha) (is_at ab 1 _ (omega arith) refl hab') (is_at centre 2 _ (omega arith) refl hce) (is_at da 3 _ (omega arith) refl hda') in
        let u2 = upto_four ys o1 o2 (16 * q + 4) (16 * q + 8) _ _ _ _ e2 (omega arith) (omega arith) u1 (is_at b 4 _ (omega arith) refl hb) (is_at bc 5 _ (omega arith) (omega arith) hbc') (is_at centre 6 _ (omega arith) (omega arith) hce) (is_at ab 7 _ (omega arith) (omega arith) hab') in
        let u3 = upto_four ys o2 o3 (16 * q + 8) (16 * q + 12) _ _ _ _ e3 (omega arith) (omega arith) u2 (is_at c 8 _ (omega arith) refl hc) (is_at cd 9 _ (omega arith) (omega arith) hcd') (is_at centre 10 _ (omega arith) (omega arith) hce) (is_at bc 11 _ (omega arith) (omega arith) hbc') in
        upto_four ys o3 o4 (16 * q + 12) (16 * q + 16) _ _ _ _ e4 (omega arith) (omega arith) u3 (is_at d 12 _ (omega arith) refl hd) (is_at da 13 _ (omega arith) (omega arith) hda') (is_at centre 14 _ (omega arith) (omega arith) hce) (is_at cd 15 _ (omega arith) (omega arith) hcd')

  -- all rows are right
  pub upto_all : (ys : List V) (out : List R) (n : ℕ) → length out ≡ length ys → length ys ≤ n → Upto row ys out n → out ≡ map row ys
  upto_all [] out n z l u = nil_from_length out z
  upto_all (y ∷ ys) out n z l u =
      same_lists out (map row (y ∷ ys)) (z ∙ sym (length-map (y ∷ ys) row))
      (λ k d h. u k (omega arith) d y ∙ sym (get_or-map row (y ∷ ys) k y d (omega arith)))
