-- Corner values: what each new corner has, and that seams which met still meet.
use Rattle.std.proofs.Common.{◌≡◌, ℕ, zero, suc, ◌+◌, ◌-◌, ◌*◌, ◌/◌, ◌^◌, ◌<◌, ◌≤◌, List, [], ◌∷◌, length, get_or, sym, refl, ap, ◌∙◌, arith}
use Rattle.std.specs.List.{AllByRecursion}
use Rattle.std.proofs.ByRecursion.{All-weaker}
use Rattle.std.proofs.lemmas.List.{get_or_append_left, get_or-append-add, same_lists}
use Rattle.mesh.specs.Mesh.{Mesh, Lawful, friend, begins, ends, most_quads}
use Rattle.refinement.specs.Tasks.{halves, level, refine}
use Rattle.refinement.proofs.Numbers.{by_quarters}
use Rattle.refinement.proofs.Level.{next, next_even, next_begins, friend_inside, friend_at_end, friend_back}
use Rattle.refinement.proofs.Order.{refined}
use Rattle.kinds.specs.Likeness.{Likeness}
use Rattle.carried.specs.Corners.{new_quads, corners, previous, centre, corners_carried, Alike, pieces}
use Rattle.carried.specs.Laws.{Allowed, CornersAre, SeamsStay, SeamsStillMeet}
use Rattle.carried.proofs.Levels.{earlier, earlier_by, lawful_at}

ends_below : (o n : ℕ) → o < 2 * n → ends o < 4 * n
unfolding ends
ends_below o n h = omega arith

ends_even : (c : ℕ) → ends (2 * c) ≡ 4 * c + 2
unfolding ends
ends_even c = omega arith

ends_odd : (c : ℕ) → ends (2 * c + 1) ≡ 4 * c
unfolding ends
ends_odd c = omega arith

previous_ends : (o : ℕ) → previous (ends o) ≡ begins o
unfolding previous ends begins
previous_ends o = omega arith

previous_odd : (g : ℕ) → previous (2 * g + 1) ≡ 2 * g
unfolding previous
previous_odd g = omega arith

previous_next : (c : ℕ) → previous (next c) ≡ c
unfolding previous next
previous_next c = omega arith

next_below : (c n : ℕ) → c < 4 * n → next c < 4 * n
unfolding next
next_below c n h = omega arith

next_quad : (c : ℕ) → next c / 4 ≡ c / 4
unfolding next
next_quad c = omega arith

module _ {V : Type 0} (middle : V → V → V) where
  pub corners_length : (n : ℕ) (xs : List V) → length xs ≡ 4 * n → length (corners middle xs) ≡ 16 * n
  unfolding corners
  corners_length n (a ∷ b ∷ c ∷ d ∷ xs) h = let r = corners_length (n - 1) xs (omega arith) in omega arith
  corners_length n [] h = omega arith
  corners_length n (a ∷ []) h = absurd (omega arith)
  corners_length n (a ∷ b ∷ []) h = absurd (omega arith)
  corners_length n (a ∷ b ∷ c ∷ []) h = absurd (omega arith)

  same_row : (a b c d a' b' c' d' z : V) (j : ℕ) → a ≡ a' → b ≡ b' → c ≡ c' → d ≡ d' → get_or (new_quads middle a b c d) j z ≡ get_or (new_quads middle a' b' c' d') j z
  same_row a b c d a' b' c' d' z j ea eb ec ed = λ i. get_or (new_quads middle (ea i) (eb i) (ec i) (ed i)) j z

  -- the sixteen values of quad q
  unfoldable pub quad_row : List V → V → ℕ → List V
  quad_row xs z q = new_quads middle (get_or xs (4 * q) z) (get_or xs (4 * q + 1) z) (get_or xs (4 * q + 2) z) (get_or xs (4 * q + 3) z)

  row_at : (n : ℕ) (xs : List V) (z : V) → length xs ≡ 4 * n → (q j : ℕ) → q < n → j < 16 → get_or (corners middle xs) (16 * q + j) z ≡ get_or (quad_row xs z q) j z
  unfolding corners quad_row
  row_at n (a ∷ b ∷ c ∷ d ∷ xs) z h zero j l k =
      let e : 16 * 0 + j ≡ j = omega arith in
      ap (λ i. get_or (corners middle (a ∷ b ∷ c ∷ d ∷ xs)) i z) e ∙ get_or_append_left (new_quads middle a b c d) (corners middle xs) z j k
  row_at n (a ∷ b ∷ c ∷ d ∷ xs) z h (suc q) j l k =
      let e : 16 * suc q + j ≡ 16 + (16 * q + j) = omega arith in
      ap (λ i. get_or (corners middle (a ∷ b ∷ c ∷ d ∷ xs)) i z) e
      ∙ get_or-append-add (new_quads middle a b c d) (corners middle xs) (16 * q + j) z
      ∙ row_at (n - 1) xs z (omega arith) q j (omega arith) k
      ∙ same_row _ _ _ _ _ _ _ _ z j (later (4 * q) (4 * suc q) (omega arith)) (later (4 * q + 1) (4 * suc q + 1) (omega arith)) (later (4 * q + 2) (4 * suc q + 2) (omega arith)) (later (4 * q + 3) (4 * suc q + 3) (omega arith))
    where
      later : (s t : ℕ) → t ≡ suc (suc (suc (suc s))) → get_or xs s z ≡ get_or (a ∷ b ∷ c ∷ d ∷ xs) t z
      later s t e = sym (ap (λ i. get_or (a ∷ b ∷ c ∷ d ∷ xs) i z) e)
  row_at n [] z h q j l k = absurd (omega arith)
  row_at n (a ∷ []) z h q j l k = absurd (omega arith)
  row_at n (a ∷ b ∷ []) z h q j l k = absurd (omega arith)
  row_at n (a ∷ b ∷ c ∷ []) z h q j l k = absurd (omega arith)

  module _ (n : ℕ) (xs : List V) (z : V) (count : length xs ≡ 4 * n) where
    pub at_row : (q j s : ℕ) → q < n → j < 16 → s ≡ 16 * q + j → get_or (corners middle xs) s z ≡ get_or (quad_row xs z q) j z
    at_row q j s h l e = ap (λ i. get_or (corners middle xs) i z) e ∙ row_at n xs z count q j h l

    -- the corners of new quad c: the value at c, the middle to the next corner, the centre, the middle from the previous corner
    pub at_corner : (c : ℕ) → c < 4 * n → get_or (corners middle xs) (4 * c) z ≡ get_or xs c z
    unfolding quad_row
    at_corner = by_quarters (λ c. c < 4 * n → get_or (corners middle xs) (4 * c) z ≡ get_or xs c z)
        (λ q h. at_row q 0 (4 * (4 * q)) (omega arith) (omega arith) (omega arith))
        (λ q h. at_row q 4 (4 * (4 * q + 1)) (omega arith) (omega arith) (omega arith))
        (λ q h. at_row q 8 (4 * (4 * q + 2)) (omega arith) (omega arith) (omega arith))
        (λ q h. at_row q 12 (4 * (4 * q + 3)) (omega arith) (omega arith) (omega arith))

    mid : (a b c d : ℕ) → a ≡ c → b ≡ d → middle (get_or xs a z) (get_or xs b z) ≡ middle (get_or xs c z) (get_or xs d z)
    mid a b c d e f = cc

    pub at_next : (c : ℕ) → c < 4 * n → get_or (corners middle xs) (4 * c + 1) z ≡ middle (get_or xs c z) (get_or xs (next c) z)
    unfolding quad_row next
    at_next = by_quarters (λ c. c < 4 * n → get_or (corners middle xs) (4 * c + 1) z ≡ middle (get_or xs c z) (get_or xs (next c) z))
        (λ q h. at_row q 1 (4 * (4 * q) + 1) (omega arith) (omega arith) (omega arith) ∙ mid _ _ (4 * q) (next (4 * q)) refl (omega arith))
        (λ q h. at_row q 5 (4 * (4 * q + 1) + 1) (omega arith) (omega arith) (omega arith) ∙ mid _ _ (4 * q + 1) (next (4 * q + 1)) refl (omega arith))
        (λ q h. at_row q 9 (4 * (4 * q + 2) + 1) (omega arith) (omega arith) (omega arith) ∙ mid _ _ (4 * q + 2) (next (4 * q + 2)) refl (omega arith))
        (λ q h. at_row q 13 (4 * (4 * q + 3) + 1) (omega arith) (omega arith) (omega arith) ∙ mid _ _ (4 * q + 3) (next (4 * q + 3)) refl (omega arith))

    pub at_previous : (c : ℕ) → c < 4 * n → get_or (corners middle xs) (4 * c + 3) z ≡ middle (get_or xs (previous c) z) (get_or xs c z)
    unfolding quad_row previous
    at_previous = by_quarters (λ c. c < 4 * n → get_or (corners middle xs) (4 * c + 3) z ≡ middle (get_or xs (previous c) z) (get_or xs c z))
        (λ q h. at_row q 3 (4 * (4 * q) + 3) (omega arith) (omega arith) (omega arith) ∙ mid _ _ (previous (4 * q)) (4 * q) (omega arith) refl)
        (λ q h. at_row q 7 (4 * (4 * q + 1) + 3) (omega arith) (omega arith) (omega arith) ∙ mid _ _ (previous (4 * q + 1)) (4 * q + 1) (omega arith) refl)
        (λ q h. at_row q 11 (4 * (4 * q + 2) + 3) (omega arith) (omega arith) (omega arith) ∙ mid _ _ (previous (4 * q + 2)) (4 * q + 2) (omega arith) refl)
        (λ q h. at_row q 15 (4 * (4 * q + 3) + 3) (omega arith) (omega arith) (omega arith) ∙ mid _ _ (previous (4 * q + 3)) (4 * q + 3) (omega arith) refl)

    pub at_centre : (c : ℕ) → c < 4 * n → get_or (corners middle xs) (4 * c + 2) z ≡ centre middle xs z (c / 4)
    unfolding quad_row centre
    at_centre = by_quarters (λ c. c < 4 * n → get_or (corners middle xs) (4 * c + 2) z ≡ centre middle xs z (c / 4))
        (λ q h. let e : q ≡ 4 * q / 4 = omega arith in at_row q 2 (4 * (4 * q) + 2) (omega arith) (omega arith) (omega arith) ∙ ap (centre middle xs z) e)
        (λ q h. let e : q ≡ (4 * q + 1) / 4 = omega arith in at_row q 6 (4 * (4 * q + 1) + 2) (omega arith) (omega arith) (omega arith) ∙ ap (centre middle xs z) e)
        (λ q h. let e : q ≡ (4 * q + 2) / 4 = omega arith in at_row q 10 (4 * (4 * q + 2) + 2) (omega arith) (omega arith) (omega arith) ∙ ap (centre middle xs z) e)
        (λ q h. let e : q ≡ (4 * q + 3) / 4 = omega arith in at_row q 14 (4 * (4 * q + 3) + 2) (omega arith) (omega arith) (omega arith) ∙ ap (centre middle xs z) e)

pub corners_are : {V : Type 0} (middle : V → V → V) → CornersAre middle
corners_are middle n xs count =
    record {
      is = record {
        as_many = corners_length middle n xs count;
        at_corner = λ c h z. at_corner middle n xs z count c h;
        to_next = λ c h z. at_next middle n xs z count c h;
        at_centre = λ c h z. at_centre middle n xs z count c h;
        from_previous = λ c h z. at_previous middle n xs z count c h;
      };
      only = λ ys k. same_lists ys (corners middle xs) (k.as_many ∙ sym (corners_length middle n xs count))
          (λ s z h. let l = k.as_many in
          by_quarters (λ s. s < 16 * n → get_or ys s z ≡ get_or (corners middle xs) s z)
          (λ c l. k.at_corner c (omega arith) z ∙ sym (at_corner middle n xs z count c (omega arith)))
          (λ c l. k.to_next c (omega arith) z ∙ sym (at_next middle n xs z count c (omega arith)))
          (λ c l. k.at_centre c (omega arith) z ∙ sym (at_centre middle n xs z count c (omega arith)))
          (λ c l. k.from_previous c (omega arith) z ∙ sym (at_previous middle n xs z count c (omega arith)))
          s (omega arith));
    }

-- one level on: the halves of an edge whose sides are alike are alike, and so is an edge made inside a quad
module _ {V : Type 0} (like : V → V → Type 0) (middle : V → V → V) (laws : Likeness like middle) (m : Mesh) (w : Lawful m) (xs : List V) (count : length xs ≡ 4 * m.quads) where
  read : (z : V) (s c : ℕ) (x : V) → s ≡ c → get_or (corners middle xs) c z ≡ x → get_or (corners middle xs) s z ≡ x
  read z s c x e h = ap (λ i. get_or (corners middle xs) i z) e ∙ h

  corner_value : (z : V) (s c : ℕ) → c < 4 * m.quads → s ≡ 4 * c → get_or (corners middle xs) s z ≡ get_or xs c z
  corner_value z s c h e = read z s (4 * c) _ e (at_corner middle m.quads xs z count c h)

  next_value : (z : V) (s c d : ℕ) → c < 4 * m.quads → s ≡ 4 * c + 1 → next c ≡ d → get_or (corners middle xs) s z ≡ middle (get_or xs c z) (get_or xs d z)
  next_value z s c d h e f = read z s (4 * c + 1) _ e (at_next middle m.quads xs z count c h) ∙ ap (λ i. middle (get_or xs c z) (get_or xs i z)) f

  previous_value : (z : V) (s c d : ℕ) → c < 4 * m.quads → s ≡ 4 * c + 3 → previous c ≡ d → get_or (corners middle xs) s z ≡ middle (get_or xs d z) (get_or xs c z)
  previous_value z s c d h e f = read z s (4 * c + 3) _ e (at_previous middle m.quads xs z count c h) ∙ ap (λ i. middle (get_or xs i z) (get_or xs c z)) f

  centre_value : (z : V) (s c : ℕ) → c < 4 * m.quads → s ≡ 4 * c + 2 → get_or (corners middle xs) s z ≡ centre middle xs z (c / 4)
  centre_value z s c h e = read z s (4 * c + 2) _ e (at_centre middle m.quads xs z count c h)

  -- what two values are, and that those are alike
  meet : (a b x y : V) → a ≡ x → b ≡ y → like x y → like a b
  meet a b x y e f h = rw (e, f) h

  -- the middles of two pairs that are alike crosswise
  crossed : (a b c d : V) → like a d → like b c → like (middle a b) (middle c d)
  crossed a b c d h k = laws.through _ _ _ (laws.middles a d b c h k) (laws.even d c)

  end_alike : (o : ℕ) → o < 2 * m.quads → Alike like m xs o → Alike like (refine m) (corners middle xs) (2 * ends o + 1)
  unfolding begins
  end_alike o h a =
      let g = friend m o in
      let l = w.sound.friends_are_edges o h in
      let f = friend_at_end m w (refine m) (refined m w) o h in
      let b = ends_below o m.quads h in
      record {
        at_end = λ z. meet _ _ _ _
            (corner_value z (ends (2 * ends o + 1)) (ends o) b (ends_odd (ends o)))
            (corner_value z (2 * friend (refine m) (2 * ends o + 1)) (2 * g) (omega arith) (omega arith))
            (a.at_end z);
        at_beginning = λ z. meet _ _ _ _
            (previous_value z (begins (2 * ends o + 1)) (ends o) (begins o) b (omega arith) (previous_ends o))
            (next_value z (2 * friend (refine m) (2 * ends o + 1) + 1) (2 * g) (2 * g + 1) (omega arith) (omega arith) (next_even g))
            (crossed _ _ _ _ (a.at_beginning z) (a.at_end z));
      }

  beginning_alike : (o : ℕ) → o < 2 * m.quads → Alike like m xs o → Alike like (refine m) (corners middle xs) (4 * friend m o + 3)
  unfolding begins
  beginning_alike o h a =
      let g = friend m o in
      let l = w.sound.friends_are_edges o h in
      let f = friend_back m w (refine m) (refined m w) o h in
      let t : 4 * friend m o + 3 ≡ 2 * (2 * friend m o + 1) + 1 = omega arith in
      let k : ends (4 * friend m o + 3) ≡ 4 * (2 * friend m o + 1) = ap ends t ∙ ends_odd (2 * friend m o + 1) in
      record {
        at_end = λ z. meet _ _ _ _
            (corner_value z (ends (4 * g + 3)) (2 * g + 1) (omega arith) k)
            (corner_value z (2 * friend (refine m) (4 * g + 3)) (begins o) (omega arith) (omega arith))
            (laws.back _ _ (a.at_beginning z));
        at_beginning = λ z. meet _ _ _ _
            (previous_value z (begins (4 * g + 3)) (2 * g + 1) (2 * g) (omega arith) (omega arith) (previous_odd g))
            (next_value z (2 * friend (refine m) (4 * g + 3) + 1) (begins o) (ends o) (omega arith) (omega arith) (next_begins o))
            (crossed _ _ _ _ (laws.back _ _ (a.at_end z)) (laws.back _ _ (a.at_beginning z)));
      }

  pub inside_alike : (c : ℕ) → c < 4 * m.quads → Alike like (refine m) (corners middle xs) (2 * c)
  unfolding begins next
  inside_alike c h =
      let f : friend (refine m) (2 * c) ≡ 2 * next c + 1 = friend_inside m w (refine m) (refined m w) c h in
      let b = next_below c m.quads h in
      record {
        at_end = λ z. meet _ _ _ _
            (centre_value z (ends (2 * c)) c h (ends_even c) ∙ ap (centre middle xs z) (sym (next_quad c)))
            (centre_value z (2 * friend (refine m) (2 * c)) (next c) b (omega arith))
            (laws.itself _);
        at_beginning = λ z. meet _ _ _ _
            (next_value z (begins (2 * c)) c (next c) h (omega arith) refl)
            (previous_value z (2 * friend (refine m) (2 * c) + 1) (next c) c b (omega arith) (previous_next c))
            (laws.itself _);
      }

  pub halves_alike : (os : List ℕ) → AllByRecursion (λ o. (o < 2 * m.quads) × Alike like m xs o) os →
      AllByRecursion (λ o. (o < 2 * (refine m).quads) × Alike like (refine m) (corners middle xs) o) (halves m os)
  unfolding halves
  halves_alike [] h = tt
  halves_alike (o ∷ os) h =
      let q = (refined m w).quads_are in
      let l = h.0.0 in
      let g = w.sound.friends_are_edges o l in
      let b = ends_below o m.quads l in
      ((omega arith, end_alike o l h.0.1), ((omega arith, beginning_alike o l h.0.1), halves_alike os h.1))

-- every level on
module _ {V : Type 0} (middle : V → V → V) (m : Mesh) (w : Lawful m) where
  carried_on : (xs : List V) (a i : ℕ) → corners_carried middle (corners_carried middle xs a) i ≡ corners_carried middle xs (a + i)
  unfolding corners_carried
  carried_on xs a zero = let e : a ≡ a + 0 = omega arith in ap (corners_carried middle xs) e
  carried_on xs a (suc i) = let e : suc (a + i) ≡ a + suc i = omega arith in ap (corners middle) (carried_on xs a i) ∙ ap (corners_carried middle xs) e

  many : (j : ℕ) (xs : List V) → length xs ≡ 4 * (level m j).quads → (i : ℕ) → 4 ^ (j + i) * m.quads ≤ most_quads → length (corners_carried middle xs i) ≡ 4 * (level m (j + i)).quads
  unfolding corners_carried level
  many j xs count zero h = let e : j ≡ j + 0 = omega arith in count ∙ ap (λ k. 4 * (level m k).quads) e
  many j xs count (suc i) h =
      let e : j + suc i ≡ suc (j + i) = omega arith in
      let s = earlier m (j + i) (rw e at h) in
      let q = (refined (level m (j + i)) (lawful_at m w (j + i) s)).quads_are in
      let l = corners_length middle (level m (j + i)).quads (corners_carried middle xs i) (many j xs count i s) in
      rw e (omega arith)

  module _ (like : V → V → Type 0) (laws : Likeness like middle) where
    module _ (j : ℕ) (xs : List V) (count : length xs ≡ 4 * (level m j).quads) where
      alike : (o : ℕ) → o < 2 * (level m j).quads → Alike like (level m j) xs o → (i : ℕ) → 4 ^ (j + i) * m.quads ≤ most_quads →
          AllByRecursion (λ p. (p < 2 * (level m (j + i)).quads) × Alike like (level m (j + i)) (corners_carried middle xs i) p) (pieces m j o i)
      unfolding corners_carried level pieces
      alike o h a zero s = let e : j + 0 ≡ j = omega arith in rw e ((h, a), tt)
      alike o h a (suc i) s =
          let e : j + suc i ≡ suc (j + i) = omega arith in
          let t = earlier m (j + i) (rw e at s) in
          rw e (halves_alike like middle laws (level m (j + i)) (lawful_at m w (j + i) t) (corners_carried middle xs i) (many j xs count i t) (pieces m j o i) (alike o h a i t))

      first_alike : (o : ℕ) → o < 2 * (level m j).quads → Alike like (level m j) xs o → (i : ℕ) → 4 ^ (j + i) * m.quads ≤ most_quads →
          AllByRecursion (Alike like (level m (j + i)) (corners_carried middle xs i)) (pieces m j o i)
      first_alike o h a i s = All-weaker _ _ (λ p g. g.1) _ (alike o h a i s)

    pieces_alike : (j : ℕ) (xs : List V) (count : length xs ≡ 4 * (level m j).quads) (k o : ℕ) → o < 2 * (level m (j + k)).quads → Alike like (level m (j + k)) (corners_carried middle xs k) o →
        (i : ℕ) → 4 ^ (j + k + i) * m.quads ≤ most_quads → AllByRecursion (Alike like (level m (j + k + i)) (corners_carried middle xs (k + i))) (pieces m (j + k) o i)
    pieces_alike j xs count k o h a i s =
        rw (carried_on xs k i) at (first_alike (j + k) (corners_carried middle xs k) (many j xs count k (earlier_by m (j + k) i s)) o h a i s)

    insides_alike : (j : ℕ) (xs : List V) (count : length xs ≡ 4 * (level m j).quads) (k c : ℕ) → 2 * c < 2 * (level m (j + suc k)).quads → (i : ℕ) → 4 ^ (j + suc k + i) * m.quads ≤ most_quads →
        AllByRecursion (Alike like (level m (j + suc k + i)) (corners_carried middle xs (suc k + i))) (pieces m (j + suc k) (2 * c) i)
    unfolding corners_carried level
    insides_alike j xs count k c h i s =
        let t = earlier_by m (j + suc k) i s in
        let e : j + suc k ≡ suc (j + k) = omega arith in
        let u = earlier m (j + k) (rw e at t) in
        let q = (refined (level m (j + k)) (lawful_at m w (j + k) u)).quads_are in
        let z : (level m (j + suc k)).quads ≡ 4 * (level m (j + k)).quads = rw e q in
        let b : c < 4 * (level m (j + k)).quads = omega arith in
        let a : Alike like (level m (j + suc k)) (corners_carried middle xs (suc k)) (2 * c) =
        rw e (inside_alike like middle laws (level m (j + k)) (lawful_at m w (j + k) u) (corners_carried middle xs k) (many j xs count k u) c b) in
        pieces_alike j xs count (suc k) (2 * c) h a i s

pub seams_stay : {V : Type 0} (like : V → V → Type 0) (middle : V → V → V) → Likeness like middle → (m : Mesh) → Lawful m → SeamsStay like middle m (Allowed m)
seams_stay like middle laws m w j xs count = record {
  as_many = many middle m w j xs count;
  pieces_meet = pieces_alike middle m w like laws j xs count;
  insides_meet = insides_alike middle m w like laws j xs count;
}

-- equality is a likeness
pub equals : {V : Type 0} (middle : V → V → V) → ((a b : V) → middle a b ≡ middle b a) → Likeness ◌≡◌ middle
equals middle even = record {
  itself = λ a. refl;
  back = λ a b e. sym e;
  through = λ a b c e f. e ∙ f;
  middles = λ a b c d e f. λ i. middle (e i) (f i);
  even = even;
}

pub seams_still_meet : {V : Type 0} (middle : V → V → V) → ((a b : V) → middle a b ≡ middle b a) → SeamsStillMeet middle
seams_still_meet middle even = seams_stay ◌≡◌ middle (equals middle even)

-- what holds up to each of some levels holds up to each of fewer
pub seams_nearer : {V : Type 0} (like : V → V → Type 0) (middle : V → V → V) (m : Mesh) (Far Near : ℕ → Type 0) → ((k : ℕ) → Near k → Far k) → SeamsStay like middle m Far → SeamsStay like middle m Near
seams_nearer like middle m Far Near h f j xs count =
    let r = f j xs count in
    record {
      as_many = λ i n. r.as_many i (h _ n);
      pieces_meet = λ k o l a i n. r.pieces_meet k o l a i (h _ n);
      insides_meet = λ k c l i n. r.insides_meet k c l i (h _ n);
    }
