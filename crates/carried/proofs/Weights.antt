-- The weights of parts, and which slots they name.
use Rattle.std.proofs.Common.{◌≡◌, ℕ, zero, suc, ◌+◌, ◌-◌, ◌*◌, ◌/◌, ◌%◌, ◌<◌, ◌≤◌, min, Bool, eqb, ltb, List, [], ◌∷◌, map, length, get_or, sym, refl, ap, ◌∙◌, inl, inr, mul_assoc, mul_comm, add-mul, mul-le-mul, mul-add, arith}
use Rattle.std.specs.List.{range_with_len, flat_map, AllByRecursion}
use Rattle.std.proofs.lemmas.List.FromFn.{length-map-range_with_len}
use Rattle.std.proofs.lemmas.List.Sums.{length-filter, count_by-le-length}
use Rattle.std.proofs.ByRecursion.{All-append, All-map, all_kept_by, All-weaker}
use Rattle.std.proofs.lemmas.Bool.{cases_eq, cases_lt, cases_order, cond-true, cond-false, cond_both, eq-eqb, ne_eqb, lt-ltb, le-ltb, le-leb, lt-leb}
use Rattle.mesh.specs.Mesh.{Mesh, Lawful, point, friend, mark, off_edge, begins, ends, walk, valence, longest, shortest, other_end, diagonal}
use Rattle.refinement.specs.Tasks.{old_slot, face_slot, edge_slot}
use Rattle.refinement.proofs.Totals.{least_is}
use Rattle.refinement.proofs.Numbers.{by_halves}
use Rattle.refinement.proofs.Slots.{by_slots}
use Rattle.refinement.proofs.Corners.{friend_once, friend_met}
use Rattle.refinement.proofs.Walks.{walk_below}
use Rattle.kinds.specs.Parts.{most_weight, taken, total}
use Rattle.kinds.proofs.Parts.{total_append, total_taken}
use Rattle.carried.specs.Blends.{face, low_across, high_across, edge, around, marked, smooth, sharpness, some_infinite, creased, cornered, moved, served, parts, times}
use Rattle.carried.specs.Laws.{Fit, PartsFit}

-- ---- lists of parts
module _ {V : Type 0} where
  left_over : (ps : List (V × ℕ)) → 0 < total ps → 0 < length ps
  left_over [] h = absurd (omega arith)
  left_over (p ∷ ps) h = omega arith

  pub total_map : {X : Type 0} (f : X → V) (k : ℕ) (xs : List X) → total (map (λ x. (f x, k)) xs) ≡ length xs * k
  total_map f k [] = omega arith
  total_map f k (x ∷ xs) = let r = total_map f k xs in let d = add-mul 1 (length xs) k in omega arith

pub total_times : (k : ℕ) (ps : List (ℕ × ℕ)) → total (times k ps) ≡ k * total ps
total_times k [] = omega arith
total_times k (p ∷ ps) = let r = total_times k ps in let d = mul-add k p.1 (total ps) in omega arith

-- ---- sums of weights
pub product_le : (a b c d : ℕ) → a ≤ c → b ≤ d → a * b ≤ c * d
product_le a b c d h k = mul-le-mul h k

pub smooth_sum : (n : ℕ) → 2 ≤ n → n * (4 * n - 7) + 7 * n ≡ 4 * (n * n)
smooth_sum n h =
    let e : 4 * n - 7 + 7 ≡ 4 * n = omega arith in
    let d = mul-add n (4 * n - 7) 7 in
    let f : n * (4 * n - 7 + 7) ≡ n * (4 * n) = ap (λ x. n * x) e in
    omega arith

pub crease_sum : (x s : ℕ) → s ≤ 512 → 8 * (512 - s) * x + (6 * (x * s) + 2 * (x * s)) ≡ x * 4096
crease_sum x s h =
    let e : 512 - s + s ≡ 512 = omega arith in
    let d = mul-add x (512 - s) s in
    let f : x * (512 - s + s) ≡ x * 512 = ap (λ y. x * y) e in
    let a = mul_assoc 8 (512 - s) x in
    let c = mul_comm (512 - s) x in
    omega arith

pub corner_sum : (x s k : ℕ) → s ≤ k → (k - s) * x + (x * s + 0) ≡ x * k
corner_sum x s k h =
    let e : k - s + s ≡ k = omega arith in
    let d = mul-add x (k - s) s in
    let f : x * (k - s + s) ≡ x * k = ap (λ y. x * y) e in
    let c = mul_comm (k - s) x in
    omega arith

edge_sum : (a : ℕ) → a ≤ 256 → (6 * (256 - a) + 8 * a) + ((6 * (256 - a) + 8 * a) + ((256 - a) + ((256 - a) + ((256 - a) + ((256 - a) + 0))))) ≡ 4096
edge_sum a h = omega arith

-- ---- corners
other_end_below : (c n : ℕ) → c < 4 * n → other_end c < 4 * n
unfolding other_end
other_end_below c n h = omega arith

diagonal_below : (c n : ℕ) → c < 4 * n → diagonal c < 4 * n
unfolding diagonal
diagonal_below c n h = omega arith

low_below : (o n : ℕ) → o < 2 * n → low_across o < 4 * n
unfolding low_across
low_below o n h = omega arith

high_below : (o n : ℕ) → o < 2 * n → high_across o < 4 * n
unfolding high_across
high_below o n h = omega arith

ends_below : (o n : ℕ) → o < 2 * n → ends o < 4 * n
unfolding ends
ends_below o n h = omega arith

pub total_round : (m : Mesh) (cs : List ℕ) → total (flat_map (λ c. (point m (other_end c), 6) ∷ (point m (diagonal c), 1) ∷ []) cs) ≡ 7 * length cs
total_round m [] = omega arith
total_round m (c ∷ cs) = let r = total_round m cs in omega arith

pub all_counting : {X : Type 0} (P : X → Type 0) (f : ℕ → X) (a n : ℕ) → ((s : ℕ) → s < a + n → P (f s)) → AllByRecursion P (map f (range_with_len a n))
all_counting P f a zero h = tt
all_counting P f a (suc n) h = (h a (omega arith), all_counting P f (a + 1) n (λ s l. h s (omega arith)))

min_at_most : (a b : ℕ) → min a b ≤ b
min_at_most a b = omega arith

module _ (m : Mesh) (v : ℕ) where
  pub around_length : length (around m v) ≡ valence m v
  unfolding around
  around_length = length-map-range_with_len (walk m v) 0 (valence m v)

  pub sharp_most : sharpness m v ≤ 256 * length (marked m v)
  unfolding sharpness
  sharp_most = cond_both (some_infinite (map (λ c. mark m (off_edge c)) (marked m v))) _ _ (λ s. s ≤ 256 * length (marked m v)) (λ e. omega arith) (λ e. min_at_most _ _)

  pub marked_few : length (marked m v) ≤ valence m v
  unfolding marked
  marked_few =
      let p : ℕ → Bool = λ c. ltb 0 (mark m (off_edge c)) in
      let a = length-filter p (around m v) in
      let b = count_by-le-length p (around m v) in
      let c = around_length in
      omega arith

  module _ (two : shortest ≤ valence m v) where
    pub smooth_total : total (smooth m v) ≡ 4 * (valence m v * valence m v)
    unfolding smooth
    smooth_total =
        let a = total_round m (around m v) in
        let b = around_length in
        let c = smooth_sum (valence m v) two in
        omega arith

    creased_total : length (marked m v) ≡ 2 → total (creased m v) ≡ 4 * (valence m v * valence m v) * 4096
    unfolding creased
    creased_total h =
        let x : ℕ = 4 * (valence m v * valence m v) in
        let s = sharpness m v in
        let most = sharp_most in
        total_append (times (8 * (512 - s)) (smooth m v)) _
        ∙ (λ i. total_times (8 * (512 - s)) (smooth m v) i + (6 * (x * s) + total_map (λ c. point m (other_end c)) (x * s) (marked m v) i))
        ∙ (λ i. 8 * (512 - s) * smooth_total i + (6 * (x * s) + h i * (x * s)))
        ∙ crease_sum x s (omega arith)

    cornered_total : total (cornered m v) ≡ 4 * (valence m v * valence m v) * (256 * length (marked m v))
    unfolding cornered
    cornered_total =
        let x : ℕ = 4 * (valence m v * valence m v) in
        let s = sharpness m v in
        let k : ℕ = 256 * length (marked m v) in
        total_append (times (k - s) (smooth m v)) _
        ∙ (λ i. total_times (k - s) (smooth m v) i + (x * s + 0))
        ∙ (λ i. (k - s) * smooth_total i + (x * s + 0))
        ∙ corner_sum x s k sharp_most

    pub moved_smooth : length (marked m v) < 2 → moved m v ≡ smooth m v
    unfolding moved
    moved_smooth h = cond-true _ _ _ (lt-ltb (length (marked m v)) 2 h)

    pub moved_creased : length (marked m v) ≡ 2 → moved m v ≡ creased m v
    unfolding moved
    moved_creased h = cond-false _ _ _ (le-ltb (length (marked m v)) 2 (omega arith)) ∙ cond-true _ _ _ (eq-eqb (length (marked m v)) 2 h)

    pub moved_cornered : 2 < length (marked m v) → moved m v ≡ cornered m v
    unfolding moved
    moved_cornered h = cond-false _ _ _ (le-ltb (length (marked m v)) 2 (omega arith)) ∙ cond-false _ _ _ (ne_eqb (length (marked m v)) 2 (λ e. omega arith))

    -- what holds of each of the three kinds holds of a moved point
    by_marks : (P : List (ℕ × ℕ) → Type 0) → (length (marked m v) < 2 → P (smooth m v)) → (length (marked m v) ≡ 2 → P (creased m v)) → (2 < length (marked m v) → P (cornered m v)) → P (moved m v)
    by_marks P a b c = elim (cases_order (length (marked m v)) 2) [
      | inl e ↦ rw (moved_creased e) (b e)
      | inr o ↦ elim o [
        | inl l ↦ rw (moved_smooth l) (a l)
        | inr l ↦ rw (moved_cornered l) (c l)
      ]
    ]

    module _ (most : valence m v ≤ longest) where
      squares_low : 16 ≤ 4 * (valence m v * valence m v)
      squares_low = let a : 2 * 2 ≤ valence m v * valence m v = mul-le-mul two two in omega arith

      pub squares_high : 4 * (valence m v * valence m v) ≤ 4 * (longest * longest)
      squares_high = let a : valence m v * valence m v ≤ longest * longest = mul-le-mul most most in omega arith

      moved_some : 0 < total (moved m v)
      moved_some =
          let low = squares_low in
          by_marks (λ ps. 0 < total ps)
          (λ h. let e = smooth_total in omega arith)
          (λ h. let e = creased_total h in omega arith)
          (λ h. let e = cornered_total in
          let p = product_le 1 1 (4 * (valence m v * valence m v)) (256 * length (marked m v)) (omega arith) (omega arith) in omega arith)

      moved_most : total (moved m v) ≤ most_weight
      moved_most =
          let high = squares_high in
          by_marks (λ ps. total ps ≤ most_weight)
          (λ h. let e = smooth_total in omega arith)
          (λ h. let e = creased_total h in omega arith)
          (λ h. let e = cornered_total in
          let few = marked_few in
          let p = product_le (4 * (valence m v * valence m v)) (256 * length (marked m v)) (4 * (longest * longest)) (256 * longest) high (omega arith) in omega arith)

-- ---- every part names a point
abbrev Named : Mesh → ℕ × ℕ → Type 0
Named m p = p.0 < m.points

module _ (m : Mesh) (w : Lawful m) where
  on : (c : ℕ) → c < 4 * m.quads → point m c < m.points
  on = w.sound.corners_have_points

  face_names : (q : ℕ) → q < m.quads → AllByRecursion (Named m) (face m q)
  unfolding face
  face_names q h = (on (4 * q) (omega arith), (on (4 * q + 1) (omega arith), (on (4 * q + 2) (omega arith), (on (4 * q + 3) (omega arith), tt))))

  edge_names : (o : ℕ) → o < 2 * m.quads → AllByRecursion (Named m) (edge m o)
  unfolding edge begins
  edge_names o h =
      let F = m.quads in
      let g = w.sound.friends_are_edges o h in (
        on (begins o) (omega arith),
        (
          on (ends o) (ends_below o F h),
          (
            on (low_across o) (low_below o F h),
            (
              on (high_across o) (high_below o F h),
              (on (other_end (2 * friend m o)) (other_end_below (2 * friend m o) F (omega arith)), (on (other_end (2 * friend m o + 1)) (other_end_below (2 * friend m o + 1) F (omega arith)), tt)),
            ),
          ),
        ),
      )

  module _ (v : ℕ) (h : v < m.points) where
    around_below : AllByRecursion (λ c. c < 4 * m.quads) (around m v)
    unfolding around
    around_below = all_counting (λ c. c < 4 * m.quads) (walk m v) 0 (valence m v) (λ i l. walk_below m w.sound v i h)

    round_names : (cs : List ℕ) → AllByRecursion (λ c. c < 4 * m.quads) cs → AllByRecursion (Named m) (flat_map (λ c. (point m (other_end c), 6) ∷ (point m (diagonal c), 1) ∷ []) cs)
    round_names [] k = tt
    round_names (c ∷ cs) k = (on (other_end c) (other_end_below c m.quads k.0), (on (diagonal c) (diagonal_below c m.quads k.0), round_names cs k.1))

    smooth_names : AllByRecursion (Named m) (smooth m v)
    unfolding smooth
    smooth_names = (h, round_names (around m v) around_below)

    marked_below : AllByRecursion (λ c. c < 4 * m.quads) (marked m v)
    unfolding marked
    marked_below = all_kept_by (λ c. ltb 0 (mark m (off_edge c))) (λ c. c < 4 * m.quads) (around m v) around_below

    times_names : (k : ℕ) → AllByRecursion (Named m) (times k (smooth m v))
    times_names k = All-map (Named m) (λ p. (p.0, k * p.1)) (smooth m v) smooth_names

    creased_names : AllByRecursion (Named m) (creased m v)
    unfolding creased
    creased_names =
        All-append (Named m) (times (8 * (512 - sharpness m v)) (smooth m v)) _ (times_names (8 * (512 - sharpness m v))) (
          h,
          All-map (Named m) (λ c. (point m (other_end c), 4 * (valence m v * valence m v) * sharpness m v)) (marked m v)
              (All-weaker _ _ (λ c l. on (other_end c) (other_end_below c m.quads l)) (marked m v) marked_below),
        )

    cornered_names : AllByRecursion (Named m) (cornered m v)
    unfolding cornered
    cornered_names =
        All-append (Named m) (times (256 * length (marked m v) - sharpness m v) (smooth m v)) _ (times_names (256 * length (marked m v) - sharpness m v)) (h, tt)

    moved_names : AllByRecursion (Named m) (moved m v)
    moved_names = by_marks m v (w.sound.walks_not_short v h) (AllByRecursion (Named m)) (λ l. smooth_names) (λ l. creased_names) (λ l. cornered_names)

  -- ---- the parts of each kind fit
  fits : (ps : List (ℕ × ℕ)) → AllByRecursion (Named m) ps → 0 < total ps → total ps ≤ most_weight → Fit m ps
  fits ps a b c =
      let e = total_taken ps in
      record { name_points = a; some_left = left_over (taken ps) (omega arith); some_weight = omega arith; few = omega arith }

  face_total : (q : ℕ) → total (face m q) ≡ 4
  unfolding face
  face_total q = refl

  edge_total : (o : ℕ) → total (edge m o) ≡ 4096
  unfolding edge
  edge_total o = edge_sum (min (mark m o) 256) (min_at_most _ _)

  pub fit_face : (q : ℕ) → q < m.quads → Fit m (face m q)
  fit_face q h = let e = face_total q in fits (face m q) (face_names q h) (omega arith) (omega arith)

  pub fit_edge : (o : ℕ) → o < 2 * m.quads → Fit m (edge m o)
  fit_edge o h = let e = edge_total o in fits (edge m o) (edge_names o h) (omega arith) (omega arith)

  pub fit_moved : (v : ℕ) → v < m.points → Fit m (moved m v)
  fit_moved v h =
      let two = w.sound.walks_not_short v h in
      let most = w.sound.walks_return v h in
      fits (moved m v) (moved_names v h) (moved_some m v two most) (moved_most m v two most)

  -- ---- slots
  served_friend : (o : ℕ) → o < 2 * m.quads → served m (friend m o) ≡ o
  unfolding served
  served_friend o h =
      least_is (λ p. eqb (friend m p) (friend m o)) (2 * m.quads) o h (eq-eqb _ _ refl)
      (λ i l. ne_eqb _ _ (λ e. let s = friend_once m w i o (omega arith) h e in omega arith))

  -- the row of four slots of a quad, and the slots past them
  low_parts : (q j s : ℕ) → q < m.quads → j < 4 → s ≡ 4 * q + j →
      parts m s ≡ get_or (moved m q ∷ face m q ∷ edge m (served m (2 * q)) ∷ edge m (served m (2 * q + 1)) ∷ []) j []
  unfolding parts
  low_parts q j s h l e =
      let d : s / 4 ≡ q = omega arith in
      let r : s % 4 ≡ j = omega arith in
      cond-true _ _ _ (lt-ltb s (4 * m.quads) (omega arith)) ∙ rw (d, r)

  high_parts : (v s : ℕ) → m.quads ≤ v → s ≡ 3 * m.quads + v → parts m s ≡ moved m v
  unfolding parts
  high_parts v s h e =
      let d : s - 3 * m.quads ≡ v = omega arith in
      cond-false _ _ _ (le-ltb s (4 * m.quads) (omega arith)) ∙ rw d

  pub old_parts : (v : ℕ) → parts m (old_slot m v) ≡ moved m v
  unfolding old_slot
  old_parts v = elim (cases_lt v m.quads) [
    | inl l ↦ low_parts v 0 (old_slot m v) l (omega arith) (cond-true _ _ _ (le-leb v m.quads (omega arith)) ∙ omega arith)
    | inr l ↦ high_parts v (old_slot m v) l (elim (cases_eq v m.quads) [
      | inl e ↦ cond-true _ _ _ (le-leb v m.quads (omega arith)) ∙ omega arith
      | inr e ↦ cond-false _ _ _ (lt-leb v m.quads (omega arith))
    ])
  ]

  pub face_parts : (q : ℕ) → q < m.quads → parts m (face_slot q) ≡ face m q
  unfolding face_slot
  face_parts q h = low_parts q 1 (face_slot q) h (omega arith) refl

  edge_slot_parts : (g : ℕ) → g < 2 * m.quads → parts m (edge_slot g) ≡ edge m (served m g)
  unfolding edge_slot
  edge_slot_parts = by_halves (λ g. g < 2 * m.quads → parts m (edge_slot g) ≡ edge m (served m g))
      (λ q h. low_parts q 2 (edge_slot (2 * q)) (omega arith) (omega arith) (omega arith))
      (λ q h. low_parts q 3 (edge_slot (2 * q + 1)) (omega arith) (omega arith) (omega arith))

  pub edge_parts : (o : ℕ) → o < 2 * m.quads → parts m (edge_slot (friend m o)) ≡ edge m o
  edge_parts o h = edge_slot_parts (friend m o) (w.sound.friends_are_edges o h) ∙ ap (edge m) (served_friend o h)

  pub fit_at : (s : ℕ) → s < m.points + 3 * m.quads → Fit m (parts m s)
  fit_at = by_slots m w.sound.points_enough (λ s. Fit m (parts m s))
      (λ v h. rw (old_parts v) (fit_moved v h))
      (λ q h. rw (face_parts q h) (fit_face q h))
      (λ g h. let o = friend_met m w g h in let e : parts m (edge_slot g) ≡ edge m o.0 = ap (λ x. parts m (edge_slot x)) (sym o.2) ∙ edge_parts o.0 o.1 in rw e (fit_edge o.0 o.1))

pub parts_fit : PartsFit
parts_fit m w =
    record {
      at_face = λ q h. face_total m w q;
      at_edge = λ o h. edge_total m w o;
      at_smooth = λ v h l. ap total (moved_smooth m v (two v h) l) ∙ smooth_total m v (two v h);
      at_crease = λ v h l. ap total (moved_creased m v (two v h) l) ∙ creased_total m v (two v h) l;
      at_corner = λ v h l. ap total (moved_cornered m v (two v h) l) ∙ cornered_total m v (two v h);
      fit = fit_at m w;
    }
  where
    two : (v : ℕ) → v < m.points → shortest ≤ valence m v
    two = w.sound.walks_not_short
