-- Values on points: the parts of each new value, and the values of a refined level.
-- A part here is a point of the mesh, by its slot in the list of old values, with a whole weight.
use Rattle.std.specs.Prelude.{◌≡◌, ℕ, zero, suc, ◌+◌, ◌-◌, ◌*◌, ◌/◌, ◌%◌, ◌<◌, min, Bool, false, cond, ◌||◌, ltb, List, [], ◌∷◌, ◌++◌, map, length, sum, filter, ◌==◌, nat_eq, nat_lt, slice_index_or}
use Rattle.std.specs.List.{range_with_len, flat_map}
use Rattle.mesh.specs.Count.{least}
use Rattle.mesh.specs.Marks.{infinite}
use Rattle.mesh.specs.Mesh.{Mesh, point, friend, mark, off_edge, begins, ends, other_end, diagonal, walk, valence}
use Rattle.refinement.specs.Tasks.{level, old_slot, face_slot, edge_slot}
use Rattle.kinds.specs.Parts.{taken}

-- ---- face point of quad q: its four corners
unfoldable pub face : Mesh → ℕ → List (ℕ × ℕ)
face m q = (point m (4 * q), 1) ∷ (point m (4 * q + 1), 1) ∷ (point m (4 * q + 2), 1) ∷ (point m (4 * q + 3), 1) ∷ []

-- ---- edge point of off-edge o
-- the other two corners of its quad, by number
unfoldable pub low_across : ℕ → ℕ
low_across o = 4 * (o / 2) + o % 2

unfoldable pub high_across : ℕ → ℕ
high_across o = 4 * (o / 2) + (3 - o % 2)

-- its beginning and end, the other two corners of its quad, and the two across its friend; a is the mark, at most 256
unfoldable pub edge : Mesh → ℕ → List (ℕ × ℕ)
edge m o =
    let a = min (mark m o) 256 in
    let g = friend m o in
    (point m (begins o), 6 * (256 - a) + 8 * a) ∷ (point m (ends o), 6 * (256 - a) + 8 * a)
    ∷ (point m (low_across o), 256 - a) ∷ (point m (high_across o), 256 - a)
    ∷ (point m (other_end (2 * g)), 256 - a) ∷ (point m (other_end (2 * g + 1)), 256 - a) ∷ []

-- ---- moved point v
-- the corners at v, as the walk meets them, and those of them whose off-edge is marked
unfoldable pub around : Mesh → ℕ → List ℕ
around m v = map (walk m v) (range_with_len 0 (valence m v))

unfoldable pub marked : Mesh → ℕ → List ℕ
marked m v = filter (λ c. ltb 0 (mark m (off_edge c))) (around m v)

-- itself with n(4n - 7), n being the valence; then for each corner along the walk the other end of its off-edge with 6 and the corner opposite with 1
unfoldable pub smooth : Mesh → ℕ → List (ℕ × ℕ)
smooth m v =
    let n = valence m v in
    (v, n * (4 * n - 7)) ∷ flat_map (λ c. (point m (other_end c), 6) ∷ (point m (diagonal c), 1) ∷ []) (around m v)

-- which is 4n² in all
abbrev pub smooth_weight : Mesh → ℕ → ℕ
smooth_weight m v = 4 * (valence m v * valence m v)

-- one of some mark words is that of an infinite mark
abbrev pub some_infinite : List ℕ → Bool
some_infinite [] = false
some_infinite (w ∷ ws) = w == infinite || some_infinite ws

-- the sum of the marks met, at most 256 for each of them, and 256 for each if one is infinite
unfoldable pub sharpness : Mesh → ℕ → ℕ
sharpness m v =
    let most = 256 * length (marked m v) in
    let marks = map (λ c. mark m (off_edge c)) (marked m v) in
    cond (some_infinite marks) most (min (sum marks) most)

-- every weight multiplied by k
abbrev pub times : ℕ → List (ℕ × ℕ) → List (ℕ × ℕ)
times k ps = map (λ p. (p.0, k * p.1)) ps

-- at two marked off-edges, a crease: the smooth parts, then the point, then the other ends of the two
unfoldable pub creased : Mesh → ℕ → List (ℕ × ℕ)
creased m v =
    let s = sharpness m v in
    let w = smooth_weight m v in
    times (8 * (512 - s)) (smooth m v) ++ (v, 6 * (w * s)) ∷ map (λ c. (point m (other_end c), w * s)) (marked m v)

-- at more, a corner: the smooth parts, then the point
unfoldable pub cornered : Mesh → ℕ → List (ℕ × ℕ)
cornered m v =
    let s = sharpness m v in
    times (256 * length (marked m v) - s) (smooth m v) ++ (v, smooth_weight m v * s) ∷ []

-- below two, the smooth parts alone
unfoldable pub moved : Mesh → ℕ → List (ℕ × ℕ)
moved m v = cond (nat_lt (length (marked m v)) 2) (smooth m v) (cond (length (marked m v) == 2) (creased m v) (cornered m v))

-- ---- the values of the refined level
-- the values at the slots that the parts name, in a list of values; d would stand for a value past its end
abbrev pub values_at : {V : Type 0} → V → List V → List (ℕ × ℕ) → List (V × ℕ)
values_at d xs ps = map (λ p. (slice_index_or xs p.0 d, p.1)) ps

-- ys are the values of the refined level, from the values xs of m: at the slot of each old point, quad and edge stands the blend of its
-- moved point, face point or edge point
pub record Blends {V : Type 0} (blended : List (V × ℕ) → V) (m : Mesh) (xs ys : List V) : Type 0 where
  pub as_many : length ys ≡ m.points + 3 * m.quads
  pub at_old : (v : ℕ) → v < m.points → (d : V) → slice_index_or ys (old_slot m v) d ≡ blended (values_at d xs (taken (moved m v)))
  pub at_face : (q : ℕ) → q < m.quads → (d : V) → slice_index_or ys (face_slot q) d ≡ blended (values_at d xs (taken (face m q)))
  pub at_edge : (o : ℕ) → o < 2 * m.quads → (d : V) → slice_index_or ys (edge_slot (friend m o)) d ≡ blended (values_at d xs (taken (edge m o)))

-- the off-edge whose friend is edge g; a lawful mesh has one
unfoldable pub served : Mesh → ℕ → ℕ
served m g = least (λ o. nat_eq (friend m o) g) (2 * m.quads)

-- the parts of the value at a new slot: slots 4q to 4q+3 are those of point q, of the face point of quad q and of the points of edges 2q and 2q+1,
-- and the slots after these are those of the points past them
unfoldable pub parts : Mesh → ℕ → List (ℕ × ℕ)
parts m s =
    let q = s / 4 in
    cond (nat_lt s (4 * m.quads))
    (slice_index_or (moved m q ∷ face m q ∷ edge m (served m (2 * q)) ∷ edge m (served m (2 * q + 1)) ∷ []) (s % 4) [])
    (moved m (s - 3 * m.quads))

-- a blend for each slot; in a lawful mesh with a value for each point, no part is read past the end
unfoldable pub values : {V : Type 0} → (List (V × ℕ) → V) → Mesh → List V → List V
values blended m xs = map (λ s. blended (values_at (blended []) xs (taken (parts m s)))) (range_with_len 0 (m.points + 3 * m.quads))

-- the values of level j + i of m, carried from the list xs for level j
unfoldable pub carried : {V : Type 0} → (List (V × ℕ) → V) → Mesh → ℕ → List V → ℕ → List V
carried blended m j xs zero = xs
carried blended m j xs (suc i) = values blended (level m (j + i)) (carried blended m j xs i)
