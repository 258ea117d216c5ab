-- Values on corners, and the seams between them.
use Rattle.std.specs.Prelude.{◌≡◌, ℕ, zero, suc, ◌+◌, ◌*◌, ◌/◌, ◌%◌, ◌<◌, List, [], ◌∷◌, ◌++◌, length, slice_index_or}
use Rattle.mesh.specs.Mesh.{Mesh, friend, begins, ends}
use Rattle.refinement.specs.Tasks.{halves, level}
use Rattle.refinement.proofs.Level.{next}

-- the values of the four new quads of a quad with the values a, b, c, d: each has an old value, the middle to the next corner,
-- the centre, and the middle from the previous corner
abbrev pub new_quads : {V : Type 0} → (V → V → V) → V → V → V → V → List V
new_quads middle a b c d =
    let ab = middle a b in
    let bc = middle b c in
    let cd = middle c d in
    let da = middle d a in
    let centre = middle ab cd in
    a ∷ ab ∷ centre ∷ da ∷ b ∷ bc ∷ centre ∷ ab ∷ c ∷ cd ∷ centre ∷ bc ∷ d ∷ da ∷ centre ∷ cd ∷ []

-- the corner values of the refined level, quad by quad; fewer than four values make no quad
unfoldable pub corners : {V : Type 0} → (V → V → V) → List V → List V
corners middle (a ∷ b ∷ c ∷ d ∷ xs) = new_quads middle a b c d ++ corners middle xs
corners middle [] = []
corners middle (a ∷ []) = []
corners middle (a ∷ b ∷ []) = []
corners middle (a ∷ b ∷ c ∷ []) = []

-- the previous corner round a quad
unfoldable pub previous : ℕ → ℕ
previous c = 4 * (c / 4) + (c + 3) % 4

-- the centre of quad q: the middle of the middles of its first and second corner and of its third and fourth.
-- A value past the end of the list would be d
unfoldable pub centre : {V : Type 0} → (V → V → V) → List V → V → ℕ → V
centre middle xs d q = middle (middle (slice_index_or xs (4 * q) d) (slice_index_or xs (4 * q + 1) d)) (middle (slice_index_or xs (4 * q + 2) d) (slice_index_or xs (4 * q + 3) d))

-- ys are the corner values of the refined level, from the values xs on the corners of n quads: what new quad c has
pub record Middles {V : Type 0} (middle : V → V → V) (n : ℕ) (xs ys : List V) : Type 0 where
  pub as_many : length ys ≡ 16 * n
  pub at_corner : (c : ℕ) → c < 4 * n → (d : V) → slice_index_or ys (4 * c) d ≡ slice_index_or xs c d
  pub to_next : (c : ℕ) → c < 4 * n → (d : V) → slice_index_or ys (4 * c + 1) d ≡ middle (slice_index_or xs c d) (slice_index_or xs (next c) d)
  pub at_centre : (c : ℕ) → c < 4 * n → (d : V) → slice_index_or ys (4 * c + 2) d ≡ centre middle xs d (c / 4)
  pub from_previous : (c : ℕ) → c < 4 * n → (d : V) → slice_index_or ys (4 * c + 3) d ≡ middle (slice_index_or xs (previous c) d) (slice_index_or xs c d)

-- the corner values i levels on
unfoldable pub corners_carried : {V : Type 0} → (V → V → V) → List V → ℕ → List V
corners_carried middle xs zero = xs
corners_carried middle xs (suc i) = corners middle (corners_carried middle xs i)

-- off-edge o and its friend, the two sides of an edge, have like values at its end and at its beginning
pub record Alike {V : Type 0} (like : V → V → Type 0) (m : Mesh) (xs : List V) (o : ℕ) : Type 0 where
  pub at_end : (d : V) → like (slice_index_or xs (ends o) d) (slice_index_or xs (2 * friend m o) d)
  pub at_beginning : (d : V) → like (slice_index_or xs (begins o) d) (slice_index_or xs (2 * friend m o + 1) d)

-- the pieces of off-edge o of level j, in level j + i: its halves, theirs and so on
unfoldable pub pieces : Mesh → ℕ → ℕ → ℕ → List ℕ
pieces m j o zero = o ∷ []
pieces m j o (suc i) = halves (level m (j + i)) (pieces m j o i)
