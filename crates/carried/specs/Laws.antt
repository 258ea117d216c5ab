-- The laws of values that are carried along refinement.
use Rattle.std.specs.Prelude.{◌≡◌, ℕ, suc, ◌+◌, ◌*◌, ◌^◌, ◌<◌, ◌≤◌, Bool, true, List, length}
use Rattle.std.specs.List.{AllByRecursion}
use Rattle.mesh.specs.Mesh.{Mesh, Lawful, most_quads}
use Rattle.refinement.specs.Tasks.{level}
use Rattle.kinds.specs.Likeness.{Likeness}
use Rattle.kinds.specs.Parts.{most_weight, taken, total}
use Rattle.carried.specs.Blends.{face, edge, smooth_weight, moved, marked, parts, values, Blends, carried}
use Rattle.carried.specs.Corners.{corners, Middles, corners_carried, Alike, pieces}

-- parts that can be blended: each names a point, one or more are left, and their weights are not too much
pub record Fit (m : Mesh) (ps : List (ℕ × ℕ)) : Type 0 where
  pub name_points : AllByRecursion (λ p. p.0 < m.points) ps
  pub some_left : 0 < length (taken ps)
  pub some_weight : 0 < total (taken ps)
  pub few : total (taken ps) ≤ most_weight

-- what the weights add up to, and that the parts of every slot fit
pub record WeightsAre (m : Mesh) : Type 0 where
  pub at_face : (q : ℕ) → q < m.quads → total (face m q) ≡ 4
  pub at_edge : (o : ℕ) → o < 2 * m.quads → total (edge m o) ≡ 4096
  pub at_smooth : (v : ℕ) → v < m.points → length (marked m v) < 2 → total (moved m v) ≡ smooth_weight m v
  pub at_crease : (v : ℕ) → v < m.points → length (marked m v) ≡ 2 → total (moved m v) ≡ smooth_weight m v * 4096
  pub at_corner : (v : ℕ) → v < m.points → 2 < length (marked m v) → total (moved m v) ≡ smooth_weight m v * (256 * length (marked m v))
  pub fit : (s : ℕ) → s < m.points + 3 * m.quads → Fit m (parts m s)

abbrev pub PartsFit : Type 0
PartsFit = (m : Mesh) → Lawful m → WeightsAre m

-- a list that meets a relation, and is the only one that does
pub record Only {V : Type 0} (R : List V → Type 0) (ys : List V) : Type 0 where
  pub is : R ys
  pub only : (zs : List V) → R zs → zs ≡ ys

-- `values` and `corners` give what each slot of the refined level should have
abbrev pub ValuesAre : {V : Type 0} → (List (V × ℕ) → V) → Type 0
ValuesAre {V} blended = (m : Mesh) → Lawful m → (xs : List V) → length xs ≡ m.points → Only (Blends blended m xs) (values blended m xs)

abbrev pub CornersAre : {V : Type 0} → (V → V → V) → Type 0
CornersAre {V} middle = (n : ℕ) (xs : List V) → length xs ≡ 4 * n → Only (Middles middle n xs) (corners middle xs)

-- level k of m is not too large
abbrev pub Allowed : Mesh → ℕ → Type 0
Allowed m k = 4 ^ k * m.quads ≤ most_quads

-- ys, the values of level k, lie in every range that held all of the values xs
pub record Stays {V R : Type 0} (lies : R → V → Type 0) (m : Mesh) (k : ℕ) (xs ys : List V) : Type 0 where
  pub as_many : length ys ≡ (level m k).points
  pub in_range : (b : R) → AllByRecursion (lies b) xs → AllByRecursion (lies b) ys

-- values carried from any list for level j stay in range up to each level that is near
abbrev pub ValuesStay : {V R : Type 0} → (R → V → Type 0) → (List (V × ℕ) → V) → Mesh → (ℕ → Type 0) → Type 0
ValuesStay {V} lies blended m Near =
    (j i : ℕ) → Near (j + i) → (xs : List V) → length xs ≡ (level m j).points → Stays lies m (j + i) xs (carried blended m j xs i)

abbrev pub ValuesStayInRange : {V R : Type 0} → (R → V → Type 0) → (List (V × ℕ) → V) → Type 0
ValuesStayInRange lies blended = (m : Mesh) → Lawful m → ValuesStay lies blended m (Allowed m)

-- corner values carried from the list xs for level j, up to each level that is near: the pieces of an edge whose sides are alike, at level j or a
-- later one, are alike at every level after it; and so are, at each level after j, the edges made inside a quad, which are those of even
-- off-edges, and their pieces
pub record SeamsMeet {V : Type 0} (like : V → V → Type 0) (middle : V → V → V) (m : Mesh) (Near : ℕ → Type 0) (j : ℕ) (xs : List V) : Type 0 where
  pub as_many : (i : ℕ) → Near (j + i) → length (corners_carried middle xs i) ≡ 4 * (level m (j + i)).quads
  pub pieces_meet :
      (k o : ℕ) → o < 2 * (level m (j + k)).quads → Alike like (level m (j + k)) (corners_carried middle xs k) o →
      (i : ℕ) → Near (j + k + i) →
      AllByRecursion (Alike like (level m (j + k + i)) (corners_carried middle xs (k + i))) (pieces m (j + k) o i)
  pub insides_meet :
      (k c : ℕ) → 2 * c < 2 * (level m (j + suc k)).quads →
      (i : ℕ) → Near (j + suc k + i) →
      AllByRecursion (Alike like (level m (j + suc k + i)) (corners_carried middle xs (suc k + i))) (pieces m (j + suc k) (2 * c) i)

-- so from any list for any level
abbrev pub SeamsStay : {V : Type 0} → (V → V → Type 0) → (V → V → V) → Mesh → (ℕ → Type 0) → Type 0
SeamsStay {V} like middle m Near = (j : ℕ) (xs : List V) → length xs ≡ 4 * (level m j).quads → SeamsMeet like middle m Near j xs

-- two sides agree where their values are equal
abbrev pub SeamsStillMeet : {V : Type 0} → (V → V → V) → Type 0
SeamsStillMeet middle = (m : Mesh) → Lawful m → SeamsStay ◌≡◌ middle m (Allowed m)

-- the same by every test of two values that is a likeness
abbrev pub SeamsAlikeByTest : {V : Type 0} → (V → V → V) → Type 0
SeamsAlikeByTest {V} middle =
    (test : V → V → Bool) → Likeness (λ a b. test a b ≡ true) middle → (m : Mesh) → Lawful m → SeamsStay (λ a b. test a b ≡ true) middle m (Allowed m)
