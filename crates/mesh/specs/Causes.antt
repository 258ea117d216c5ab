-- Why a load declines its tables: the first cause by number, and the first place of that cause.
use Rattle.std.specs.Prelude.{◌≡◌, ℕ, ◌+◌, ◌*◌, ◌/◌, ◌<◌, ◌≤◌, Bool, cond, not, ◌&&◌, ◌||◌, List, length, ◌==◌, ◌≢◌, nat_le, nat_lt}
use Rattle.mesh.specs.Count.{least, total}
use Rattle.mesh.specs.Marks.{MarkWord, sharpest, infinite}
use Rattle.mesh.specs.Mesh.{Mesh, Counted, Meets, RunsBack, point, friend, mark, start, begins, ends, walk, shortest, longest, valence, fewest_quads, most_quads}
use Rattle.mesh.specs.Refusals.{Verdict, fine, declined}

-- the mesh of four tables: corners, friends, marks, starts
unfoldable pub mesh_of : List ℕ → List ℕ → List ℕ → List ℕ → Mesh
mesh_of cs fs ms ss = record { quads = length cs / 4; points = length ss; corners = cs; friends = fs; marks = ms; starts = ss }

-- the walk at v is first back after n steps
pub record FirstBack (m : Mesh) (v n : ℕ) : Type 0 where
  pub back : walk m v n ≡ start m v
  pub not_before : (i : ℕ) → 1 ≤ i → i < n → walk m v i ≢ start m v

-- The table of causes: its number k, its place p, and what is wrong there.
pub data Cause (m : Mesh) (k p : ℕ) : Type 0 where
  wrong_shape : k ≡ 1 → p ≡ 0 → (Counted m → ⊥) → Cause m k p
  too_few_quads : k ≡ 2 → p ≡ 0 → m.quads < fewest_quads → Cause m k p
  too_many_quads : k ≡ 2 → p ≡ 0 → most_quads < m.quads → Cause m k p
  too_few_points : k ≡ 3 → p ≡ 0 → m.points < m.quads → Cause m k p
  too_many_points : k ≡ 3 → p ≡ 0 → 2 * m.quads < m.points → Cause m k p
  -- p is a corner, and its word no point
  no_such_point : k ≡ 4 → p < 4 * m.quads → m.points ≤ point m p → Cause m k p
  -- p is an off-edge, and its friend no edge, its mark no mark, or its friend not run the other way
  no_such_edge : k ≡ 5 → p < 2 * m.quads → 2 * m.quads ≤ friend m p → Cause m k p
  no_mark : k ≡ 6 → p < 2 * m.quads → (MarkWord (mark m p) → ⊥) → Cause m k p
  not_opposed : k ≡ 7 → p < 2 * m.quads → (RunsBack m p → ⊥) → Cause m k p
  -- p is a point, and its start no corner, or a corner of another point
  start_past_end : k ≡ 8 → p < m.points → 4 * m.quads ≤ start m p → Cause m k p
  start_elsewhere : k ≡ 8 → p < m.points → (point m (start m p) ≢ p) → Cause m k p
  -- p is a point, and its walk not first back in so many steps
  not_back : k ≡ 9 → p < m.points → ((n : ℕ) → shortest ≤ n → n ≤ longest → FirstBack m p n → ⊥) → Cause m k p
  -- no walk meets the corner c
  unmet : k ≡ 10 → p ≡ 0 → (c : ℕ) → c < 4 * m.quads → ((v i : ℕ) → Meets m v i c → ⊥) → Cause m k p

-- p is the first place of cause k, and no cause before it holds anywhere
pub record FirstCause (m : Mesh) (k p : ℕ) : Type 0 where
  pub holds : Cause m k p
  pub no_lower_place : (i : ℕ) → i < p → Cause m k i → ⊥
  pub no_lower_cause : (j i : ℕ) → j < k → Cause m j i → ⊥

-- The same by tests, as a load goes through them. A test of the whole mesh has place 0, and a test of each place below n the first that fails.
unfoldable pub once : ℕ → Bool → Verdict → Verdict
once k ok rest = cond ok rest (declined k 0)

unfoldable pub each : ℕ → (ℕ → Bool) → ℕ → Verdict → Verdict
each k ok n rest = let p = least (λ i. not (ok i)) n in cond (nat_lt p n) (declined k p) rest

unfoldable pub shape_ok : Mesh → Bool
shape_ok m =
    (length m.corners == 4 * m.quads && length m.friends == 2 * m.quads)
    && (length m.marks == 2 * m.quads && length m.starts == m.points)

unfoldable pub quads_ok : Mesh → Bool
quads_ok m = nat_le fewest_quads m.quads && nat_le m.quads most_quads

unfoldable pub points_ok : Mesh → Bool
points_ok m = nat_le m.quads m.points && nat_le m.points (2 * m.quads)

unfoldable pub corner_ok : Mesh → ℕ → Bool
corner_ok m c = nat_lt (point m c) m.points

unfoldable pub friend_ok : Mesh → ℕ → Bool
friend_ok m o = nat_lt (friend m o) (2 * m.quads)

unfoldable pub mark_ok : Mesh → ℕ → Bool
mark_ok m o = nat_le (mark m o) sharpest || mark m o == infinite

unfoldable pub back_ok : Mesh → ℕ → Bool
back_ok m o = point m (2 * friend m o) == point m (ends o) && point m (2 * friend m o + 1) == point m (begins o)

unfoldable pub start_ok : Mesh → ℕ → Bool
start_ok m v = nat_lt (start m v) (4 * m.quads) && point m (start m v) == v

unfoldable pub walk_ok : Mesh → ℕ → Bool
walk_ok m v = nat_le shortest (valence m v) && nat_le (valence m v) longest

unfoldable pub all_met : Mesh → Bool
all_met m = nat_le (4 * m.quads) (total (valence m) m.points)

unfoldable pub judge : Mesh → Verdict
judge m =
    once 1 (shape_ok m) (once 2 (quads_ok m) (once 3 (points_ok m)
    (each 4 (corner_ok m) (4 * m.quads) (each 5 (friend_ok m) (2 * m.quads) (each 6 (mark_ok m) (2 * m.quads)
    (each 7 (back_ok m) (2 * m.quads) (each 8 (start_ok m) m.points (each 9 (walk_ok m) m.points
    (once 10 (all_met m) fine)))))))))
