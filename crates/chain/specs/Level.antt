-- What every standing level has, and what it keeps of the mesh that was loaded.
use Rattle.std.specs.Prelude.{◌≡◌, ℕ, zero, suc, ◌+◌, ◌*◌, ◌<◌, ◌≤◌, cond, ◌==◌, ◌≢◌}
use Rattle.mesh.specs.Count.{total}
use Rattle.mesh.specs.Mesh.{Mesh, point, walk, shortest, longest, valence}
use Rattle.refinement.specs.Laws.{Paired}
use Rattle.refinement.specs.Tasks.{old_slot, level}

-- exactly one number is such
pub record JustOne (Such : ℕ → Type 0) : Type 0 where
  pub which : ℕ
  pub it_is : Such which
  pub no_other : (i : ℕ) → Such i → i ≡ which

-- how many corners a point has: those of the corner table that name it
unfoldable pub corners_at : Mesh → ℕ → ℕ
corners_at m v = total (λ c. cond (point m c == v) 1 0) (4 * m.quads)

-- The mesh is whole: its off-edges and on-edges are friends in pairs, and the walk at each point goes once round it.
pub record Whole (m : Mesh) : Type 0 where
  -- each off-edge has an on-edge for friend, run the other way, and no on-edge serves twice
  pub paired : Paired m
  -- the walk at each point meets every corner of that point once, and no corner of another
  pub meets_once : (v c : ℕ) → v < m.points → c < 4 * m.quads → point m c ≡ v → JustOne (λ i. (i < valence m v) × (walk m v i ≡ c))
  pub stays : (v i : ℕ) → v < m.points → (walk m v i < 4 * m.quads) × (point m (walk m v i) ≡ v)
  -- so its steps are the corners of the point
  pub steps_are_corners : (v : ℕ) → v < m.points → valence m v ≡ corners_at m v

-- where a loaded point stands, followed by its slots through k refinements
unfoldable pub slot : Mesh → ℕ → ℕ → ℕ
slot m zero v = v
slot m (suc k) v = old_slot (level m k) (slot m k v)

-- What the loaded mesh m, refined k times, keeps of m.
pub record Keeps (m : Mesh) (k : ℕ) : Type 0 where
  -- points less quads is as it was, said without a minus sign
  pub points_less_quads : (level m k).points + m.quads ≡ m.points + (level m k).quads
  -- each loaded point has a slot of its own
  pub loaded_there : (v : ℕ) → v < m.points → slot m k v < (level m k).points
  pub loaded_apart : (u v : ℕ) → u < m.points → v < m.points → slot m k u ≡ slot m k v → u ≡ v
  -- and keeps its count of corners, which is that of a walk
  pub loaded_corners : (v : ℕ) → v < m.points → corners_at (level m k) (slot m k v) ≡ corners_at m v
  pub loaded_least : (v : ℕ) → v < m.points → shortest ≤ corners_at m v
  pub loaded_most : (v : ℕ) → v < m.points → corners_at m v ≤ longest
  -- every other point has four
  pub later_four : (s : ℕ) → s < (level m k).points → ((v : ℕ) → v < m.points → slot m k v ≢ s) → corners_at (level m k) s ≡ 4
