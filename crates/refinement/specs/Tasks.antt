-- A level refined once: what each task writes, and the tasks run in any order.
use Rattle.std.specs.Prelude.{◌≡◌, ℕ, zero, suc, ◌+◌, ◌-◌, ◌*◌, ◌/◌, ◌%◌, ◌<◌, cond, ◌⊎◌, List, [], ◌∷◌, ◌++◌, map, replicate, ◌==◌, nat_le, slice_index, slice_set}
use Rattle.std.specs.List.{range_with_len, AllByRecursion}
use Rattle.mesh.specs.Marks.{infinite}
use Rattle.mesh.specs.Mesh.{Mesh, Counted, point, friend, mark, start, ends}

-- a task for each quad and one for each point
pub data Task : Type 0 where
  quad_task : ℕ → Task
  point_task : ℕ → Task

abbrev pub TaskOf : Mesh → Task → Type 0
TaskOf m (quad_task q) = q < m.quads
TaskOf m (point_task v) = v < m.points

-- tasks by number: quads first, then points
abbrev pub number : Mesh → Task → ℕ
number m (quad_task q) = q
number m (point_task v) = m.quads + v

-- the new slot of an old point, of a quad's face point and of an edge's point
unfoldable pub old_slot : Mesh → ℕ → ℕ
old_slot m v = cond (nat_le v m.quads) (4 * v) (3 * m.quads + v)

unfoldable pub face_slot : ℕ → ℕ
face_slot q = 4 * q + 1

unfoldable pub edge_slot : ℕ → ℕ
edge_slot e = 4 * (e / 2) + 2 + e % 2

-- the mark of an edge's halves: a semi-sharp mark falls by 256, not below 0, and an infinite one stays
unfoldable pub fallen : ℕ → ℕ
fallen w = cond (w == infinite) w (w - 256)

-- the halves of off-edge o: the two new off-edges whose marks come from it, at its end and at its beginning
abbrev pub half_at_end : ℕ → ℕ
half_at_end o = 2 * ends o + 1

abbrev pub half_at_beginning : Mesh → ℕ → ℕ
half_at_beginning m o = 4 * friend m o + 3

-- the halves of each of some off-edges
unfoldable pub halves : Mesh → List ℕ → List ℕ
halves m [] = []
halves m (o ∷ os) = half_at_end o ∷ half_at_beginning m o ∷ halves m os

-- a write is a slot and its word; `from a` puts words side by side, at slots a + k and on
abbrev pub from : ℕ → ℕ → List ℕ → List (ℕ × ℕ)
from a k [] = []
from a k (x ∷ xs) = (a + k, x) ∷ from a (suc k) xs

-- the corners of the four new quads of quad q: an old point, an edge point, the face point, an edge point.
-- d0 and d1 are the points of the quad's own edges, e0 and e1 those of its friends
abbrev pub new_corners : Mesh → ℕ → List ℕ
new_corners m q =
    let w0 = old_slot m (point m (4 * q)) in
    let w1 = old_slot m (point m (4 * q + 1)) in
    let w2 = old_slot m (point m (4 * q + 2)) in
    let w3 = old_slot m (point m (4 * q + 3)) in
    let f = face_slot q in
    let d0 = edge_slot (2 * q) in
    let d1 = edge_slot (2 * q + 1) in
    let e0 = edge_slot (friend m (2 * q)) in
    let e1 = edge_slot (friend m (2 * q + 1)) in
    w0 ∷ d0 ∷ f ∷ e1 ∷ w1 ∷ e0 ∷ f ∷ d0 ∷ w2 ∷ d1 ∷ f ∷ e0 ∷ w3 ∷ e1 ∷ f ∷ d1 ∷ []

abbrev pub corner_writes : Mesh → Task → List (ℕ × ℕ)
corner_writes m (quad_task q) = from (16 * q) 0 (new_corners m q)
corner_writes m (point_task v) = []

-- off-edge 2c of new quad c gets the friend 2c' + 1, c' being the next corner round quad q
abbrev pub friend_writes : Mesh → Task → List (ℕ × ℕ)
friend_writes m (quad_task q) =
    let g0 = friend m (2 * q) in
    let g1 = friend m (2 * q + 1) in
    (8 * q, 8 * q + 3) ∷ (8 * q + 2, 8 * q + 5) ∷ (8 * q + 4, 8 * q + 7) ∷ (8 * q + 6, 8 * q + 1)
    ∷ (8 * q + 1, 4 * g1) ∷ (8 * q + 5, 4 * g0) ∷ (4 * g0 + 3, 8 * q + 2) ∷ (4 * g1 + 3, 8 * q + 6) ∷ []
friend_writes m (point_task v) = []

abbrev pub mark_writes : Mesh → Task → List (ℕ × ℕ)
mark_writes m (quad_task q) =
    let g0 = friend m (2 * q) in
    let g1 = friend m (2 * q + 1) in
    let m0 = fallen (mark m (2 * q)) in
    let m1 = fallen (mark m (2 * q + 1)) in
    (8 * q, 0) ∷ (8 * q + 2, 0) ∷ (8 * q + 4, 0) ∷ (8 * q + 6, 0)
    ∷ (8 * q + 1, m1) ∷ (8 * q + 5, m0) ∷ (4 * g0 + 3, m0) ∷ (4 * g1 + 3, m1) ∷ []
mark_writes m (point_task v) = []

abbrev pub start_writes : Mesh → Task → List (ℕ × ℕ)
start_writes m (quad_task q) =
    let g0 = friend m (2 * q) in
    let g1 = friend m (2 * q + 1) in
    (face_slot q, 16 * q + 2) ∷ (edge_slot g0, 8 * g0 + 1) ∷ (edge_slot g1, 8 * g1 + 1) ∷ []
start_writes m (point_task v) = (old_slot m v, 4 * start m v) ∷ []

-- one of the writes goes to slot s
abbrev pub Names : ℕ → List (ℕ × ℕ) → Type 0
Names s [] = ⊥
Names s (w ∷ ws) = (s ≡ w.0) ⊎ Names s ws

-- a table after some writes
unfoldable pub put : List (ℕ × ℕ) → List ℕ → List ℕ
put [] t = t
put (w ∷ ws) t = put ws (slice_set t w.0 w.1)

-- the level in work before any task, after one, and after some
unfoldable pub blank : Mesh → Mesh
blank m = record {
  quads = 4 * m.quads;
  points = m.points + 3 * m.quads;
  corners = replicate (16 * m.quads) 0;
  friends = replicate (8 * m.quads) 0;
  marks = replicate (8 * m.quads) 0;
  starts = replicate (m.points + 3 * m.quads) 0;
}

unfoldable pub run : Mesh → Task → Mesh → Mesh
run m t w = record {
  quads = w.quads;
  points = w.points;
  corners = put (corner_writes m t) w.corners;
  friends = put (friend_writes m t) w.friends;
  marks = put (mark_writes m t) w.marks;
  starts = put (start_writes m t) w.starts;
}

unfoldable pub runs : Mesh → List Task → Mesh → Mesh
runs m [] w = w
runs m (t ∷ ts) w = runs m ts (run m t w)

-- w is the level in work after the tasks ts
pub record After (m : Mesh) (ts : List Task) (w : Mesh) : Type 0 where
  pub are_tasks : AllByRecursion (TaskOf m) ts
  pub work_is : w ≡ runs m ts (blank m)

-- each task once by number, quads first
unfoldable pub tasks : Mesh → List Task
tasks m = map quad_task (range_with_len 0 m.quads) ++ map point_task (range_with_len 0 m.points)

unfoldable pub refine : Mesh → Mesh
refine m = runs m (tasks m) (blank m)

-- m refined k times
unfoldable pub level : Mesh → ℕ → Mesh
level m zero = m
level m (suc k) = refine (level m k)

-- the words of a list of writes stand in a table, or all their slots are 0
abbrev pub Hold : List ℕ → List (ℕ × ℕ) → Type 0
Hold t ws = AllByRecursion (λ w. slice_index t w.0 ≡ w.1) ws

abbrev pub Empty : List ℕ → List (ℕ × ℕ) → Type 0
Empty t ws = AllByRecursion (λ w. slice_index t w.0 ≡ 0) ws

-- a task that has run: its words stand
pub record Stands (m w : Mesh) (t : Task) : Type 0 where
  pub corners_stand : Hold w.corners (corner_writes m t)
  pub friends_stand : Hold w.friends (friend_writes m t)
  pub marks_stand : Hold w.marks (mark_writes m t)
  pub starts_stand : Hold w.starts (start_writes m t)

-- a task that has not run: its slots are 0
pub record Waits (m w : Mesh) (t : Task) : Type 0 where
  pub corners_wait : Empty w.corners (corner_writes m t)
  pub friends_wait : Empty w.friends (friend_writes m t)
  pub marks_wait : Empty w.marks (mark_writes m t)
  pub starts_wait : Empty w.starts (start_writes m t)

-- r is m refined once: its counts, and every word of every task
pub record Refined (m r : Mesh) : Type 0 where
  pub quads_are : r.quads ≡ 4 * m.quads
  pub points_are : r.points ≡ m.points + 3 * m.quads
  pub counted : Counted r
  pub all_stand : (t : Task) → TaskOf m t → Stands m r t
