-- A closed mesh of quads, by its four tables.
-- Quad q has corners 4q to 4q+3, in winding order. Edge e, an on-edge, runs from corner 2e to corner 2e+1.
-- Off-edge 2q runs from corner 4q+1 to 4q+2, and off-edge 2q+1 from 4q+3 to 4q.
use Rattle.std.specs.Prelude.{◌≡◌, ℕ, zero, suc, ◌+◌, ◌-◌, ◌*◌, ◌/◌, ◌%◌, ◌<◌, ◌≤◌, cond, ◌||◌, List, length, ◌==◌, nat_eq, slice_index}
use Rattle.mesh.specs.Count.{least, total}
use Rattle.mesh.specs.Marks.{MarkWord}

pub record Mesh : Type 0 where
  pub quads : ℕ
  pub points : ℕ
  pub corners : List ℕ
  pub friends : List ℕ
  pub marks : List ℕ
  pub starts : List ℕ

-- the point of a corner, the friend and the mark word of an off-edge, the start of a point
abbrev pub point : Mesh → ℕ → ℕ
point m c = slice_index m.corners c

abbrev pub friend : Mesh → ℕ → ℕ
friend m o = slice_index m.friends o

abbrev pub mark : Mesh → ℕ → ℕ
mark m o = slice_index m.marks o

abbrev pub start : Mesh → ℕ → ℕ
start m v = slice_index m.starts v

-- each table has as many words as the counts say
pub record Counted (m : Mesh) : Type 0 where
  pub corner_count : length m.corners ≡ 4 * m.quads
  pub friend_count : length m.friends ≡ 2 * m.quads
  pub mark_count : length m.marks ≡ 2 * m.quads
  pub start_count : length m.starts ≡ m.points

-- the off-edge at a corner
unfoldable pub off_edge : ℕ → ℕ
off_edge c = cond (c % 4 == 1 || c % 4 == 2) (2 * (c / 4)) (2 * (c / 4) + 1)

-- the corners where an off-edge begins and ends
unfoldable pub begins : ℕ → ℕ
begins o = 2 * o + 1

unfoldable pub ends : ℕ → ℕ
ends o = 4 * (o / 2) + (2 * o + 2) % 4

-- the other corner of the off-edge at c, and the corner opposite c in its quad
unfoldable pub other_end : ℕ → ℕ
other_end c = 4 * (c / 4) + (3 - c % 4)

unfoldable pub diagonal : ℕ → ℕ
diagonal c = 4 * (c / 4) + (c + 2) % 4

-- a step from a corner, along the off-edge there to its friend
unfoldable pub step : Mesh → ℕ → ℕ
step m c = 2 * friend m (off_edge c) + c % 2

-- the corner of the walk at v after i steps
unfoldable pub walk : Mesh → ℕ → ℕ → ℕ
walk m v zero = start m v
walk m v (suc i) = step m (walk m v i)

-- a walk has at least and at most so many steps
abbrev pub shortest : ℕ
shortest = 2

abbrev pub longest : ℕ
longest = 64

-- the steps until the walk at v is first back, or one more than the longest where it is not back so soon
unfoldable pub valence : Mesh → ℕ → ℕ
valence m v = suc (least (λ i. nat_eq (walk m v (suc i)) (start m v)) longest)

-- the walk at v meets corner c after i steps, before it is back
pub record Meets (m : Mesh) (v i c : ℕ) : Type 0 where
  pub a_point : v < m.points
  pub not_back : i < valence m v
  pub there : walk m v i ≡ c

-- the friend of an off-edge runs the other way
pub record RunsBack (m : Mesh) (o : ℕ) : Type 0 where
  pub from_end : point m (2 * friend m o) ≡ point m (ends o)
  pub to_beginning : point m (2 * friend m o + 1) ≡ point m (begins o)

-- a mesh has at least and at most so many quads
abbrev pub fewest_quads : ℕ
fewest_quads = 2

abbrev pub most_quads : ℕ
most_quads = 1048576

-- the words of the tables fit together, and every walk comes back
pub record Sound (m : Mesh) : Type 0 where
  pub counted : Counted m
  pub quads_enough : fewest_quads ≤ m.quads
  pub quads_few : m.quads ≤ most_quads
  pub points_enough : m.quads ≤ m.points
  pub points_few : m.points ≤ 2 * m.quads
  pub corners_have_points : (c : ℕ) → c < 4 * m.quads → point m c < m.points
  pub friends_are_edges : (o : ℕ) → o < 2 * m.quads → friend m o < 2 * m.quads
  pub marks_are_words : (o : ℕ) → o < 2 * m.quads → MarkWord (mark m o)
  pub friends_run_back : (o : ℕ) → o < 2 * m.quads → RunsBack m o
  pub starts_are_corners : (v : ℕ) → v < m.points → start m v < 4 * m.quads
  pub starts_at_points : (v : ℕ) → v < m.points → point m (start m v) ≡ v
  pub walks_not_short : (v : ℕ) → v < m.points → shortest ≤ valence m v
  pub walks_return : (v : ℕ) → v < m.points → valence m v ≤ longest

-- and the walks together meet all corners
pub record Lawful (m : Mesh) : Type 0 where
  pub sound : Sound m
  pub walks_meet_all : total (valence m) m.points ≡ 4 * m.quads
