-- What the tests of a load that passed have told, as the later ones need it.
use Rattle.std.specs.Prelude.{ℕ, ◌*◌, ◌<◌, ◌≤◌, Ok, Err, Result}
use Rattle.mesh.specs.declared.fault.Fault.{Fault}
use Rattle.mesh.specs.Marks.{MarkWord}
use Rattle.mesh.specs.Mesh.{Mesh, Counted, friend, mark, start, most_quads}
use Rattle.mesh.specs.Refusals.{Verdict, declined, number_of, place_of}

-- what a test found, or else the verdict of those after it
abbrev pub told_or : {A : Type 0} → Result A Fault → Verdict → Verdict
told_or (Ok x) rest = rest
told_or (Err f) rest = declined (number_of f) (place_of f)

-- after causes 1 to 3: the tables have the lengths of a mesh
pub record Sized (m : Mesh) : Type 0 where
  pub counted : Counted m
  pub quads_few : m.quads ≤ most_quads
  pub points_few : m.points ≤ 2 * m.quads

-- after causes 4 to 6: their words are points, edges and marks
pub record Worded (m : Mesh) : Type 0 where
  pub sized : Sized m
  pub friends_are_edges : (o : ℕ) → o < 2 * m.quads → friend m o < 2 * m.quads
  pub marks_are_words : (o : ℕ) → o < 2 * m.quads → MarkWord (mark m o)

-- after causes 7 and 8: every walk has a corner to start from
pub record Started (m : Mesh) : Type 0 where
  pub worded : Worded m
  pub starts_are_corners : (v : ℕ) → v < m.points → start m v < 4 * m.quads
