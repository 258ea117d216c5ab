-- The four lent tables together.
use Rattle.std.specs.Prelude.{◌≡◌, List, Result}
use Rattle.mesh.specs.declared.fault.Fault.{Fault}
use Rattle.lines.specs.declared.lent.TablesMut.{TablesMut}
use Rattle.lines.specs.declared.reader.Counts.{Counts}
use Rattle.lines.specs.Laws.{Images}
use Rattle.lines.specs.Reading.{Reading, Room, room, Holds}
use Rattle.std.specs.Prelude.{ℕ}

-- the tables are still the same four that were lent
pub record Same (t u : TablesMut) : Type 0 where
  pub same_corners : u.corners.ghost_name ≡ t.corners.ghost_name
  pub same_friends : u.friends.ghost_name ≡ t.friends.ghost_name
  pub same_marks : u.marks.ghost_name ≡ t.marks.ghost_name
  pub same_starts : u.starts.ghost_name ≡ t.starts.ghost_name

abbrev pub lent_room : TablesMut → Room
lent_room t = room t.corners.now t.friends.now t.marks.now t.starts.now

-- what they hold after a reading, from what they held before
abbrev pub HoldsIn : Reading → TablesMut → TablesMut → Type 0
HoldsIn r t u = Holds r t.corners.now t.friends.now t.marks.now t.starts.now u.corners.now u.friends.now u.marks.now u.starts.now

abbrev pub ImagesIn : List ℕ → TablesMut → TablesMut → Result Counts Fault → Type 0
ImagesIn s t u a = Images s t.corners.now t.friends.now t.marks.now t.starts.now u.corners.now u.friends.now u.marks.now u.starts.now a
