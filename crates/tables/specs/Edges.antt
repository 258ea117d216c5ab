-- The record of an off-edge, and a step by it.
use Rattle.std.specs.Prelude.{◌≡◌, ℕ, ◌*◌, ◌<◌, ◌≤◌, length, Some, None, Option}
use Rattle.mesh.specs.Marks.{MarkWord, word_of}
use Rattle.mesh.specs.Mesh.{Mesh, point, friend, mark, off_edge, begins, ends, step, most_quads}
use Rattle.mesh.specs.declared.number.Corner.{Corner}
use Rattle.tables.specs.declared.edge.EdgeRecord.{EdgeRecord}

-- off-edge o can be read: its quad is there, its friend and mark words are, and the mark word stands for a mark
pub record Reads (m : Mesh) (o : ℕ) : Type 0 where
  pub in_corners : o < 2 * m.quads
  pub in_friends : o < length m.friends
  pub in_marks : o < length m.marks
  pub a_mark : MarkWord (mark m o)

-- off-edge o can be read, and e says of it what the tables say
pub record RecordOf (m : Mesh) (o : ℕ) (e : EdgeRecord) : Type 0 where
  pub reads : Reads m o
  pub begin_is : e.begin.0 ≡ point m (begins o)
  pub end_is : e.end.0 ≡ point m (ends o)
  pub friend_is : e.friend.0 ≡ friend m o
  pub mark_is : word_of e.mark ≡ mark m o

-- a step from corner c is to a corner: the off-edge there can be read, and its friend is one of a mesh's edges
pub record Steps (m : Mesh) (c : ℕ) : Type 0 where
  pub reads : Reads m (off_edge c)
  pub quads_few : m.quads ≤ most_quads
  pub an_edge : friend m (off_edge c) < 2 * m.quads

-- the answer about off-edge o: its record, or none where it cannot be read
abbrev pub EdgeAnswer : Mesh → ℕ → Option EdgeRecord → Type 0
EdgeAnswer m o None = Reads m o → ⊥
EdgeAnswer m o (Some e) = RecordOf m o e

-- the answer about a step from corner c: the corner it is to, or none where it is to none
abbrev pub StepAnswer : Mesh → ℕ → Option Corner → Type 0
StepAnswer m c None = Steps m c → ⊥
StepAnswer m c (Some d) = Steps m c × (d.0 ≡ step m c)
