-- What reading a text tells of it, in the words of the format.
use Rattle.std.specs.Prelude.{◌≡◌, ℕ, ◌+◌, ◌*◌, ◌<◌, ◌≤◌, List, [], ◌∷◌, length, take, Result, MatchResult}
use Rattle.mesh.specs.Mesh.{Mesh, Counted}
use Rattle.mesh.specs.declared.fault.Fault.{Fault}
use Rattle.mesh.specs.declared.fault.Fault.TheVariants.{BadLine, TooShort}
use Rattle.lines.specs.declared.reader.Counts.{Counts}
use Rattle.lines.specs.Lines.{Line, NoLine, Begins}
use Rattle.lines.specs.Reading.{Room, room, Reading, accepted, refused, reading, answer, Holds}
use Rattle.lines.specs.Text.{mesh_text, Writable}

-- s is the text of m
pub record TextOf (m : Mesh) (s : List ℕ) : Type 0 where
  pub counted : Counted m
  pub writable : Writable m
  pub text : s ≡ mesh_text m

-- the lent tables are long enough for f quads and v points
pub record HasRoom (f v : ℕ) (r : Room) : Type 0 where
  pub corners_fit : 4 * f ≤ r.corner_room
  pub friends_fit : 2 * f ≤ r.friend_room
  pub marks_fit : 2 * f ≤ r.mark_room
  pub starts_fit : v ≤ r.start_room

-- line 0 of s states the counts f and v, for which the tables are long enough, and t comes after it
pub record Opens (s : List ℕ) (r : Room) (f v : ℕ) (t : List ℕ) : Type 0 where
  pub counts : Line 48 48 s (f ∷ (v ∷ [])) t
  pub fits : HasRoom f v r

-- why a text is refused: no line 0 with two words; tables too short for its counts; after some right lines no line that is right for its place; or a byte too many
pub data Refuses (s : List ℕ) (r : Room) : Fault → Type 0 where
  no_counts : NoLine 48 48 2 s → Refuses s r (BadLine 0)
  no_room : (f v : ℕ) (t : List ℕ) → Line 48 48 s (f ∷ (v ∷ [])) t → (HasRoom f v r → ⊥) → Refuses s r TooShort
  no_quad : (f v : ℕ) (t : List ℕ) (quads : List (List ℕ)) (u : List ℕ) → Opens s r f v t → Begins 48 49 8 t quads u → length quads < f → NoLine 48 49 8 u → Refuses s r (BadLine (1 + length quads))
  no_start : (f v : ℕ) (t : List ℕ) (quads : List (List ℕ)) (u : List ℕ) (starts : List (List ℕ)) (w : List ℕ) → Opens s r f v t → Begins 48 49 8 t quads u → length quads ≡ f → Begins 48 50 1 u starts w → length starts < v → NoLine 48 50 1 w → Refuses s r (BadLine (1 + f + length starts))
  surplus : (f v : ℕ) (t : List ℕ) (quads : List (List ℕ)) (u : List ℕ) (starts : List (List ℕ)) (x : ℕ) (w : List ℕ) → Opens s r f v t → Begins 48 49 8 t quads u → length quads ≡ f → Begins 48 50 1 u starts (x ∷ w) → length starts ≡ v → Refuses s r (BadLine (1 + f + v))

-- what each outcome tells
abbrev pub Tells : List ℕ → Room → Reading → Type 0
Tells s r (accepted m) = TextOf m s × HasRoom m.quads m.points r
Tells s r (refused f) = Refuses s r f

-- reading gives an outcome exactly where the text is as that outcome tells
pub record ReadExactly (s : List ℕ) (r : Room) (o : Reading) : Type 0 where
  pub only_so : reading s r ≡ o → Tells s r o
  pub always_so : Tells s r o → reading s r ≡ o

abbrev pub ReadingIsExact : Type 0
ReadingIsExact = (s : List ℕ) (r : Room) (o : Reading) → ReadExactly s r o

-- the mesh whose words lie in the front of four tables
abbrev pub mesh_in : Counts → List ℕ → List ℕ → List ℕ → List ℕ → Mesh
mesh_in n cs fs ms ss = record {
  quads = n.quads;
  points = n.points;
  corners = take (4 * n.quads) cs;
  friends = take (2 * n.quads) fs;
  marks = take (2 * n.quads) ms;
  starts = take n.points ss;
}

-- A text and its tables are each other's image: a text that is accepted is the text of what the tables then hold, a refusal says why none is,
-- and the text of any mesh that the tables have room for is accepted with that mesh's words.
pub record Images (s cs fs ms ss cs' fs' ms' ss' : List ℕ) (a : Result Counts Fault) : Type 0 where
  pub is_text : MatchResult a (λ n. TextOf (mesh_in n cs' fs' ms' ss') s) (Refuses s (room cs fs ms ss))
  pub takes_text : (m : Mesh) → TextOf m s → HasRoom m.quads m.points (room cs fs ms ss) → (a ≡ answer (accepted m)) × Holds (accepted m) cs fs ms ss cs' fs' ms' ss'
