-- The step on bytes: a mesh text in, the text of the mesh refined once out, or the frame of a refusal.
use Rattle.std.specs.Prelude.{◌≡◌, ℕ, ◌≤◌, cond, List, length, MatchBool, nat_lt}
use Rattle.mesh.specs.Causes.{judge}
use Rattle.mesh.specs.Mesh.{Mesh, Lawful}
use Rattle.mesh.specs.Refusals.{Verdict, fine, declined, number_of, place_of}
use Rattle.lines.specs.Laws.{TextOf}
use Rattle.lines.specs.Reading.{Room, Reading, accepted, refused, reading}
use Rattle.lines.specs.Text.{mesh_text}
use Rattle.refinement.specs.Tasks.{refine}
use Rattle.text.specs.Put.{Put}
use Rattle.text.specs.Writes.{frame_text}

-- the longest input that is looked at: the longest text of a lawful mesh with so many quads and points
abbrev pub longest_input : ℕ
longest_input = 9802

-- room for 192 quads and 384 points
abbrev pub lent_room : Room
lent_room = record { corner_room = 768; friend_room = 384; mark_room = 384; start_room = 384 }

-- what is answered for tables, by what a load finds in them
abbrev pub judged_text : Verdict → Mesh → List ℕ
judged_text fine m = mesh_text (refine m)
judged_text (declined k p) m = frame_text k p

-- and for a text, by what reading gives
abbrev pub read_text : Reading → List ℕ
read_text (refused f) = frame_text (number_of f) (place_of f)
read_text (accepted m) = judged_text (judge m) m

unfoldable pub step_text : List ℕ → List ℕ
step_text s = cond (nat_lt longest_input (length s)) (frame_text 22 0) (read_text (reading s lent_room))

-- The answer t in the front of the output, with its length; or 0 and nothing written, where the output is too short for it.
abbrev pub Answers : List ℕ → List ℕ → ℕ → List ℕ → Type 0
Answers e t n o = MatchBool (nat_lt (length e) (length t)) ((n ≡ 0) × (o ≡ e)) (Put e 0 t n o)

-- the text of a lawful mesh that is not too large is answered by the text of that mesh refined once
abbrev pub StepRefines : Type 0
StepRefines =
    (m : Mesh) (s : List ℕ) → Lawful m → TextOf m s → m.quads ≤ 192 → m.points ≤ 384 → length s ≤ longest_input → step_text s ≡ mesh_text (refine m)
