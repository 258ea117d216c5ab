-- What writing the standing level of a bench answers.
use Rattle.std.specs.Prelude.{◌≡◌, ℕ, List, [], ◌∷◌, length, take, Some, None, Ok, Err, Option, Result, nat_lt}
use Rattle.mesh.specs.Mesh.{Mesh}
use Rattle.mesh.specs.Refusals.{Verdict, fine, told}
use Rattle.mesh.specs.declared.fault.Fault.{Fault}
use Rattle.lines.specs.Laws.{TextOf}
use Rattle.lines.specs.Text.{line_text, mesh_text}
use Rattle.chain.specs.Calls.{State, cause, missing}
use Rattle.text.specs.Put.{Put}

-- the frame of a refusal: kind ff, its number and its place
abbrev pub frame_text : ℕ → ℕ → List ℕ
frame_text number place = line_text 102 102 (number ∷ (place ∷ []))

-- the text of the standing level
abbrev pub text_of : Option Mesh → List ℕ
text_of None = []
text_of (Some m) = mesh_text m

-- 12 without a standing level, 22 where its text is longer than the buffer
abbrev pub write_refusal : State → ℕ → Verdict
write_refusal s room = cause 12 0 (missing s.standing) (cause 22 0 (nat_lt room (length (text_of s.standing))) fine)

-- where it is carried out, the text is in the front of the buffer and no other byte is changed; and what is written is the text of the standing level,
-- so that reading it gives that level's tables again; a refusal changes nothing
abbrev pub Leaves : State → List ℕ → List ℕ → Result ℕ Fault → Type 0
Leaves s e o (Ok n) = (m : Mesh) × (s.standing ≡ Some m) × Put e 0 (mesh_text m) n o × TextOf m (take n o)
Leaves s e o (Err f) = o ≡ e

pub record Writes (s : State) (e o : List ℕ) (r : Result ℕ Fault) : Type 0 where
  pub answers : told r ≡ write_refusal s (length e)
  pub leaves : Leaves s e o r
