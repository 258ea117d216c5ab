-- Calls on a bench: what is asked of its standing level.
use Rattle.std.specs.Prelude.{ℕ, ◌+◌, ◌*◌, List, Some, None, Option, Result}
use Rattle.mesh.specs.Mesh.{Mesh}
use Rattle.mesh.specs.Refusals.{Verdict, declined}
use Rattle.carry.specs.Rows.{refusal}

-- 12 where there is no standing level, else the refusal that it has
abbrev pub asked : Option Mesh → (Mesh → Verdict) → Verdict
asked None refused = declined 12 0
asked (Some m) refused = refused m

-- there is a standing level, and P holds of it
abbrev pub Of : Option Mesh → (Mesh → Type 0) → Type 0
Of None P = ⊥
Of (Some m) P = P m

-- why values on the points of a standing level are refused, and why values on its corners are
abbrev pub values_asked : {V R : Type 0} → (R → Result V ℕ) → Option Mesh → List R → ℕ → Verdict
values_asked verdict o rows room = asked o (λ m. refusal verdict m.quads m.points (m.points + 3 * m.quads) rows room)

abbrev pub corners_asked : {V R : Type 0} → (R → Result V ℕ) → Option Mesh → List R → ℕ → Verdict
corners_asked verdict o rows room = asked o (λ m. refusal verdict m.quads (4 * m.quads) (16 * m.quads) rows room)
