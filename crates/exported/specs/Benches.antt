-- What calls on a bench that was just made answer in numbers, and what stands then.
use Rattle.std.specs.Prelude.{◌≡◌, ℕ, ◌+◌, ◌*◌, Bool, true, false, cond, List, ◌++◌, length, drop, Some, None, Option, Result, nat_lt}
use Rattle.mesh.specs.Count.{least}
use Rattle.mesh.specs.Mesh.{Mesh}
use Rattle.mesh.specs.Refusals.{Verdict, fine, declined, told}
use Rattle.mesh.specs.declared.fault.Fault.{Fault}
use Rattle.lines.specs.Text.{mesh_text}
use Rattle.refinement.specs.Tasks.{level}
use Rattle.chain.specs.Calls.{State, begin, holding, made, refusal, load_refusal, and_next, cause, quads_of, points_of}
use Rattle.layout.specs.Laws.{four_laid}
use Rattle.bench.specs.Model.{Counts}
use Rattle.exported.specs.Answers.{Becomes}
use Rattle.exported.specs.declared.Found.{Found}
use Rattle.exported.specs.declared.Written.{Written}

-- the standing level, if there is one and room for it, laid over the front of the words: corners, friends, marks, starts
abbrev pub copied : Option Mesh → List ℕ → List ℕ
copied None ws = ws
copied (Some m) ws =
    cond (nat_lt (length ws) (8 * m.quads + m.points)) ws (four_laid ws m.quads m.corners m.friends m.marks m.starts)

-- a bench on which m stands, and no level is in work
abbrev pub standing_on : ℕ → ℕ → Mesh → State
standing_on words mark m = holding (made words mark) (Some m) None

abbrev pub refused : Verdict → Bool
refused fine = false
refused (declined n p) = true

-- how many of n refinements of m are carried out: up to the first level at which a begin is refused
unfoldable pub levels_made : ℕ → ℕ → Mesh → ℕ → ℕ
levels_made words mark m n = least (λ k. refused (refusal (standing_on words mark (level m k)) begin)) n

-- and the refusal that ended them, if one did
unfoldable pub refining_verdict : ℕ → ℕ → Mesh → ℕ → Verdict
refining_verdict words mark m n =
    let k = levels_made words mark m n in
    cond (nat_lt k n) (refusal (standing_on words mark (level m k)) begin) fine

-- a bench on which some mesh stands, asked to refine it n times
abbrev pub RefinedTimes : ℕ → State → State → Verdict → Type 0
RefinedTimes n entry exit answer =
    (words mark : ℕ) (m : Mesh) → entry ≡ standing_on words mark m →
    (exit ≡ standing_on words mark (level m (levels_made words mark m n))) × (answer ≡ refining_verdict words mark m n)

-- a bench of so many words that was made, loaded with m and asked to refine it n times: the refusal, and what stands then
abbrev pub refine_verdict : ℕ → ℕ → Mesh → ℕ → Verdict
refine_verdict words mark m n = and_next (load_refusal (made words mark) m) (refining_verdict words mark m n)

abbrev pub standing_if : Verdict → Mesh → Option Mesh
standing_if fine m = Some m
standing_if (declined k p) m = None

abbrev pub refine_standing : ℕ → ℕ → Mesh → ℕ → Option Mesh
refine_standing words mark m n = standing_if (load_refusal (made words mark) m) (level m (levels_made words mark m n))

-- any bench that was asked to load m, and to refine it n times unless that was refused: what is left is its levels, or all as it was
abbrev pub left_by_load : Verdict → State → Mesh → ℕ → State
left_by_load fine s m n = standing_on s.words s.mark (level m (levels_made s.words s.mark m n))
left_by_load (declined k p) s m n = s

abbrev pub LoadedAndRefined : ℕ → Mesh → State → State → Verdict → Type 0
LoadedAndRefined n m entry exit answer =
    (exit ≡ left_by_load (load_refusal entry m) entry m n) × (answer ≡ and_next (load_refusal entry m) (refining_verdict entry.words entry.mark m n))

-- a refusal in numbers, with the counts of the level that stands, 0 where there is none
abbrev pub found_at : Verdict → Option Mesh → Found
found_at fine o = record { number = 0; place = 0; quads = quads_of o; points = points_of o }
found_at (declined k p) o = record { number = k; place = p; quads = quads_of o; points = points_of o }

-- a load of m and then the writing of its text into a buffer of so many bytes: 22 where the text is longer
abbrev pub write_verdict : State → Mesh → ℕ → Verdict
write_verdict s m room = and_next (load_refusal s m) (cause 22 0 (nat_lt room (length (mesh_text m))) fine)

-- the count of bytes written, or the refusal
abbrev pub written_of : Verdict → ℕ → Written
written_of fine n = record { number = 0; place = 0; count = n }
written_of (declined k p) n = record { number = k; place = p; count = 0 }

-- text t written to the front of a buffer that held e, and what was answered; on the refusal v nothing is written
pub record Wrote (v : Verdict) (t e o : List ℕ) (r : Result ℕ Fault) : Type 0 where
  pub answers : told r ≡ v
  pub counts : Counts r (length t)
  pub leaves : Becomes v e (t ++ drop (length t) e) o
