-- What the calls tell of a bench, looking back from the latest. Nothing is kept here from call to call:
-- all is judged from the making of the bench and the calls.
use Rattle.std.specs.Prelude.{ℕ, suc, ◌+◌, cond, List, [], ◌∷◌, ◌++◌, map, Some, None, Option, ◌==◌}
use Rattle.std.specs.List.{range_with_len}
use Rattle.mesh.specs.Causes.{mesh_of}
use Rattle.mesh.specs.Mesh.{Mesh}
use Rattle.refinement.specs.Tasks.{Task, quad_task, point_task, number, blank, runs, level}
use Rattle.mesh.specs.Refusals.{Verdict, fine, declined}
use Rattle.lines.specs.Reading.{reading}
use Rattle.chain.specs.Calls.{Call, load, load_text, begin, quad, point, finish, withdraw, Work, State, refusal, read_mesh}

-- `done` stands for the calls that were carried out, the latest first. What they tell:

-- the mesh loaded latest, from tables or from a text
abbrev pub latest_mesh : List Call → Option Mesh
latest_mesh [] = None
latest_mesh (load cs fs ms ss ∷ before) = Some (mesh_of cs fs ms ss)
latest_mesh (load_text bytes room ∷ before) = read_mesh (reading bytes room)
latest_mesh (begin ∷ before) = latest_mesh before
latest_mesh (quad q ∷ before) = latest_mesh before
latest_mesh (point v ∷ before) = latest_mesh before
latest_mesh (finish slip ∷ before) = latest_mesh before
latest_mesh (withdraw slip ∷ before) = latest_mesh before

-- how many finishes there were since
abbrev pub finishes : List Call → ℕ
finishes [] = 0
finishes (load cs fs ms ss ∷ before) = 0
finishes (load_text bytes room ∷ before) = 0
finishes (begin ∷ before) = finishes before
finishes (quad q ∷ before) = finishes before
finishes (point v ∷ before) = finishes before
finishes (finish slip ∷ before) = suc (finishes before)
finishes (withdraw slip ∷ before) = finishes before

-- the tasks run since the begin that is not yet finished or withdrawn, in their order; none where there is no such begin
abbrev pub and_then : Option (List Task) → Task → Option (List Task)
and_then None t = None
and_then (Some ts) t = Some (ts ++ t ∷ [])

abbrev pub tasks_since : List Call → Option (List Task)
tasks_since [] = None
tasks_since (load cs fs ms ss ∷ before) = None
tasks_since (load_text bytes room ∷ before) = None
tasks_since (begin ∷ before) = Some []
tasks_since (quad q ∷ before) = and_then (tasks_since before) (quad_task q)
tasks_since (point v ∷ before) = and_then (tasks_since before) (point_task v)
tasks_since (finish slip ∷ before) = None
tasks_since (withdraw slip ∷ before) = None

-- the standing level: none before a load, and then the mesh loaded latest, refined once for each finish since
abbrev pub refined_times : ℕ → Option Mesh → Option Mesh
refined_times k None = None
refined_times k (Some m) = Some (level m k)

abbrev pub standing_after : List Call → Option Mesh
standing_after done = refined_times (finishes done) (latest_mesh done)

-- the level in work of the standing level r: what the tasks ts wrote on blank tables, and for each task by its number
-- whether it is one of them
abbrev pub ran_word : Mesh → List Task → ℕ → ℕ
ran_word r [] i = 0
ran_word r (t ∷ ts) i = cond (number r t == i) 1 (ran_word r ts i)

unfoldable pub ran_words : Mesh → List Task → List ℕ
ran_words r ts = map (ran_word r ts) (range_with_len 0 (r.quads + r.points))

abbrev pub work_on : Option Mesh → Option (List Task) → Option Work
work_on None o = None
work_on (Some r) None = None
work_on (Some r) (Some ts) = Some (record { tables = runs r ts (blank r); ran = ran_words r ts })

-- the whole bench
abbrev pub told_bench : ℕ → ℕ → List Call → State
told_bench words mark done = record {
  words = words;
  mark = mark;
  standing = standing_after done;
  work = work_on (standing_after done) (tasks_since done);
}

-- Which of any calls were carried out: those of which no cause held, as the calls before them tell.
abbrev pub kept_if : Verdict → Call → List Call → List Call
kept_if fine c done = c ∷ done
kept_if (declined n p) c done = done

abbrev pub carried_out : ℕ → ℕ → List Call → List Call
carried_out words mark [] = []
carried_out words mark (c ∷ before) =
    let done = carried_out words mark before in
    kept_if (refusal (told_bench words mark done) c) c done
