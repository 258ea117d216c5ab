-- A bench and the calls on it: when a call is refused, and what it changes where it is carried out.
-- A bench is the store of one standing level and at most one level in work; a slip is what closes a level in work.
use Rattle.std.specs.Prelude.{ℕ, ◌+◌, ◌*◌, Bool, true, false, cond, not, List, [], ◌∷◌, replicate, Some, None, count_by, Option, ◌==◌, nat_eq, nat_le, nat_lt, slice_index, slice_set}
use Rattle.mesh.specs.Causes.{judge, mesh_of}
use Rattle.mesh.specs.Count.{least}
use Rattle.mesh.specs.Mesh.{Mesh, most_quads}
use Rattle.mesh.specs.Refusals.{Verdict, fine, declined, number_of, place_of}
use Rattle.lines.specs.Reading.{Room, Reading, accepted, refused, reading}
use Rattle.refinement.specs.Tasks.{Task, quad_task, point_task, number, blank, run as run_task}

-- A call, with all that it is given, which may be anything: four tables (corners, friends, marks, starts); or the bytes of a text, and the room
-- of the tables lent to hold its words; the number of a quad or of a point; or a slip, by the mark number that it bears.
pub data Call : Type 0 where
  load : List ℕ → List ℕ → List ℕ → List ℕ → Call
  load_text : List ℕ → Room → Call
  begin : Call
  quad : ℕ → Call
  point : ℕ → Call
  finish : ℕ → Call
  withdraw : ℕ → Call

-- A level in work: its tables, and a word for each task, quads first and then points: 1 if it has run, else 0.
pub record Work : Type 0 where
  pub tables : Mesh
  pub ran : List ℕ

-- A bench: how many working words it has, its mark number, the standing level, the level in work.
pub record State : Type 0 where
  pub words : ℕ
  pub mark : ℕ
  pub standing : Option Mesh
  pub work : Option Work

-- a bench that was just made
abbrev pub made : ℕ → ℕ → State
made words mark = record { words = words; mark = mark; standing = None; work = None }

-- how many tasks of the level in work have not run; quad and point answer it once they have run theirs
abbrev pub ran_of : Option Work → List ℕ
ran_of None = []
ran_of (Some w) = w.ran

abbrev pub left : State → ℕ
left s = count_by (λ w. nat_eq w 0) (ran_of s.work)

-- the working words that a load and a begin need, by the quads and the points of the mesh
abbrev pub words_to_load : ℕ → ℕ → ℕ
words_to_load F V = 8 * F + V

abbrev pub words_to_begin : ℕ → ℕ → ℕ
words_to_begin F V = 44 * F + 3 * V

-- When a call is refused: the first cause that holds, by number and then by place.
--     1 to 10   the tables are no lawful mesh; the place is the first corner, off-edge or point at fault
--     11        a level is in work
--     12        there is no standing level
--     13        the refined level would have too many quads
--     14        too few working words
--     15        there is no level in work
--     16        no such quad or point; the place is the number given
--     17        the slip bears another mark number
--     18        a task has not run; the place is the lowest such, quads first and then points from F on
--     21, 22    the text is not read; the place is that of the line at fault. Reading comes before all other causes

-- a cause: its number, its place and whether it holds; where it does not, the later ones are tried
abbrev pub cause : ℕ → ℕ → Bool → Verdict → Verdict
cause n p holds later = cond holds (declined n p) later

-- a verdict, and a later one where it is fine
abbrev pub and_next : Verdict → Verdict → Verdict
and_next fine later = later
and_next (declined n p) later = declined n p

abbrev pub missing : {A : Type 0} → Option A → Bool
missing None = true
missing (Some x) = false

-- the counts of the standing level, 0 where there is none
abbrev pub quads_of : Option Mesh → ℕ
quads_of None = 0
quads_of (Some m) = m.quads

abbrev pub points_of : Option Mesh → ℕ
points_of None = 0
points_of (Some m) = m.points

-- a load of the tables of m
abbrev pub load_refusal : State → Mesh → Verdict
load_refusal s m =
    and_next (judge m)
    (cause 11 0 (not (missing s.work))
    (cause 14 0 (nat_lt s.words (words_to_load m.quads m.points)) fine))

-- the mesh of the tables that were read
abbrev pub tables_of : Mesh → Mesh
tables_of m = mesh_of m.corners m.friends m.marks m.starts

-- a text: refused as it is read, and else as a load of what was read
abbrev pub text_refusal : State → Reading → Verdict
text_refusal s (accepted m) = load_refusal s (tables_of m)
text_refusal s (refused f) = declined (number_of f) (place_of f)

abbrev pub refusal : State → Call → Verdict
refusal s (load cs fs ms ss) = load_refusal s (mesh_of cs fs ms ss)
refusal s (load_text bytes room) = text_refusal s (reading bytes room)
refusal s begin =
    let F = quads_of s.standing in
    let V = points_of s.standing in
    cause 11 0 (not (missing s.work))
    (cause 12 0 (missing s.standing)
    (cause 13 0 (nat_lt most_quads (4 * F))
    (cause 14 0 (nat_lt s.words (words_to_begin F V)) fine)))
refusal s (quad q) =
    cause 12 0 (missing s.standing)
    (cause 15 0 (missing s.work)
    (cause 16 q (nat_le (quads_of s.standing) q) fine))
refusal s (point v) =
    cause 12 0 (missing s.standing)
    (cause 15 0 (missing s.work)
    (cause 16 v (nat_le (points_of s.standing) v) fine))
refusal s (finish slip) =
    let tasks = quads_of s.standing + points_of s.standing in
    let lowest = least (λ i. nat_eq (slice_index (ran_of s.work) i) 0) tasks in
    cause 12 0 (missing s.standing)
    (cause 15 0 (missing s.work)
    (cause 17 0 (not (slip == s.mark))
    (cause 18 lowest (nat_lt lowest tasks) fine)))
refusal s (withdraw slip) =
    cause 12 0 (missing s.standing)
    (cause 15 0 (missing s.work)
    (cause 17 0 (not (slip == s.mark)) fine))

-- What a call leaves where it is carried out.

-- what a text that was read has for a mesh
abbrev pub read_mesh : Reading → Option Mesh
read_mesh (accepted m) = Some (tables_of m)
read_mesh (refused f) = None

-- begin opens a level in work whose words are all 0, and no task has run
abbrev pub opened : Option Mesh → Option Work
opened None = None
opened (Some m) = Some (record { tables = blank m; ran = replicate (m.quads + m.points) 0 })

-- a task writes its words, and has run
abbrev pub worked : Option Mesh → Task → Option Work → Option Work
worked None t o = o
worked (Some m) t None = None
worked (Some m) t (Some w) = Some (record { tables = run_task m t w.tables; ran = slice_set w.ran (number m t) 1 })

-- finish makes the level in work the standing one
abbrev pub raised : Option Work → Option Mesh
raised None = None
raised (Some w) = Some w.tables

abbrev pub holding : State → Option Mesh → Option Work → State
holding s standing work = record { words = s.words; mark = s.mark; standing = standing; work = work }

abbrev pub carry : State → Call → State
carry s (load cs fs ms ss) = holding s (Some (mesh_of cs fs ms ss)) None
carry s (load_text bytes room) = holding s (read_mesh (reading bytes room)) None
carry s begin = holding s s.standing (opened s.standing)
carry s (quad q) = holding s s.standing (worked s.standing (quad_task q) s.work)
carry s (point v) = holding s s.standing (worked s.standing (point_task v) s.work)
carry s (finish slip) = holding s (raised s.work) None
carry s (withdraw slip) = holding s s.standing None

-- one call, carried out or refused
abbrev pub either : Verdict → State → State → State
either fine after before = after
either (declined n p) after before = before

abbrev pub next : State → Call → State
next s c = either (refusal s c) (carry s c) s

-- any calls, the latest first, on a bench made with so many words and this mark number
abbrev pub run : ℕ → ℕ → List Call → State
run words mark [] = made words mark
run words mark (c ∷ before) = next (run words mark before) c
