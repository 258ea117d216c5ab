-- What the writes of each call make of the levels of a bench.
use Rattle.std.specs.Prelude.{◌≡◌, ℕ, ◌+◌, ◌*◌, ◌≤◌, List, length, replicate, slice_set}
use Rattle.mesh.specs.Mesh.{Mesh, Counted}
use Rattle.refinement.specs.Tasks.{Task, TaskOf, number, blank, run}
use Rattle.layout.specs.Layout.{block, standing_in, work_in, laid, after_task, InRange}

-- a task leaves the standing level, and writes its words to the level in work
pub record TaskWrites (F V : ℕ) (t : Task) (ws vs : List ℕ) : Type 0 where
  pub length_kept : length vs ≡ length ws
  pub standing_kept : standing_in vs F V ≡ standing_in ws F V
  pub tables_written : (work_in vs F V).tables ≡ run (standing_in ws F V) t (work_in ws F V).tables
  pub ran_written : (work_in vs F V).ran ≡ slice_set (work_in ws F V).ran (number (standing_in ws F V) t) 1

abbrev pub TasksWrite : Type 0
TasksWrite =
    (F V : ℕ) (t : Task) (ws : List ℕ) → InRange (standing_in ws F V) → TaskOf (standing_in ws F V) t → 44 * F + 3 * V ≤ length ws →
    TaskWrites F V t ws (after_task (standing_in ws F V) t ws)

-- words of 0 after the standing level are a blank level in work, of which no task has run
pub record BeginWrites (F V : ℕ) (ws vs : List ℕ) : Type 0 where
  pub length_kept : length vs ≡ length ws
  pub standing_kept : standing_in vs F V ≡ standing_in ws F V
  pub tables_blank : (work_in vs F V).tables ≡ blank (standing_in ws F V)
  pub none_ran : (work_in vs F V).ran ≡ replicate (F + V) 0

abbrev pub BeginsWrite : Type 0
BeginsWrite = (F V : ℕ) (ws : List ℕ) → 44 * F + 3 * V ≤ length ws → BeginWrites F V ws (laid ws (8 * F + V) (replicate (36 * F + 2 * V) 0))

-- the tables of the level in work, laid over the front, are the standing level
pub record FinishWrites (F V : ℕ) (ws vs : List ℕ) : Type 0 where
  pub length_kept : length vs ≡ length ws
  pub standing_is : standing_in vs (4 * F) (V + 3 * F) ≡ (work_in ws F V).tables

abbrev pub FinishesWrite : Type 0
FinishesWrite = (F V : ℕ) (ws : List ℕ) → 44 * F + 3 * V ≤ length ws → FinishWrites F V ws (laid ws 0 (block ws (8 * F + V) (35 * F + V)))

-- four tables laid over the front are the standing level
abbrev pub four_laid : List ℕ → ℕ → List ℕ → List ℕ → List ℕ → List ℕ → List ℕ
four_laid ws F cs fs ms ss = laid (laid (laid (laid ws 0 cs) (4 * F) fs) (6 * F) ms) (8 * F) ss

pub record LoadWrites (m : Mesh) (ws vs : List ℕ) : Type 0 where
  pub length_kept : length vs ≡ length ws
  pub standing_is : standing_in vs m.quads m.points ≡ m

abbrev pub LoadsWrite : Type 0
LoadsWrite =
    (m : Mesh) (ws : List ℕ) → Counted m → 8 * m.quads + m.points ≤ length ws →
    LoadWrites m ws (four_laid ws m.quads m.corners m.friends m.marks m.starts)
