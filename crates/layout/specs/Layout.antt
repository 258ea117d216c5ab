-- Where the levels of a bench stand in its working words.
-- The standing level, of F quads and V points, has the first 8F + V words. While a level is in work, its tables follow, which are those of a level
-- of 4F quads and V + 3F points, and then F + V words that say which tasks have run: 44F + 3V in all. The words past these are free.
use Rattle.std.specs.Prelude.{◌≡◌, ℕ, ◌+◌, ◌*◌, ◌<◌, ◌≤◌, List, [], ◌∷◌, ◌++◌, length, take, drop, Some, None}
use Rattle.std.specs.List.{AllByRecursion}
use Rattle.mesh.specs.Mesh.{Mesh, point, friend, start}
use Rattle.refinement.specs.Tasks.{Task, TaskOf, number, corner_writes, friend_writes, mark_writes, start_writes, put, blank, runs}
use Rattle.chain.specs.Calls.{Work, State, made}
use Rattle.chain.specs.History.{ran_words}

-- n words from word a on
abbrev pub block : List ℕ → ℕ → ℕ → List ℕ
block ws a n = take n (drop a ws)

-- the level of F quads and V points whose tables begin at word a: corners, friends, marks, starts
abbrev pub level_at : List ℕ → ℕ → ℕ → ℕ → Mesh
level_at ws a F V = record {
  quads = F;
  points = V;
  corners = block ws a (4 * F);
  friends = block ws (a + 4 * F) (2 * F);
  marks = block ws (a + 6 * F) (2 * F);
  starts = block ws (a + 8 * F) V;
}

-- the standing level, and the level in work above one of F quads and V points
abbrev pub standing_in : List ℕ → ℕ → ℕ → Mesh
standing_in ws F V = level_at ws 0 F V

abbrev pub work_in : List ℕ → ℕ → ℕ → Work
work_in ws F V = record { tables = level_at ws (8 * F + V) (4 * F) (V + 3 * F); ran = block ws (43 * F + 2 * V) (F + V) }

-- a bench without a standing level, with one, and with a level in work besides
abbrev pub empty_bench : ℕ → List ℕ → State
empty_bench mark ws = made (length ws) mark

abbrev pub standing_bench : ℕ → ℕ → ℕ → List ℕ → State
standing_bench mark F V ws = record { words = length ws; mark = mark; standing = Some (standing_in ws F V); work = None }

abbrev pub working_bench : ℕ → ℕ → ℕ → List ℕ → State
working_bench mark F V ws = record { words = length ws; mark = mark; standing = Some (standing_in ws F V); work = Some (work_in ws F V) }

-- the words xs laid over ws, from word a on
abbrev pub laid : List ℕ → ℕ → List ℕ → List ℕ
laid ws a xs = take a ws ++ (xs ++ drop (a + length xs) ws)

-- writes to a table that begins at word a
abbrev pub shifted : ℕ → List (ℕ × ℕ) → List (ℕ × ℕ)
shifted a [] = []
shifted a (w ∷ ws) = (a + w.0, w.1) ∷ shifted a ws

-- the words after a task: what it writes to the four tables, and that it has run
abbrev pub after_task : Mesh → Task → List ℕ → List ℕ
after_task m t ws =
    let a = 8 * m.quads + m.points in
    put (shifted (43 * m.quads + 2 * m.points) ((number m t, 1) ∷ []))
    (put (shifted (a + 8 * (4 * m.quads)) (start_writes m t))
    (put (shifted (a + 6 * (4 * m.quads)) (mark_writes m t))
    (put (shifted (a + 4 * (4 * m.quads)) (friend_writes m t))
    (put (shifted a (corner_writes m t)) ws))))

-- the words of a level are in range: corners have points, friends are edges, starts are corners
pub record InRange (m : Mesh) : Type 0 where
  pub points_enough : m.quads ≤ m.points
  pub corners_have_points : (c : ℕ) → c < 4 * m.quads → point m c < m.points
  pub friends_are_edges : (o : ℕ) → o < 2 * m.quads → friend m o < 2 * m.quads
  pub starts_are_corners : (v : ℕ) → v < m.points → start m v < 4 * m.quads

-- w is what some tasks of the level m have written, and tells which they are
pub record Written (m : Mesh) (w : Work) : Type 0 where
  pub tasks_run : List Task
  pub are_tasks : AllByRecursion (TaskOf m) tasks_run
  pub tables_are : w.tables ≡ runs m tasks_run (blank m)
  pub ran_are : w.ran ≡ ran_words m tasks_run
