-- The laws of lawful meshes and of refinement.
use Rattle.std.specs.Prelude.{◌≡◌, ℕ, ◌+◌, ◌*◌, ◌%◌, ◌^◌, ◌<◌, ◌≤◌, ◌⊎◌, List, [], ◌∷◌, ◌++◌, length, slice_index}
use Rattle.std.specs.List.{ContainsAt as Has, AllByRecursion}
use Rattle.mesh.specs.Causes.{FirstCause, judge, mesh_of}
use Rattle.mesh.specs.Mesh.{Mesh, Counted, Lawful, Meets, RunsBack, point, friend, mark, step, valence, most_quads}
use Rattle.mesh.specs.Refusals.{fine, declined}
use Rattle.refinement.specs.Pillow.{pillow, pillow_refined, pillow_marked}
use Rattle.refinement.specs.Tasks.{Task, TaskOf, Names, corner_writes, friend_writes, mark_writes, start_writes, After, run, runs, blank, refine, level, Stands, Waits, Refined, old_slot, face_slot, edge_slot, fallen, half_at_end, half_at_beginning}

-- a mesh is declined for its first cause at its first place, and for no other
pub record DeclinedRight (m : Mesh) (k p : ℕ) : Type 0 where
  pub only_first : judge m ≡ declined k p → FirstCause m k p
  pub the_first : FirstCause m k p → judge m ≡ declined k p

abbrev pub CausesTriedInOrder : Type 0
CausesTriedInOrder = (m : Mesh) (k p : ℕ) → DeclinedRight m k p

-- no cause is found exactly in a lawful mesh
pub record JudgedRight (m : Mesh) : Type 0 where
  pub only_lawful : judge m ≡ fine → Lawful m
  pub all_lawful : Lawful m → judge m ≡ fine

abbrev pub Judges : Type 0
Judges = (m : Mesh) → JudgedRight m

-- four tables fit together: a corner table in fours, and a friend and a mark for every two corners
pub record Fitting (cs fs ms : List ℕ) : Type 0 where
  pub fours : length cs % 4 ≡ 0
  pub half_friends : 2 * length fs ≡ length cs
  pub half_marks : 2 * length ms ≡ length cs

pub record ShapeRight (cs fs ms ss : List ℕ) : Type 0 where
  pub counted_fits : Counted (mesh_of cs fs ms ss) → Fitting cs fs ms
  pub fitting_counted : Fitting cs fs ms → Counted (mesh_of cs fs ms ss)

abbrev pub TablesHaveShape : Type 0
TablesHaveShape = (cs fs ms ss : List ℕ) → ShapeRight cs fs ms ss

-- a step keeps the point and the side of the corner
abbrev pub StepKeeps : Type 0
StepKeeps = (m : Mesh) → Lawful m → (c : ℕ) → c < 4 * m.quads → (step m c < 4 * m.quads) × (point m (step m c) ≡ point m c) × (step m c % 2 ≡ c % 2)

-- every corner is met by one walk, once
pub record MetOnce (m : Mesh) (c : ℕ) : Type 0 where
  pub by : ℕ
  pub after : ℕ
  pub meets : Meets m by after c
  pub only : (v i : ℕ) → Meets m v i c → (v ≡ by) × (i ≡ after)

abbrev pub CornersMetOnce : Type 0
CornersMetOnce = (m : Mesh) → Lawful m → (c : ℕ) → c < 4 * m.quads → MetOnce m c

-- every edge is the friend of one off-edge
pub record ServesOnce (m : Mesh) (g : ℕ) : Type 0 where
  pub off : ℕ
  pub off_below : off < 2 * m.quads
  pub is_friend : friend m off ≡ g
  pub only : (o : ℕ) → o < 2 * m.quads → friend m o ≡ g → o ≡ off

abbrev pub EdgesServeOnce : Type 0
EdgesServeOnce = (m : Mesh) → Lawful m → (g : ℕ) → g < 2 * m.quads → ServesOnce m g

-- off-edges and edges are friends in pairs: each off-edge has an edge for friend, run the other way, and no edge serves two
pub record Paired (m : Mesh) : Type 0 where
  pub has_friend : (o : ℕ) → o < 2 * m.quads → friend m o < 2 * m.quads
  pub runs_back : (o : ℕ) → o < 2 * m.quads → RunsBack m o
  pub serves_once : (o p : ℕ) → o < 2 * m.quads → p < 2 * m.quads → friend m o ≡ friend m p → o ≡ p

abbrev pub FriendsPair : Type 0
FriendsPair = (m : Mesh) → Lawful m → Paired m

-- every slot of a new table is written by one task
pub record OwnedOnce (m : Mesh) (writes : Task → List (ℕ × ℕ)) (s : ℕ) : Type 0 where
  pub owner : Task
  pub is_task : TaskOf m owner
  pub writes_it : Names s (writes owner)
  pub only : (t : Task) → TaskOf m t → Names s (writes t) → t ≡ owner

pub record SlotsOwned (m : Mesh) : Type 0 where
  pub of_corners : (s : ℕ) → s < 16 * m.quads → OwnedOnce m (corner_writes m) s
  pub of_friends : (s : ℕ) → s < 8 * m.quads → OwnedOnce m (friend_writes m) s
  pub of_marks : (s : ℕ) → s < 8 * m.quads → OwnedOnce m (mark_writes m) s
  pub of_starts : (s : ℕ) → s < m.points + 3 * m.quads → OwnedOnce m (start_writes m) s

abbrev pub SlotsOwnedOnce : Type 0
SlotsOwnedOnce = (m : Mesh) → Lawful m → SlotsOwned m

-- the level in work before any task, and one task more
abbrev pub WorkBegins : Type 0
WorkBegins = (m : Mesh) → After m [] (blank m)

abbrev pub WorkGoesOn : Type 0
WorkGoesOn = (m w : Mesh) (ts : List Task) (t : Task) → After m ts w → TaskOf m t → After m (ts ++ t ∷ []) (run m t w)

-- what a task wrote stands, whatever ran after it
abbrev pub TasksStand : Type 0
TasksStand = (m : Mesh) → Lawful m → (ts : List Task) → AllByRecursion (TaskOf m) ts → (t : Task) → Has ts t → Stands m (runs m ts (blank m)) t

-- the slots of a task that has not run are 0
abbrev pub TasksWait : Type 0
TasksWait =
    (m : Mesh) → Lawful m → (ts : List Task) → AllByRecursion (TaskOf m) ts → (t : Task) → TaskOf m t → (Has ts t → ⊥) →
    Waits m (runs m ts (blank m)) t

-- a task that stands is run again to no effect
abbrev pub RunAgain : Type 0
RunAgain = (m w : Mesh) (t : Task) → Stands m w t → run m t w ≡ w

-- every task at least once, in any order, makes the refined level
abbrev pub AnyOrder : Type 0
AnyOrder =
    (m : Mesh) → Lawful m → (ts : List Task) → AllByRecursion (TaskOf m) ts → ((t : Task) → TaskOf m t → Has ts t) →
    runs m ts (blank m) ≡ refine m

-- slot s of a table after the tasks ts: one word of one task is due there; it stands if that task is one of ts, and else 0 does
pub record SlotHolds (m : Mesh) (ts : List Task) (writes : Task → List (ℕ × ℕ)) (table : List ℕ) (s : ℕ) : Type 0 where
  pub owner : Task
  pub word : ℕ
  pub is_task : TaskOf m owner
  pub writes_it : Has (writes owner) (s, word)
  pub only : (t : Task) (x : ℕ) → TaskOf m t → Has (writes t) (s, x) → (t ≡ owner) × (x ≡ word)
  pub if_run : Has ts owner → slice_index table s ≡ word
  pub if_not : (Has ts owner → ⊥) → slice_index table s ≡ 0

-- the level in work after the tasks ts, in any order, repeated or not: its counts and every slot of its tables; and if each task is one of ts, it is the refined level
pub record MadeBy (m : Mesh) (ts : List Task) (w : Mesh) : Type 0 where
  pub quads_are : w.quads ≡ 4 * m.quads
  pub points_are : w.points ≡ m.points + 3 * m.quads
  pub counted : Counted w
  pub of_corners : (s : ℕ) → s < 16 * m.quads → SlotHolds m ts (corner_writes m) w.corners s
  pub of_friends : (s : ℕ) → s < 8 * m.quads → SlotHolds m ts (friend_writes m) w.friends s
  pub of_marks : (s : ℕ) → s < 8 * m.quads → SlotHolds m ts (mark_writes m) w.marks s
  pub of_starts : (s : ℕ) → s < m.points + 3 * m.quads → SlotHolds m ts (start_writes m) w.starts s
  pub all_run : ((t : Task) → TaskOf m t → Has ts t) → w ≡ refine m

abbrev pub AnyListOfTasks : Type 0
AnyListOfTasks = (m : Mesh) → Lawful m → (ts : List Task) → AllByRecursion (TaskOf m) ts → MadeBy m ts (runs m ts (blank m))

-- a level in which every task stands is the refined one
abbrev pub RefinedIs : Type 0
RefinedIs = (m : Mesh) → Lawful m → (r : Mesh) → Refined m r → r ≡ refine m

-- a refined level is lawful
abbrev pub RefinementKeepsLawful : Type 0
RefinementKeepsLawful = (m : Mesh) → Lawful m → 4 * m.quads ≤ most_quads → Lawful (refine m)

-- and so is every further level that is not too large
abbrev pub LevelsLawful : Type 0
LevelsLawful = (m : Mesh) → Lawful m → (k : ℕ) → 4 ^ k * m.quads ≤ most_quads → Lawful (level m k) × ((level m k).quads ≡ 4 ^ k * m.quads)

-- an old point keeps its valence, and every new one has 4
pub record NewValences (m : Mesh) : Type 0 where
  pub at_old : (v : ℕ) → v < m.points → valence (refine m) (old_slot m v) ≡ valence m v
  pub at_face : (q : ℕ) → q < m.quads → valence (refine m) (face_slot q) ≡ 4
  pub at_edge : (e : ℕ) → e < 2 * m.quads → valence (refine m) (edge_slot e) ≡ 4

abbrev pub ValencesKept : Type 0
ValencesKept = (m : Mesh) → Lawful m → NewValences m

-- the edges made inside a quad are smooth, and both halves of an edge have its fallen mark
pub record NewMarks (m : Mesh) : Type 0 where
  pub inside : (c : ℕ) → c < 4 * m.quads → mark (refine m) (2 * c) ≡ 0
  pub at_end : (o : ℕ) → o < 2 * m.quads → mark (refine m) (half_at_end o) ≡ fallen (mark m o)
  pub at_beginning : (o : ℕ) → o < 2 * m.quads → mark (refine m) (half_at_beginning m o) ≡ fallen (mark m o)

abbrev pub MarksFall : Type 0
MarksFall = (m : Mesh) → Lawful m → NewMarks m

-- new off-edge s is a half of one edge, and of no other
pub record HalfOfOne (m : Mesh) (s : ℕ) : Type 0 where
  pub whole : ℕ
  pub whole_below : whole < 2 * m.quads
  pub is_half : (s ≡ half_at_end whole) ⊎ (s ≡ half_at_beginning m whole)
  pub only : (o : ℕ) → o < 2 * m.quads → (s ≡ half_at_end o) ⊎ (s ≡ half_at_beginning m o) → o ≡ whole

-- each new edge that is not made inside a quad, being that of an odd off-edge, is a half of exactly one edge
abbrev pub HalvesAre : Type 0
HalvesAre = (m : Mesh) → Lawful m → (s : ℕ) → s < 8 * m.quads → s % 2 ≡ 1 → HalfOfOne m s

-- the pillow, plain and with a mark at off-edge 2
pub record PillowCases : Type 0 where
  pub plain_lawful : Lawful pillow
  pub plain_refined : refine pillow ≡ pillow_refined
  pub mark_falls : (mark (refine (pillow_marked 300)) 3 ≡ 44) × (mark (refine (pillow_marked 300)) 13 ≡ 44)
  pub mark_ends : mark (refine (pillow_marked 200)) 3 ≡ 0
  pub mark_stays : mark (refine (pillow_marked 65535)) 13 ≡ 65535
  pub mark_most : judge (pillow_marked 4096) ≡ fine
  pub mark_too_large : judge (pillow_marked 4097) ≡ declined 6 2
