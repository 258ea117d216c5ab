-- What a bench holds, cut out of its words, and what every bench keeps.
use Rattle.std.specs.Prelude.{◌≡◌, ℕ, ◌+◌, ◌*◌, ◌≤◌, List, length, count_by, nat_eq}
use Rattle.mesh.specs.Mesh.{Lawful}
use Rattle.tables.specs.declared.lent.Tables.{Tables}
use Rattle.chain.specs.Calls.{State, left, words_to_load, words_to_begin}
use Rattle.layout.specs.Layout.{block, standing_in, work_in, empty_bench, standing_bench, working_bench, InRange, Written}
use Rattle.bench.specs.declared.stage.Size.{Size}
use Rattle.bench.specs.declared.stage.Stage.{Stage}
use Rattle.bench.specs.declared.stage.Stage.TheVariants.{Empty, Standing, Working}

-- the bench at a stage, with its mark number and the words
abbrev pub bench_at : Stage → ℕ → List ℕ → State
bench_at Empty mark ws = empty_bench mark ws
bench_at (Standing s) mark ws = standing_bench mark s.quads s.points ws
bench_at (Working s n) mark ws = working_bench mark s.quads s.points ws

-- a level in work is not too large; that the counts of a level are those of a mesh is in their type
abbrev pub quads_below : Stage → ℕ
quads_below Empty = 0
quads_below (Standing s) = 0
quads_below (Working s n) = s.quads

abbrev pub Few : Stage → Type 0
Few s = quads_below s ≤ 262144

-- there are words enough
abbrev pub words_at : Stage → ℕ
words_at Empty = 0
words_at (Standing s) = words_to_load s.quads s.points
words_at (Working s n) = words_to_begin s.quads s.points

abbrev pub Room : Stage → List ℕ → Type 0
Room s ws = words_at s ≤ length ws

-- the standing level is lawful
abbrev pub Stands : Stage → List ℕ → Type 0
Stands Empty ws = Unit {0}
Stands (Standing s) ws = Lawful (standing_in ws s.quads s.points)
Stands (Working s n) ws = Lawful (standing_in ws s.quads s.points)

-- the level in work is what its tasks that ran have written
abbrev pub Works : Stage → List ℕ → Type 0
Works Empty ws = Unit {0}
Works (Standing s) ws = Unit {0}
Works (Working s n) ws = Written (standing_in ws s.quads s.points) (work_in ws s.quads s.points)

-- the count of tasks left is true
abbrev pub left_at : Stage → ℕ
left_at Empty = 0
left_at (Standing s) = 0
left_at (Working s n) = n

abbrev pub Count : Stage → ℕ → List ℕ → Type 0
Count s mark ws = left_at s ≡ left (bench_at s mark ws)

-- the tables t have the lengths of a level of size s
pub record Lengths (t : Tables) (s : Size) : Type 0 where
  pub corners : length t.corners.now ≡ 4 * s.quads
  pub friends : length t.friends.now ≡ 2 * s.quads
  pub marks : length t.marks.now ≡ 2 * s.quads
  pub starts : length t.starts.now ≡ s.points

-- there is room for a level in work above one of size s
abbrev pub RoomAbove : Size → List ℕ → Type 0
RoomAbove s ws = 44 * s.quads + 3 * s.points ≤ length ws

-- what a task asks of the words below it: that there are enough of them, and that those of the standing level are in range
pub record Ready (s : Size) (ws : List ℕ) : Type 0 where
  pub room : RoomAbove s ws
  pub range : InRange (standing_in ws s.quads s.points)

-- the bench b has a level in work above one of size s, of which n tasks have yet to run
pub record AtWork (b : State) (mark : ℕ) (s : Size) (n : ℕ) (ws : List ℕ) : Type 0 where
  pub is : b ≡ working_bench mark s.quads s.points ws
  pub few : s.quads ≤ 262144
  pub ready : Ready s ws
  pub lawful : ∥ Lawful (standing_in ws s.quads s.points) ∥₁
  pub written : ∥ Written (standing_in ws s.quads s.points) (work_in ws s.quads s.points) ∥₁
  pub count : n ≡ count_by (λ w. nat_eq w 0) (block ws (43 * s.quads + 2 * s.points) (s.quads + s.points))
