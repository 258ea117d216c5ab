-- The level of a bench that is asked about: when there is none, and the tables that are lent of it.
use Rattle.std.specs.Prelude.{◌≡◌, ℕ, ◌*◌, ◌<◌, ◌≤◌, Some, Ok, Err, Option, Result}
use Rattle.mesh.specs.Marks.{MarkWord}
use Rattle.mesh.specs.Mesh.{Mesh, Counted, Lawful, mark, most_quads}
use Rattle.mesh.specs.Refusals.{Verdict, fine, declined, number_of, place_of}
use Rattle.mesh.specs.declared.fault.Fault.{Fault}
use Rattle.chain.specs.Calls.{State, cause, missing, raised}
use Rattle.tables.specs.Lent.{mesh}
use Rattle.tables.specs.declared.lent.Tables.{Tables}
use Rattle.bench.specs.declared.level.Level.{Level}
use Rattle.bench.specs.declared.level.Level.TheVariants.{Standing, InWork}

-- the level that is asked about
abbrev pub seen : State → Level → Option Mesh
seen s Standing = s.standing
seen s InWork = raised s.work

-- the refusal where there is none: 12 without a standing level, 15 without one in work
abbrev pub unseen : State → Level → Verdict
unseen s Standing = cause 12 0 (missing s.standing) fine
unseen s InWork = cause 12 0 (missing s.standing) (cause 15 0 (missing s.work) fine)

-- a standing level is lawful; one in work may be half written
abbrev pub LawfulIf : Level → Mesh → Type 0
LawfulIf Standing m = Lawful m
LawfulIf InWork m = Unit {0}

-- the tables that are lent are those of the level; they fit together, and every mark word stands for a mark
pub record Lent (s : State) (l : Level) (t : Tables) : Type 0 where
  pub there : unseen s l ≡ fine
  pub is : seen s l ≡ Some (mesh t)
  pub shape : Counted (mesh t)
  pub quads_few : (mesh t).quads ≤ most_quads
  pub points_few : (mesh t).points ≤ 2 * (mesh t).quads
  pub marks_are_words : (o : ℕ) → o < 2 * (mesh t).quads → MarkWord (mark (mesh t) o)
  pub lawful : LawfulIf l (mesh t)

abbrev pub Lends : State → Level → Result Tables Fault → Type 0
Lends s l (Ok t) = Lent s l t
Lends s l (Err f) = unseen s l ≡ declined (number_of f) (place_of f)
