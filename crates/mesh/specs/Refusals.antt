-- Why a call is refused: the number of the cause, and its place.
use Rattle.std.specs.Prelude.{ℕ, Ok, Err, Result}
use Rattle.mesh.specs.declared.fault.Fault.{Fault}
use Rattle.mesh.specs.declared.fault.Fault.TheVariants.{Shape, QuadCount, PointCount, NoSuchPoint, NoSuchEdge, NoMark, NotOpposed, NotAtPoint, NotBack, CornersUnmet, LevelInWork, NoStandingLevel, LevelTooLarge, TooFewWords, NoLevelInWork, NoSuchNumber, OtherSlip, TaskNotRun, WrongLength, NoValue, BadLine, TooShort}

abbrev pub number_of : Fault → ℕ
number_of Shape = 1
number_of QuadCount = 2
number_of PointCount = 3
number_of (NoSuchPoint c) = 4
number_of (NoSuchEdge o) = 5
number_of (NoMark o) = 6
number_of (NotOpposed o) = 7
number_of (NotAtPoint v) = 8
number_of (NotBack v) = 9
number_of CornersUnmet = 10
number_of LevelInWork = 11
number_of NoStandingLevel = 12
number_of LevelTooLarge = 13
number_of TooFewWords = 14
number_of NoLevelInWork = 15
number_of (NoSuchNumber n) = 16
number_of OtherSlip = 17
number_of (TaskNotRun t) = 18
number_of WrongLength = 19
number_of (NoValue i) = 20
number_of (BadLine l) = 21
number_of TooShort = 22

-- a corner, an off-edge, a point, a number that was asked for, a task, a component or a row, a line; 0 where the cause has no place
abbrev pub place_of : Fault → ℕ
place_of Shape = 0
place_of QuadCount = 0
place_of PointCount = 0
place_of (NoSuchPoint c) = c.0
place_of (NoSuchEdge o) = o.0
place_of (NoMark o) = o.0
place_of (NotOpposed o) = o.0
place_of (NotAtPoint v) = v.0
place_of (NotBack v) = v.0
place_of CornersUnmet = 0
place_of LevelInWork = 0
place_of NoStandingLevel = 0
place_of LevelTooLarge = 0
place_of TooFewWords = 0
place_of NoLevelInWork = 0
place_of (NoSuchNumber n) = n
place_of OtherSlip = 0
place_of (TaskNotRun t) = t.0
place_of WrongLength = 0
place_of (NoValue i) = i
place_of (BadLine l) = l
place_of TooShort = 0

-- whether a call is carried out, or the number and the place of its refusal
pub data Verdict : Type 0 where
  fine : Verdict
  declined : ℕ → ℕ → Verdict

-- what an answer says of that
abbrev pub told : {A : Type 0} → Result A Fault → Verdict
told (Ok x) = fine
told (Err f) = declined (number_of f) (place_of f)
