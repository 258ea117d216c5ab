use Rattle.std.proofs.Common.{◌≡◌, ◌^◌, ◌<◌, ◌≤◌, length, take}
use Rattle.lines.specs.Text.{digits}
use Rattle.lines.proofs.frame.run.Given as goal

-- the bytes so far are digits that write n
abbrev pub invariant-loop-i : goal.invariant-loop-i
invariant-loop-i l = (l.i ≤ length l.s) × (take l.i l.s ≡ digits l.i l.n) × (l.n < 16 ^ l.i)
