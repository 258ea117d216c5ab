use Rattle.std.proofs.Common.{take}
use Rattle.lines.specs.Lines.{Words}
use Rattle.lines.proofs.frame.read_words.Given as goal

-- the words so far are those of the text before `rest`
abbrev pub invariant-loop-w : goal.invariant-loop-w
invariant-loop-w l = Words l.s (take l.w-index l.out) l.rest
