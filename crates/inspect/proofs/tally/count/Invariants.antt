use Rattle.std.proofs.Common.{take}
use Rattle.inspect.specs.Marks.{Tallies}
use Rattle.inspect.proofs.tally.count.Given as goal

abbrev pub invariant-loop-word : goal.invariant-loop-word
invariant-loop-word l = Tallies (take l.word-index l.words) l.tally
