use Rattle.std.proofs.Common.{take}
use Rattle.lines.specs.Text.{words_text}
use Rattle.text.specs.Put.{Wrote}
use Rattle.text.proofs.put.Writer.put_words.Given as goal

abbrev pub invariant-loop-w : goal.invariant-loop-w
invariant-loop-w l = Wrote l.initial.self (words_text (take l.w-index l.words)) l.self
