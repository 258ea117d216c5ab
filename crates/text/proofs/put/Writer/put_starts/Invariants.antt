use Rattle.std.proofs.Common.{take}
use Rattle.std.specs.List.{flat_map}
use Rattle.lines.specs.Text.{line_text, start_rows}
use Rattle.text.specs.Put.{Wrote}
use Rattle.text.proofs.put.Writer.put_starts.Given as goal

abbrev pub invariant-loop-start : goal.invariant-loop-start
invariant-loop-start l = Wrote l.initial.self (flat_map (line_text 48 50) (take l.start-index (start_rows l.starts))) l.self
