use Rattle.std.proofs.Common.{◌/◌, length, take}
use Rattle.std.specs.List.{flat_map}
use Rattle.lines.specs.Text.{line_text, quad_rows}
use Rattle.text.specs.Put.{Wrote}
use Rattle.text.proofs.put.Writer.put_quads.Given as goal

abbrev pub invariant-loop-q : goal.invariant-loop-q
invariant-loop-q l = Wrote l.initial.self (flat_map (line_text 48 49) (take l.q (quad_rows (length l.corners / 4) l.corners l.friends l.marks))) l.self
