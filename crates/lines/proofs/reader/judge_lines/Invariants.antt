use Rattle.std.proofs.Common.{◌≡◌, ℕ, ◌+◌, List, length}
use Rattle.lines.specs.Kinds.{first_digit, second_digit}
use Rattle.lines.proofs.RowsRead.{Sofar}
use Rattle.lines.proofs.reader.judge_lines.Given as goal

abbrev pub invariant-loop-line : goal.invariant-loop-line
invariant-loop-line g l = (length l.row ≡ g.row.WORDS) × ((k : ℕ) × (l.line ≡ l.first + k) × (rows : List (List ℕ)) × Sofar (first_digit l.kind) (second_digit l.kind) g.row.WORDS l.count l.text rows k l.rest)
