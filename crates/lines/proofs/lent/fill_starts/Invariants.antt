use Rattle.std.proofs.Common.{◌≡◌, ℕ, List, take}
use Rattle.std.specs.List.{flat_map}
use Rattle.lines.proofs.RowsRead.{Sofar}
use Rattle.lines.proofs.lent.fill_starts.Given as goal

-- the words so far are those of the rows that were read
abbrev pub invariant-loop-start : goal.invariant-loop-start
invariant-loop-start l = (rows : List (List ℕ)) × Sofar 48 50 1 l.count l.text rows l.start-index l.rest × (take l.start-index l.start-items ≡ flat_map (λ ns. ns) rows)
