use Rattle.std.proofs.Common.{◌≡◌, ℕ, ◌*◌, List, length, take, drop}
use Rattle.lines.specs.Lent.{Same}
use Rattle.lines.proofs.Laying.{Laid}
use Rattle.lines.proofs.RowsRead.{Sofar}
use Rattle.lines.proofs.lent.TablesMut.fill_quads.Given as goal

-- the rows so far lie in the tables
abbrev pub invariant-loop-q : goal.invariant-loop-q
invariant-loop-q l = record {
  row_long : length l.row ≡ 8;
  same : Same l.initial.self l.self;
  starts_kept : l.self.starts.now ≡ l.initial.self.starts.now;
  laid :
      (rows : List (List ℕ))
      × Sofar 48 49 8 l.fn.counts.quads l.body rows l.q l.rest
      × Laid (λ ns. take 4 ns) (4 * l.q) rows l.initial.self.corners.now l.self.corners.now
      × Laid (λ ns. take 2 (drop 4 ns)) (2 * l.q) rows l.initial.self.friends.now l.self.friends.now
      × Laid (λ ns. take 2 (drop 6 ns)) (2 * l.q) rows l.initial.self.marks.now l.self.marks.now;
}
