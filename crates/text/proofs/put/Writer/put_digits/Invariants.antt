use Rattle.std.proofs.Common.{◌≡◌}
use Rattle.text.proofs.Writes.{DigitsFrom}
use Rattle.text.proofs.put.Writer.put_digits.Given as goal

abbrev pub invariant-loop-place : goal.invariant-loop-place
invariant-loop-place l = record {
  same : l.self.out.ghost_name ≡ l.initial.self.out.ghost_name;
  digits : DigitsFrom l.initial.self.out.now l.initial.self.at l.count l.n l.place l.left l.self.out.now;
}
