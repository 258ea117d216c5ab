use Rattle.std.proofs.Common.{ℕ, List, Some, ap, ◌∙◌, arith}
use Rattle.std.proofs.ByRecursion.{All-get_or}
use Rattle.lines.specs.Text.{WordSized}
use Rattle.lines.proofs.RowsRead.{two_words}
use Rattle.lines.proofs.reader.head.Goals as goal

pub returns : goal.returns
returns c =
    let e = c.in_ok-rest.ensures in
    let out = c.read_line.new.out in
    record {
      found = e.0 ∙ ap (λ (x : List ℕ). Some (x, c.in_ok-rest.rest.now)) (two_words out (omega arith));
      small = (All-get_or WordSized out 0 0 (omega arith) e.1, All-get_or WordSized out 1 0 (omega arith) e.1);
    }
