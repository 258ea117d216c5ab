use Rattle.std.proofs.Common.{◌≡◌, ◌+◌, ◌∙◌, arith, rules}
use Rattle.std.specs.List.{sum_by}
use Rattle.lines.specs.Text.{width}
use Rattle.text.proofs.Writes.{words_bytes, words_bytes_le}
use Rattle.text.proofs.put.words_size.Goals as goal

pub returns : goal.returns
returns c =
    let ws = c.args.words.now in
    let s : c.sum.result ≡ sum_by (λ n. 1 + width n) ws = search rules in
    let b = words_bytes_le ws in
    record { is = s ∙ words_bytes ws; bound = omega arith }
