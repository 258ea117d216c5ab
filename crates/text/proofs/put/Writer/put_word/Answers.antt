use Rattle.std.proofs.Common.{ℕ, [], ◌∷◌, subst}
use Rattle.lines.specs.Text.{digits, word_text}
use Rattle.text.specs.Put.{Wrote}
use Rattle.text.proofs.Writes.{wrote_more}
use Rattle.text.proofs.put.Writer.put_word.Goals as goal

pub returns : goal.returns
unfolding word_text
returns c =
    let P : ℕ → Type 0 = λ k. Wrote c.args.self.now (32 ∷ digits k c.args.n) c.put_digits.new.self in
    subst P c.needed.ensures (wrote_more c.args.self.now c.put_byte.new.self c.put_digits.new.self (32 ∷ []) (digits c.needed.result c.args.n) c.put_byte.ensures c.put_digits.ensures)
