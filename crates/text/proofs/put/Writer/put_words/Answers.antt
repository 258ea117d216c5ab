use Rattle.std.proofs.Common.{ℕ, ◌+◌, List, sym, subst, arith}
use Rattle.std.proofs.lemmas.List.{take_all}
use Rattle.lines.specs.Text.{words_text}
use Rattle.text.specs.Put.{Wrote}
use Rattle.text.proofs.Writes.{wrote_none, wrote_more, wrote_room, words_more, length_more, length_part}
use Rattle.text.proofs.put.Writer.put_words.Goals as goal

pub loop-w-init : goal.loop-w-init
unfolding words_text
loop-w-init c = wrote_none c.args.self.now (omega (arith, c.requires))

pub put_word-requires : goal.put_word-requires
put_word-requires c =
    let ws = c.args.words.now in
    let i = c.loop-w.w-index in
    let a = length_more ws i (omega arith) in
    let b = length_part ws (i + 1) in
    wrote_room c.args.self.now c.loop-w.self _ _ c.loop-w.invariant (omega (arith, c.requires))

pub loop-w-preserved : goal.loop-w-preserved
loop-w-preserved c =
    let P : List ℕ → Type 0 = λ x. Wrote c.args.self.now x c.put_word.new.self in
    subst P (sym (words_more c.args.words.now c.loop-w.w-index (omega arith))) (wrote_more c.args.self.now c.loop-w.self c.put_word.new.self _ _ c.loop-w.invariant c.put_word.ensures)

pub returns : goal.returns
returns c =
    let P : List ℕ → Type 0 = λ x. Wrote c.args.self.now (words_text x) c.loop-w.self in
    subst P (take_all c.loop-w.w-index c.args.words.now (omega arith)) c.loop-w.invariant
