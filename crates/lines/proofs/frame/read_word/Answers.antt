use Rattle.std.proofs.Common.{List, sym, subst, arith}
use Rattle.std.proofs.lemmas.List.{take_rest}
use Rattle.lines.specs.Lines.{Word}
use Rattle.lines.proofs.Words.{run_word, word_fills}
use Rattle.lines.proofs.frame.read_word.Goals as goal
use Rattle.lines.proofs.frame.read_word.Goals.{else-i-gt1-via-then-i-gt1+else-s-eq48, else-i-gt1-via-else-i-gt1}

pub returns-then-i-eq0 : goal.returns-then-i-eq0
returns-then-i-eq0 c n t w = let f = word_fills _ _ _ c.run-n.ensures n t w in omega arith

pub returns-then-s-eq48 : goal.returns-then-s-eq48
returns-then-s-eq48 c n t w = (word_fills _ _ _ c.run-n.ensures n t w).2 c.if-i-gt1.true c.if-s-eq48.true

pub returns : goal.returns
returns c =
    let P : List _ → Type 0 = λ t. Word c.args.s.now c.run-n.result.0 t in
    let few = c.run-n.ensures.few in
    subst P (sym (take_rest c.args.s.now c.run-n.result.1))
    (run_word _ _ _ c.run-n.ensures (omega arith) (omega arith)
    (elim c.else-i-gt1.branch [
      | else-i-gt1-via-then-i-gt1+else-s-eq48 w ↦ λ _. w.if-s-eq48.false
      | else-i-gt1-via-else-i-gt1 w ↦ λ h _. omega (arith, w.if-i-gt1.false)
    ]))
