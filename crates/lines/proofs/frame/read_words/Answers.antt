use Rattle.std.proofs.Common.{◌≡◌, ℕ, ◌<◌, List, length, get_or, take, drop, sym, ap, ◌∙◌, subst, arith}
use Rattle.std.proofs.lemmas.List.{take_all, take_more_set, drop_more, length-take-le}
use Rattle.lines.specs.Lines.{Words, Spaced}
use Rattle.lines.proofs.LineWords.{words_push, words_front}
use Rattle.lines.proofs.frame.read_words.Goals as goal

-- no list of words fits where none comes next
stuck : (s out rest : List ℕ) (i : ℕ) → i < length out → Words s (take i out) rest → ((n : ℕ) (t : List ℕ) → Spaced rest n t → ⊥) → (ns t : List ℕ) → length ns ≡ length out → Words s ns t → ⊥
stuck s out rest i h p none ns t e q =
    let l = length-take-le i out (omega arith) in
    let r = (words_front (take i out) s rest ns t p q (omega arith)).1 in
    let P : List ℕ → Type 0 = λ x. Words rest x t in
    let w = subst P (ap (λ (k : ℕ). drop k ns) l ∙ drop_more ns i 0 (omega arith)) r in
    none (get_or ns i 0) w.0 w.1

pub returns-in_err-w : goal.returns-in_err-w
returns-in_err-w c = rw c.from_residual.ensures (λ ns t e q. stuck c.args.s.now c.loop-w.out c.loop-w.rest.now c.loop-w.w-index (omega arith) c.loop-w.invariant c.in_err-w.ensures ns t (omega arith) q)

pub loop-w-preserved : goal.loop-w-preserved
loop-w-preserved c =
    let n = c.in_ok-w.field-0-0 in
    let more = c.in_ok-w.field-0-1.now in
    let P : List ℕ → Type 0 = λ x. Words c.args.s.now x more in
    subst P (sym (take_more_set c.loop-w.out c.loop-w.w-index n (omega arith)))
    (words_push (take c.loop-w.w-index c.loop-w.out) c.args.s.now c.loop-w.rest.now n more c.loop-w.invariant c.in_ok-w.ensures)

pub returns : goal.returns
returns c = let P : List ℕ → Type 0 = λ x. Words c.args.s.now x c.loop-w.rest.now in subst P (take_all c.loop-w.w-index c.loop-w.out (omega arith)) c.loop-w.invariant
