use Rattle.std.proofs.Common.{ℕ, List, [], ◌∷◌, get_or, ap, subst, arith}
use Rattle.lines.specs.Kinds.{first_digit, second_digit}
use Rattle.text.specs.Put.{Wrote}
use Rattle.text.proofs.Writes.{length_line, line_wrote, wrote_room}
use Rattle.text.proofs.put.Writer.put_line.Goals as goal

pub put_byte-requires : goal.put_byte-requires
put_byte-requires c = let l = length_line (first_digit c.args.kind) (second_digit c.args.kind) c.args.words.now in omega (arith, c.requires)

pub put_byte-requires-2 : goal.put_byte-requires-2
put_byte-requires-2 c =
    let l = length_line (first_digit c.args.kind) (second_digit c.args.kind) c.args.words.now in
    wrote_room _ _ _ _ c.put_byte.ensures (omega (arith, c.requires))

pub put_words-requires : goal.put_words-requires
put_words-requires c =
    let l = length_line (first_digit c.args.kind) (second_digit c.args.kind) c.args.words.now in
    wrote_room _ _ _ _ c.put_byte-2.ensures (wrote_room _ _ _ _ c.put_byte.ensures (omega (arith, c.requires)))

pub put_byte-requires-3 : goal.put_byte-requires-3
put_byte-requires-3 c =
    let l = length_line (first_digit c.args.kind) (second_digit c.args.kind) c.args.words.now in
    wrote_room _ _ _ _ c.put_words.ensures (wrote_room _ _ _ _ c.put_byte-2.ensures (wrote_room _ _ _ _ c.put_byte.ensures (omega (arith, c.requires))))

pub returns : goal.returns
returns c =
    let d = c.digits.ensures in
    let a = ap (λ (x : List ℕ). get_or x 0 0) d in
    let b = ap (λ (x : List ℕ). get_or x 1 0) d in
    let P : ℕ → Type 0 = λ k. Wrote c.args.self.now (k ∷ []) c.put_byte.new.self in
    let Q : ℕ → Type 0 = λ k. Wrote c.put_byte.new.self (k ∷ []) c.put_byte-2.new.self in
    line_wrote _ _ _ _ _ (first_digit c.args.kind) (second_digit c.args.kind) c.args.words.now (subst P a c.put_byte.ensures) (subst Q b c.put_byte-2.ensures) c.put_words.ensures c.put_byte-3.ensures
