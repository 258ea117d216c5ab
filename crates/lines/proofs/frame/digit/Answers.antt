use Rattle.std.proofs.Common.{ℕ, ◌<◌, List, ◌∷◌, ◌++◌, replicate, ◌∙◌, arith}
use Rattle.lines.specs.Lines.{digit_of}
use Rattle.lines.proofs.Rule.{obeyed}
use Rattle.lines.proofs.Words.{digit_le}
use Rattle.lines.proofs.frame.digit.Goals as goal

-- the table as the code has it
abbrev table : List ℕ
table = replicate 48 16 ++ (0 ∷ 1 ∷ 2 ∷ 3 ∷ 4 ∷ 5 ∷ 6 ∷ 7 ∷ 8 ∷ 9 ∷ (replicate 39 16 ++ (10 ∷ 11 ∷ 12 ∷ 13 ∷ 14 ∷ 15 ∷ replicate 153 16)))

pub returns-then-d-lt16 : goal.returns-then-d-lt16
returns-then-d-lt16 c =
    let h : c.args.b < 256 = omega arith in
    let o = obeyed digit_of table tt c.args.b h in
    let e = c.from.ensures in
    (e ∙ o, omega arith)

pub returns-else-d-lt16 : goal.returns-else-d-lt16
returns-else-d-lt16 c =
    let h : c.args.b < 256 = omega arith in
    let o = obeyed digit_of table tt c.args.b h in
    let l = digit_le c.args.b in
    omega arith
