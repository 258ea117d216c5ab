use Rattle.std.proofs.Common.{◌≡◌, ℕ, ◌+◌, ◌-◌, List, ◌++◌, length, take, drop, ap, ◌∙◌, arith}
use Rattle.std.proofs.lemmas.List.{drop-drop}
use Rattle.lines.proofs.lent.lay.Goals as goal

pub returns : goal.returns
returns c =
    let a = c.args.at in
    let t = c.args.table.now in
    let ws = c.args.words.now in
    let n = length ws in
    let k : a + (a + n - a) ≡ a + n = omega arith in
    ap (λ (y : List ℕ). take a t ++ (y ++ drop (a + n - a) (drop a t))) c.copy_from_slice.ensures.after
    ∙ ap (λ (d : List ℕ). take a t ++ (ws ++ d)) (drop-drop (a + n - a) a t ∙ ap (λ (i : ℕ). drop i t) k)
