use Rattle.std.proofs.Common.{◌≡◌, ℕ, List, [], ◌∷◌, Some, None, sym, ◌∙◌, subst}
use Rattle.std.proofs.lemmas.Bool.Decides.{Decides-eqb}
use Rattle.std.proofs.lemmas.Slice.Eq.{strip_prefix_is}
use Rattle.lines.specs.Lines.{Word}
use Rattle.lines.proofs.LineWords.{carried, tails}
use Rattle.lines.proofs.frame.spaced_word.Goals as goal

pub returns-in_err-strip_prefix : goal.returns-in_err-strip_prefix
returns-in_err-strip_prefix c =
    let none = strip_prefix_is Decides-eqb c.args.s.now (32 ∷ []) None c.in_err-strip_prefix.ensures.cases in
    rw c.from_residual.ensures (λ n t p. none p.from p.space)

pub returns : goal.returns
returns c =
    let e : c.args.s.now ≡ 32 ∷ c.in_ok-strip_prefix.field-0.now = strip_prefix_is Decides-eqb c.args.s.now (32 ∷ []) (Some c.in_ok-strip_prefix.field-0) c.in_ok-strip_prefix.ensures.cases in
    carried c.read_word.result c.read_word.ensures
    (λ none n t p. let P : List ℕ → Type 0 = λ f. Word f n t in none n t (subst P (tails p.from _ (sym p.space ∙ e)) p.word))
    (λ p w. record { from = _; space = e; word = w })
