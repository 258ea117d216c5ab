use Rattle.std.proofs.Common.{sym, ◌∙◌}
use Rattle.std.proofs.lemmas.Bool.{cond-true, cond-false, eq-eqb, ne_eqb}
use Rattle.refinement.specs.Tasks.{fallen}
use Rattle.bench.proofs.words.fallen_mark.Goals as goal

pub returns-then-word-eq-INFINITE : goal.returns-then-word-eq-INFINITE
unfolding fallen
returns-then-word-eq-INFINITE c = sym (cond-true _ _ _ (eq-eqb _ _ c.if-word-eq-INFINITE.true))

pub returns-else-word-eq-INFINITE : goal.returns-else-word-eq-INFINITE
unfolding fallen
returns-else-word-eq-INFINITE c = c.saturating_sub.ensures ∙ sym (cond-false _ _ _ (ne_eqb _ _ c.if-word-eq-INFINITE.false))
