use Rattle.std.proofs.Common.{sym, ◌∙◌}
use Rattle.carry.proofs.Made.{first_wrong, none_wrong}
use Rattle.carry.proofs.rows.Rows.judged.Goals as goal

pub invariant_of-result : goal.invariant_of-result
invariant_of-result g c = record { all = none_wrong g.K.Rowed.verdict _ (sym c.first_wrong.ensures ∙ c.in-None.is) }

pub returns-in-Some-clause-verdict : goal.returns-in-Some-clause-verdict
returns-in-Some-clause-verdict g c = sym (first_wrong g.K.Rowed.verdict _ _ (sym c.first_wrong.ensures ∙ c.in-Some.is))
