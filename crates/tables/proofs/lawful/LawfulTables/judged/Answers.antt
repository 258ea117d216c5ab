use Rattle.std.proofs.Common.{sym}
use Rattle.refinement.proofs.Causes.{judges}
use Rattle.tables.specs.Lent.{mesh}
use Rattle.tables.proofs.lawful.LawfulTables.judged.Goals as goal

pub invariant_of-result : goal.invariant_of-result
invariant_of-result c = record { lawful = (judges (mesh c.args.tables)).only_lawful (sym c.in_ok-judge.ensures) }
