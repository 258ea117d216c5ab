use Rattle.chain.specs.Calls.{quad, point}
use Rattle.refining.proofs.once.refine_once.Given as goal

abbrev pub ghost-run_each : goal.ghost-run_each
ghost-run_each a = quad

abbrev pub ghost-run_each-2 : goal.ghost-run_each-2
ghost-run_each-2 a = point
