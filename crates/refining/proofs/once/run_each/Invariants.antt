use Rattle.std.proofs.Common.{◌≡◌, map}
use Rattle.std.specs.List.{range_with_len}
use Rattle.chain.specs.Clauses.{run_on}
use Rattle.bench.specs.Model.{state}
use Rattle.refining.proofs.once.run_each.Given as goal

-- the calls so far
abbrev pub invariant-loop-number : goal.invariant-loop-number
invariant-loop-number g l = state l.bench ≡ run_on (state l.initial.bench) (map g.call (range_with_len 0 l.number))
