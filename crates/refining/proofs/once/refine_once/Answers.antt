use Rattle.std.proofs.Common.{sym, ◌∙◌}
use Rattle.bench.specs.Model.{state}
use Rattle.refining.proofs.Refines.{all_ran, finishes, mark_is, refined}
use Rattle.refining.proofs.once.refine_once.Goals as goal

pub unwrap-requires : goal.unwrap-requires
unwrap-requires c =
    let level = (rw c.unwrap-quads.ensures at c.counts.ensures).1 in
    let ran = all_ran (state c.args.bench.now) c.in_ok-slip.ensures.call.answers c.begin.ensures.call.leaves level.1 level.2.0 level.2.1 c.run_each.ensures c.run_each-2.ensures in
    finishes c.finish.result ran (c.in_ok-slip.ensures.slip ∙ sym (mark_is c.args.bench.now)) c.finish.ensures.call.answers

pub returns : goal.returns
returns c =
    let level = (rw c.unwrap-quads.ensures at c.counts.ensures).1 in
    let ran = all_ran (state c.args.bench.now) c.in_ok-slip.ensures.call.answers c.begin.ensures.call.leaves level.1 level.2.0 level.2.1 c.run_each.ensures c.run_each-2.ensures in
    refined c.in_ok-slip.ensures.call.answers ran (c.in_ok-slip.ensures.slip ∙ sym (mark_is c.args.bench.now)) c.finish.ensures.call.leaves
