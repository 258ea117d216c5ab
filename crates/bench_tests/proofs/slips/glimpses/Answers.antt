use Rattle.std.proofs.Common.{sym, ◌∙◌}
use Rattle.bench.specs.Model.{state}
use Rattle.refining.proofs.Refines.{mark_is}
use Rattle.requests.proofs.Fits.{settles}
use Rattle.bench_tests.proofs.Closes.{opened, worked}
use Rattle.bench_tests.proofs.slips.glimpses.Goals as goal

pub close-requires : goal.close-requires
close-requires c =
    let m = c.in-Ok.slip.mark in
    let begun = c.in-Ok.ensures in
    settles (state c.quad.new.self) m
    (worked _ _ m (record { 0 = 0 }) _ c.quad.ensures.call (opened _ _ m begun.call (begun.slip ∙ sym (mark_is c.args.bench.now))))
