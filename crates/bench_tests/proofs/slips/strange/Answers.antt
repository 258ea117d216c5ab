use Rattle.std.proofs.Common.{Some, sym, ◌∙◌, subst}
use Rattle.bench.specs.Model.{state}
use Rattle.chain.specs.Calls.{State}
use Rattle.refining.proofs.Refines.{mark_is}
use Rattle.requests.proofs.Fits.{Fits, settles}
use Rattle.bench_tests.proofs.Closes.{opened, stays}
use Rattle.bench_tests.proofs.slips.strange.Goals as goal

-- the slip has come back twice, with the mark number that it had
pub close-requires-2 : goal.close-requires-2
close-requires-2 c =
    let begun = c.in-Ok.ensures in
    let same = c.in-Err-withdraw.ensures.slip ∙ c.in-Err.ensures.slip ∙ begun.slip in
    settles (state c.begin.new.self) _ (opened _ _ _ begun.call (same ∙ sym (mark_is c.args.one.now)))

pub close-requires-3 : goal.close-requires-3
close-requires-3 c =
    let m = c.in-Ok-begin.own.mark in
    let same = stays _ _ _ _ _ c.in-Err-withdraw.ensures.call ∙ stays _ _ _ _ _ c.in-Err.ensures.call in
    let begun = c.in-Ok-begin.ensures in
    settles (state c.withdraw.new.self) m
    (subst (λ (s : State). Fits s (Some m)) (sym same) (opened _ _ m begun.call (begun.slip ∙ sym (mark_is c.args.other.now))))
