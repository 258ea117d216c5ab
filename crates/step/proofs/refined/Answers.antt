use Rattle.std.proofs.Common.{refl, ◌∙◌}
use Rattle.std.proofs.lemmas.Result.{err_from_is_err_and}
use Rattle.refinement.specs.Tasks.{refine}
use Rattle.bench.specs.Model.{state}
use Rattle.step.proofs.Steps.{answer_same, too_long, not_long, refused_load, load_answered, text_after, refined_fine, refined_stands, written, impossible}
use Rattle.step.proofs.refined.Goals as goal

pub returns-then-input-gt-LONGEST_INPUT : goal.returns-then-input-gt-LONGEST_INPUT
returns-then-input-gt-LONGEST_INPUT c = (too_long c.args.input.now c.if-input-gt-LONGEST_INPUT.true, refl)

pub returns-in_err-load_text : goal.returns-in_err-load_text
returns-in_err-load_text c =
    let s = c.args.input.now in
    let k = load_answered s (state c.new-bench.result) _ _ c.new-bench.ensures.is c.in_err-load_text.ensures.call in
    let p = err_from_is_err_and c.from_residual.result c.from_residual.ensures.1 in
    rw (p.1, p.2) (refused_load s _ _ k ∙ not_long s c.if-input-gt-LONGEST_INPUT.false, refl)

pub returns-in_err-refine_once : goal.returns-in_err-refine_once
returns-in_err-refine_once c =
    let h = c.in_ok-load_text.ensures in
    impossible _ _ (refined_fine c.args.input.now h.whose.0 h.whose.1 (state c.new-bench.result) _ c.new-bench.ensures.is h.call _ _ c.in_err-refine_once.ensures)

pub returns : goal.returns
returns c =
    let s = c.args.input.now in
    let h = c.in_ok-load_text.ensures in
    let z = refined_stands s h.whose.0 h.whose.1 (state c.new-bench.result) _ c.new-bench.ensures.is h.call _ _ c.in_ok-refine_once.ensures in
    let t = text_after s h.whose.0 h.whose.1 (state c.new-bench.result) _ c.new-bench.ensures.is h.call in
    rw c.unwrap_or.ensures (answer_same _ _ _ _ _ (t ∙ not_long s c.if-input-gt-LONGEST_INPUT.false) (written (refine h.whose.0) _ _ _ c.write_text.result z c.write_text.ensures))
