use Rattle.std.proofs.Common.{◌≡◌, ℕ, ◌+◌, ◌<◌, List, [], ◌∷◌, ◌++◌, length, get_or, take, sym, ap, ◌∙◌, subst, arith, length-append}
use Rattle.std.specs.List.{flat_map}
use Rattle.std.proofs.lemmas.List.{take_all}
use Rattle.lines.specs.Text.{line_text, start_rows}
use Rattle.text.specs.Put.{Wrote}
use Rattle.text.proofs.LinesOf.{joined_next, joined_part, start_at, starts_count}
use Rattle.text.proofs.Writes.{wrote_none, wrote_more, wrote_room}
use Rattle.text.proofs.put.Writer.put_starts.Goals as goal

pub loop-start-init : goal.loop-start-init
loop-start-init c = wrote_none c.args.self.now (omega (arith, c.requires))

-- one line more
next : (ss : List ℕ) (v : ℕ) → v < length ss → flat_map (line_text 48 50) (take (v + 1) (start_rows ss)) ≡ flat_map (line_text 48 50) (take v (start_rows ss)) ++ line_text 48 50 (get_or ss v 0 ∷ [])
next ss v h =
    let n = starts_count ss in
    joined_next (line_text 48 50) (start_rows ss) v (omega arith) ∙ ap (λ (r : List ℕ). flat_map (line_text 48 50) (take v (start_rows ss)) ++ line_text 48 50 r) (start_at ss v h)

pub put_line-requires : goal.put_line-requires
put_line-requires c =
    let ss = c.args.starts.now in
    let v = c.loop-start.start-index in
    let a = ap length (next ss v (omega arith)) ∙ length-append (flat_map (line_text 48 50) (take v (start_rows ss))) (line_text 48 50 (get_or ss v 0 ∷ [])) in
    let b = joined_part (line_text 48 50) (start_rows ss) (v + 1) in
    wrote_room c.args.self.now c.loop-start.self _ _ c.loop-start.invariant (omega (arith, c.requires))

pub loop-start-preserved : goal.loop-start-preserved
loop-start-preserved c =
    let P : List ℕ → Type 0 = λ x. Wrote c.args.self.now x c.put_line.new.self in
    subst P (sym (next c.args.starts.now c.loop-start.start-index (omega arith))) (wrote_more c.args.self.now c.loop-start.self c.put_line.new.self _ _ c.loop-start.invariant c.put_line.ensures)

pub returns : goal.returns
returns c =
    let ss = c.args.starts.now in
    let n = starts_count ss in
    let P : List (List ℕ) → Type 0 = λ x. Wrote c.args.self.now (flat_map (line_text 48 50) x) c.loop-start.self in
    subst P (take_all c.loop-start.start-index (start_rows ss) (omega arith)) c.loop-start.invariant
