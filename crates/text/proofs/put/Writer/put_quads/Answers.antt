use Rattle.std.proofs.Common.{◌≡◌, ℕ, ◌+◌, ◌*◌, ◌/◌, ◌<◌, List, ◌++◌, length, take, sym, ap, ◌∙◌, subst, arith, length-append}
use Rattle.std.specs.List.{flat_map}
use Rattle.std.proofs.lemmas.List.{take_all}
use Rattle.lines.specs.Text.{line_text, quad_rows}
use Rattle.text.specs.Put.{Wrote}
use Rattle.text.proofs.LinesOf.{joined_next, joined_part, row, row_at, rows_count}
use Rattle.text.proofs.Writes.{wrote_none, wrote_more, wrote_room}
use Rattle.text.proofs.put.Writer.put_quads.Goals as goal

pub loop-q-init : goal.loop-q-init
loop-q-init c = wrote_none c.args.self.now (omega (arith, c.requires.room))

-- one line more
next : (k : ℕ) (cs fs ms : List ℕ) (q : ℕ) → q < k → length cs ≡ 4 * k → length fs ≡ 2 * k → length ms ≡ 2 * k → flat_map (line_text 48 49) (take (q + 1) (quad_rows k cs fs ms)) ≡ flat_map (line_text 48 49) (take q (quad_rows k cs fs ms)) ++ line_text 48 49 (row cs fs ms q)
next k cs fs ms q h lc lf lm =
    let n = rows_count k cs fs ms in
    joined_next (line_text 48 49) (quad_rows k cs fs ms) q (omega arith) ∙ ap (λ (r : List ℕ). flat_map (line_text 48 49) (take q (quad_rows k cs fs ms)) ++ line_text 48 49 r) (row_at cs fs ms q k h lc lf lm)

pub put_line-requires : goal.put_line-requires
put_line-requires c =
    let cs = c.args.corners.now in
    let fs = c.args.friends.now in
    let ms = c.args.marks.now in
    let k = length cs / 4 in
    let q = c.loop-q.q in
    let a = ap length (next k cs fs ms q (omega arith) c.requires.corner_count c.requires.friend_count c.requires.mark_count) ∙ length-append (flat_map (line_text 48 49) (take q (quad_rows k cs fs ms))) (line_text 48 49 (row cs fs ms q)) in
    let b = joined_part (line_text 48 49) (quad_rows k cs fs ms) (q + 1) in
    wrote_room c.args.self.now c.loop-q.self _ _ c.loop-q.invariant (omega (arith, c.requires.room))

pub loop-q-preserved : goal.loop-q-preserved
loop-q-preserved c =
    let cs = c.args.corners.now in
    let P : List ℕ → Type 0 = λ x. Wrote c.args.self.now x c.put_line.new.self in
    subst P (sym (next (length cs / 4) cs c.args.friends.now c.args.marks.now c.loop-q.q (omega arith) c.requires.corner_count c.requires.friend_count c.requires.mark_count))
    (wrote_more c.args.self.now c.loop-q.self c.put_line.new.self _ _ c.loop-q.invariant c.put_line.ensures)

pub returns : goal.returns
returns c =
    let cs = c.args.corners.now in
    let rows = quad_rows (length cs / 4) cs c.args.friends.now c.args.marks.now in
    let n = rows_count (length cs / 4) cs c.args.friends.now c.args.marks.now in
    let P : List (List ℕ) → Type 0 = λ x. Wrote c.args.self.now (flat_map (line_text 48 49) x) c.loop-q.self in
    subst P (take_all c.loop-q.q rows (omega arith)) c.loop-q.invariant
