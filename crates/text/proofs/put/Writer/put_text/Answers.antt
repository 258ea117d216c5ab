use Rattle.std.proofs.Common.{◌≡◌, ℕ, ◌+◌, ◌/◌, List, [], ◌∷◌, ◌++◌, length, sym, refl, ap, ◌∙◌, subst, arith, length-append}
use Rattle.std.specs.List.{flat_map}
use Rattle.mesh.specs.Causes.{mesh_of}
use Rattle.lines.specs.Text.{line_text, quad_rows, start_rows, mesh_text}
use Rattle.tables.specs.Lent.{mesh}
use Rattle.tables.specs.declared.lent.Tables.{Tables}
use Rattle.text.specs.Put.{Wrote}
use Rattle.text.proofs.Sizes.{sizes}
use Rattle.text.proofs.Writes.{wrote_more, wrote_room}
use Rattle.text.proofs.put.Writer.put_text.Goals as goal

-- the text, part by part
heading : Tables → List ℕ
heading t = line_text 48 48 ((mesh t).quads ∷ (length t.starts.now ∷ []))

quads_text : Tables → List ℕ
quads_text t = flat_map (line_text 48 49) (quad_rows (length t.corners.now / 4) t.corners.now t.friends.now t.marks.now)

starts_text : Tables → List ℕ
starts_text t = flat_map (line_text 48 50) (start_rows t.starts.now)

in_parts : (t : Tables) → mesh_text (mesh t) ≡ heading t ++ (quads_text t ++ starts_text t)
unfolding mesh_text mesh_of heading quads_text starts_text
in_parts t = refl

parts_length : (t : Tables) → length (mesh_text (mesh t)) ≡ length (heading t) + (length (quads_text t) + length (starts_text t))
parts_length t = ap length (in_parts t) ∙ length-append (heading t) (quads_text t ++ starts_text t) ∙ (let a = length-append (quads_text t) (starts_text t) in omega arith)

pub overflow_cast-counts-2 : goal.overflow_cast-counts-2
overflow_cast-counts-2 c = let s = sizes c.args.level.now.tables c.args.level.now.lawful in record { fits = omega arith }

-- the counts as the code has them
counts : (t : Tables) (q : ℕ) → q ≡ (mesh t).quads → line_text 48 48 (q ∷ (length t.starts.now ∷ [])) ≡ heading t
unfolding heading
counts t q e = ap (λ (x : ℕ). line_text 48 48 (x ∷ (length t.starts.now ∷ []))) e

pub put_line-requires : goal.put_line-requires
put_line-requires c =
    let t = c.args.level.now.tables in
    let h = ap length (counts t c.quads.result c.quads.ensures) in
    let l = parts_length t in
    omega (arith, c.requires)

-- the room after the counts, and after the quads
pub put_quads-requires : goal.put_quads-requires
unfolding quads_text
put_quads-requires c =
    let t = c.args.level.now.tables in
    let s = sizes t c.args.level.now.lawful in
    let h = ap length (counts t c.quads.result c.quads.ensures) in
    let l = parts_length t in
    let n = length (quads_text t) + length (starts_text t) in
    let r = wrote_room _ _ _ n c.put_line.ensures (omega (arith, c.requires)) in
    record { corner_count = s.corners_in_fours; friend_count = s.friends_by_quads; mark_count = s.marks_by_quads; room = omega arith }

pub put_starts-requires : goal.put_starts-requires
unfolding quads_text starts_text
put_starts-requires c =
    let t = c.args.level.now.tables in
    let h = ap length (counts t c.quads.result c.quads.ensures) in
    let l = parts_length t in
    let n = length (quads_text t) + length (starts_text t) in
    wrote_room _ _ _ _ c.put_quads.ensures (wrote_room _ _ _ n c.put_line.ensures (omega (arith, c.requires)))

pub returns : goal.returns
unfolding quads_text starts_text
returns c =
    let t = c.args.level.now.tables in
    let v = c.args.self.now in
    let w = c.put_line.new.self in
    let x = c.put_quads.new.self in
    let y = c.put_starts.new.self in
    let P : List ℕ → Type 0 = λ z. Wrote v z w in
    let Q : List ℕ → Type 0 = λ z. Wrote v z y in
    subst Q (sym (in_parts t))
    (wrote_more v w y (heading t) (quads_text t ++ starts_text t) (subst P (counts t c.quads.result c.quads.ensures) c.put_line.ensures)
    (wrote_more w x y (quads_text t) (starts_text t) c.put_quads.ensures c.put_starts.ensures))
