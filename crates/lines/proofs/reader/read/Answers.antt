use Rattle.std.proofs.Common.{◌≡◌, Err, Option, sym, refl, ap, ◌∙◌, subst}
use Rattle.std.specs.Option.{ok_or}
use Rattle.std.proofs.lemmas.Option.{MatchOption-at_some, MatchOption-at_none}
use Rattle.std.proofs.lemmas.Result.{err_from_is_err_and}
use Rattle.mesh.specs.Mesh.{Mesh}
use Rattle.mesh.specs.declared.fault.Fault.TheVariants.{BadLine}
use Rattle.lines.specs.declared.lent.TablesMut.{TablesMut}
use Rattle.lines.specs.Lent.{Same, lent_room, HoldsIn}
use Rattle.lines.specs.Reading.{Reading, answer, accepted, mesh_read}
use Rattle.lines.proofs.Bodies.{roomy_parts, no_heading, no_room, with_room, held, accepted_from_rows}
use Rattle.lines.proofs.Exactly.{images}
use Rattle.lines.proofs.reader.read.Goals as goal

unchanged : (t : TablesMut) → Same t t
unchanged t = record { same_corners = refl; same_friends = refl; same_marks = refl; same_starts = refl }

pub returns-in_err-counts : goal.returns-in_err-counts
returns-in_err-counts c =
    let t = c.args.tables.now in
    let p = err_from_is_err_and c.from_residual.result c.from_residual.ensures.1 in
    let o = c.in_err-counts.ensures in
    let v = o.value ∙ ap (λ (x : Option _). ok_or x (BadLine 0)) o.ok_part in
    let e = no_heading c.args.text.now (lent_room t) (MatchOption-at_none _ _ o.ok_part c.head.ensures.found) in
    let f : c.in_err-counts.field-0.0 ≡ BadLine 0 = cc in
    let a = p.1 ∙ ap Err (p.2 ∙ f) ∙ ap answer (sym e) in
    let h = held _ _ t.corners.now t.friends.now t.marks.now t.starts.now e in
    record { same = unchanged t; answer = a; tables = h; images = images _ _ _ _ _ _ _ _ _ _ a h }

pub returns-then-not-has_room : goal.returns-then-not-has_room
returns-then-not-has_room c =
    let t = c.args.tables.now in
    let n = c.in_ok-counts.counts in
    let found = MatchOption-at_some _ _ _ c.in_ok-counts.ensures.ok_part c.head.ensures.found in
    let e = no_room c.args.text.now (lent_room t) n.quads n.points c.in_ok-counts.body.now found (sym c.has_room.ensures ∙ c.if-not-has_room.true) in
    let a = ap answer (sym e) in
    let h = held _ _ t.corners.now t.friends.now t.marks.now t.starts.now e in
    record { same = unchanged t; answer = a; tables = h; images = images _ _ _ _ _ _ _ _ _ _ a h }

pub returns-in_err-judge : goal.returns-in_err-judge
returns-in_err-judge c =
    let t = c.args.tables.now in
    let n = c.in_ok-counts.counts in
    let found = MatchOption-at_some _ _ _ c.in_ok-counts.ensures.ok_part c.head.ensures.found in
    let p = err_from_is_err_and c.from_residual-in_err-judge.result c.from_residual-in_err-judge.ensures.1 in
    let w = with_room c.args.text.now (lent_room t) n.quads n.points c.in_ok-counts.body.now found (sym c.has_room.ensures ∙ c.if-not-has_room.false) in
    let e = w ∙ c.in_err-judge.ensures in
    let a = p.1 ∙ ap Err p.2 ∙ ap answer (sym e) in
    let h = held _ _ t.corners.now t.friends.now t.marks.now t.starts.now e in
    record { same = unchanged t; answer = a; tables = h; images = images _ _ _ _ _ _ _ _ _ _ a h }

pub fill-requires : goal.fill-requires
fill-requires c =
    let h = roomy_parts c.in_ok-counts.counts.quads c.in_ok-counts.counts.points (lent_room c.args.tables.now) (sym c.has_room.ensures ∙ c.if-not-has_room.false) in
    record { corners_fit = h.0; friends_fit = h.1; marks_fit = h.2; starts_fit = h.3 }

pub unwrap-requires : goal.unwrap-requires
unwrap-requires c = let j = c.in_ok-judge.ensures in (c.fill.ensures.filled j.0 j.1).0

pub returns : goal.returns
unfolding mesh_read
returns c =
    let t = c.args.tables.now in
    let n = c.in_ok-counts.counts in
    let body = c.in_ok-counts.body.now in
    let found = MatchOption-at_some _ _ _ c.in_ok-counts.ensures.ok_part c.head.ensures.found in
    let w = with_room c.args.text.now (lent_room t) n.quads n.points body found (sym c.has_room.ensures ∙ c.if-not-has_room.false) in
    let j = c.in_ok-judge.ensures in
    let b = accepted_from_rows n.quads n.points body j.0 j.1 in
    let e = w ∙ j.1 in
    let P : Reading → Type 0 = λ x. HoldsIn x t c.fill.new.self in
    let a = ap (λ (m : Mesh). answer (accepted m)) (sym b.mesh_is) ∙ ap answer (sym e) in
    let h = subst P (sym e) (c.fill.ensures.filled j.0 j.1).1 in
    record { same = c.fill.ensures.same; answer = a; tables = h; images = images _ _ _ _ _ _ _ _ _ _ a h }
