use Rattle.std.proofs.Common.{◌≡◌, Ok, Err, Result, sym, ap, ◌∙◌, subst, rules}
use Rattle.std.proofs.lemmas.Result.{err_from_is_err_and}
use Rattle.lines.specs.Lent.{lent_room, HoldsIn}
use Rattle.lines.specs.Reading.{Reading, reading, answer}
use Rattle.bench.specs.Model.{state}
use Rattle.chain.specs.Calls.{load_text}
use Rattle.chain.specs.Clauses.{Called}
use Rattle.text.specs.Loads.{told_text, Whose}
use Rattle.text.specs.declared.load.TextFault.{TextFault}
use Rattle.text.proofs.Texts.{was_read, loaded, stands, unread_call}
use Rattle.text.proofs.load.load_text.Goals as goal

pub returns-in_err-counts-clause-call : goal.returns-in_err-counts-clause-call
returns-in_err-counts-clause-call c =
    let r = lent_room c.args.lent.now in
    let w : Whose (reading c.args.text.now r) c.from_residual.result = search rules in
    unread_call (state c.args.bench.now) c.args.text.now r c.read.result c.from_residual.result c.read.ensures.answer c.in_err-counts.ensures.variant c.from_residual.ensures.0 w

-- the load of what was read is the load of the text
pub returns-in_err-load_front-clause-call : goal.returns-in_err-load_front-clause-call
returns-in_err-load_front-clause-call c =
    let t = c.args.lent.now in
    let u = c.read.new.tables in
    let r = lent_room t in
    let a : Ok c.in_ok-counts.counts ≡ answer (reading c.args.text.now r) = search rules in
    let w = was_read (reading c.args.text.now r) c.in_ok-counts.counts a in
    let p = err_from_is_err_and c.from_residual-in_err-load_front.result c.from_residual-in_err-load_front.ensures.1 in
    let P : Reading → Type 0 = λ o. HoldsIn o t u in
    let C : Result (Unit {0}) TextFault → Type 0 = λ x. Called (state c.args.bench.now) (load_text c.args.text.now r) (state c.load_front.new.bench) (told_text x) in
    subst C (sym (p.1 ∙ ap Err p.2))
    (loaded w.mesh c.args.text.now r w.is c.in_ok-counts.counts t.corners.now t.friends.now t.marks.now t.starts.now u.corners.now u.friends.now u.marks.now u.starts.now w.quads_are w.points_are (subst P w.is c.read.ensures.tables) _ _ _ c.in_err-load_front.ensures)

pub returns-clause-call : goal.returns-clause-call
returns-clause-call c =
    let t = c.args.lent.now in
    let u = c.read.new.tables in
    let r = lent_room t in
    let a : Ok c.in_ok-counts.counts ≡ answer (reading c.args.text.now r) = search rules in
    let w = was_read (reading c.args.text.now r) c.in_ok-counts.counts a in
    let P : Reading → Type 0 = λ o. HoldsIn o t u in
    loaded w.mesh c.args.text.now r w.is c.in_ok-counts.counts t.corners.now t.friends.now t.marks.now t.starts.now u.corners.now u.friends.now u.marks.now u.starts.now w.quads_are w.points_are (subst P w.is c.read.ensures.tables) _ _ _ c.in_ok-load_front.ensures

-- where it was carried out, the text is that of what stands
pub returns-clause-loaded : goal.returns-clause-loaded
returns-clause-loaded c =
    let t = c.args.lent.now in
    let u = c.read.new.tables in
    let r = lent_room t in
    let a : Ok c.in_ok-counts.counts ≡ answer (reading c.args.text.now r) = search rules in
    let w = was_read (reading c.args.text.now r) c.in_ok-counts.counts a in
    let P : Reading → Type 0 = λ o. HoldsIn o t u in
    stands w.mesh c.args.text.now r w.is c.in_ok-counts.counts t.corners.now t.friends.now t.marks.now t.starts.now u.corners.now u.friends.now u.marks.now u.starts.now w.quads_are w.points_are (subst P w.is c.read.ensures.tables) _ _ (returns-clause-call c)
