use Rattle.std.proofs.Common.{length, refl, arith}
use Rattle.std.proofs.lemmas.Result.{err_from_is_err_and}
use Rattle.mesh.specs.Causes.{mesh_of}
use Rattle.bench.proofs.Steps.{unlawful, load_in_work, load_too_few, load_carried}
use Rattle.bench.proofs.Keeps.{judged_lawful, judged_few, load_laid, load_keeps}
use Rattle.bench.proofs.bench.Bench.load.Goals as goal

pub returns-in_err-judge : goal.returns-in_err-judge
returns-in_err-judge c =
    let p = err_from_is_err_and c.from_residual.result c.from_residual.ensures.1 in
    let b = c.args.self.now in
    rw (p.1, p.2) (unlawful b.mark b.words.cells.now b.stage c.args.tables.now _ _ c.in_err-judge.ensures)

pub returns-in-Working : goal.returns-in-Working
returns-in-Working c =
    let b = c.args.self.now in
    load_in_work b.mark b.words.cells.now b.stage c.args.tables.now _ _ c.in-Working.is c.in_ok-judge.ensures

pub overflow_cast-size : goal.overflow_cast-size
overflow_cast-size c =
    let few = judged_few c.args.tables.now c.in_ok-judge.ensures in
    let q = few.0 in
    omega arith

pub overflow_cast-size-2 : goal.overflow_cast-size-2
unfolding mesh_of
overflow_cast-size-2 c =
    let few = judged_few c.args.tables.now c.in_ok-judge.ensures in
    let q = few.0 in
    let p = few.1 in
    omega arith

pub invariant_of-size : goal.invariant_of-size
unfolding mesh_of
invariant_of-size c =
    let few = judged_few c.args.tables.now c.in_ok-judge.ensures in
    let q = few.0 in
    let p = few.1 in
    record { quads_few = omega arith; points_few = omega arith }

pub returns-then-self-words : goal.returns-then-self-words
unfolding mesh_of
returns-then-self-words c =
    let b = c.args.self.now in
    load_too_few b.mark b.words.cells.now b.stage c.args.tables.now c.in_default.not-Working c.in_ok-judge.ensures _ _ c.quads.ensures refl (omega arith)

pub lay_tables-requires : goal.lay_tables-requires
unfolding mesh_of
lay_tables-requires c =
    let w = (judged_lawful c.args.tables.now c.in_ok-judge.ensures).sound.counted in
    let q = c.quads.ensures in
    let k = w.corner_count in
    let f = w.friend_count in
    let m = w.mark_count in
    record { lengths = record { corners = omega arith; friends = omega arith; marks = omega arith; starts = refl }; room = omega arith }

pub invariant_of-self : goal.invariant_of-self
unfolding mesh_of
invariant_of-self c =
    let b = c.args.self.now in
    let few = judged_few c.args.tables.now c.in_ok-judge.ensures in
    let q = few.0 in
    let p = few.1 in
    load_keeps c.args.tables.now c.in_ok-judge.ensures b.mark b.words.cells.now _ (record { quads = c.quads.result; points = length c.args.tables.now.starts.now; quads_few = omega arith; points_few = omega arith }) c.quads.ensures refl (omega arith) c.lay_tables.ensures

pub returns : goal.returns
unfolding mesh_of
returns c =
    let b = c.args.self.now in
    load_carried b.mark b.words.cells.now b.stage c.args.tables.now c.in_default.not-Working c.in_ok-judge.ensures _ _ c.quads.ensures refl _
    (load_laid c.args.tables.now c.in_ok-judge.ensures b.words.cells.now _ _ c.quads.ensures (omega arith) c.lay_tables.ensures) (omega arith)
