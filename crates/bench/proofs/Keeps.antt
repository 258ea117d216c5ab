-- That each call keeps what every bench keeps.
use Rattle.std.proofs.Common.{◌≡◌, ℕ, ◌+◌, ◌*◌, ◌≤◌, cond, eqb, List, [], length, get_or, set, replicate, count_by, sym, refl, ap, ◌∙◌, subst, arith}
use mathlib.Core.Logic.{∥∥₁_elim, ∥∥₁_map, ∥∥₁_map₂}
use native.Mathlib.Bridge.{le_prop}
use Rattle.std.proofs.lemmas.List.Folds.{sum_by-replicate}
use Rattle.mesh.specs.Count.{least}
use Rattle.mesh.specs.Causes.{judge, mesh_of}
use Rattle.mesh.specs.Refusals.{fine}
use Rattle.mesh.specs.Mesh.{Mesh, Lawful, most_quads}
use Rattle.refinement.specs.Tasks.{Task, TaskOf, number, blank, run, runs}
use Rattle.refinement.proofs.Causes.{judges}
use Rattle.refinement.proofs.Keeps.{refinement_keeps_lawful}
use Rattle.refinement.proofs.Order.{any_order, work_goes_on}
use Rattle.chain.proofs.Flags.{ran_none, ran_push, ran_all}
use Rattle.layout.specs.Layout.{block, standing_in, work_in, laid, after_task, InRange, Written}
use Rattle.layout.specs.Laws.{four_laid, LoadWrites}
use Rattle.layout.proofs.Blocks.{length_block}
use Rattle.layout.proofs.Laid.{begins_write, finishes_write, loads_write}
use Rattle.layout.proofs.Writes.{tasks_write}
use Rattle.tables.specs.Lent.{mesh}
use Rattle.tables.specs.declared.lent.Tables.{Tables}
use Rattle.chain.specs.Calls.{State}
use Rattle.bench.specs.State.{bench_at, Few, Room, Stands, Works, Count, Ready, AtWork}
use Rattle.bench.proofs.Tasks.{first_left}
use Rattle.bench.specs.declared.bench.Bench.{Bench}
use Rattle.bench.specs.declared.stage.Size.{Size}
use Rattle.bench.specs.declared.stage.Stage.{Stage}
use Rattle.bench.specs.declared.stage.Stage.TheVariants.{Standing, Working}

-- what a call owes at its end, all ghost fields at once
abbrev pub Kept : Stage → ℕ → List ℕ → Type 0
Kept s mark ws = record {
  few : Few s;
  room : Room s ws;
  lawful : ∥ Stands s ws ∥₁;
  written : ∥ Works s ws ∥₁;
  count : Count s mark ws;
}

pub kept : (b : Bench) → Kept b.stage b.mark b.words.cells.now
kept b = record { few = b.few; room = b.room; lawful = b.lawful; written = b.written; count = b.count }

-- the words of a lawful level are in range
pub in_range : (m : Mesh) → ∥ Lawful m ∥₁ → InRange m
in_range m h = record {
  points_enough = ∥∥₁_elim h le_prop (λ w. w.sound.points_enough);
  corners_have_points = λ c k. ∥∥₁_elim h le_prop (λ w. w.sound.corners_have_points c k);
  friends_are_edges = λ o k. ∥∥₁_elim h le_prop (λ w. w.sound.friends_are_edges o k);
  starts_are_corners = λ v k. ∥∥₁_elim h le_prop (λ w. w.sound.starts_are_corners v k);
}

count_zeros : (n : ℕ) → count_by (λ w. eqb w 0) (replicate n 0) ≡ n
count_zeros n = let e : n * 1 ≡ n = omega arith in sum_by-replicate (λ w. cond (eqb w 0) 1 0) n 0 ∙ e

-- what a bench at work keeps
pub at_work : (mark n : ℕ) (ws : List ℕ) (s : Size) (st : Stage) → st ≡ Working s n → Kept st mark ws → AtWork (bench_at st mark ws) mark s n ws
at_work mark n ws s st e kept =
    let k = subst (λ x. Kept x mark ws) e kept in
    record {
      is = ap (λ x. bench_at x mark ws) e;
      few = k.few;
      ready = record { room = k.room; range = in_range (standing_in ws s.quads s.points) k.lawful };
      lawful = k.lawful;
      written = k.written;
      count = k.count;
    }

pub ran_length : (s : Size) (ws : List ℕ) → Ready s ws → length (block ws (43 * s.quads + 2 * s.points) (s.quads + s.points)) ≡ s.quads + s.points
ran_length s ws r = length_block ws (43 * s.quads + 2 * s.points) (s.quads + s.points) (omega arith)

pub begin_keeps : (mark : ℕ) (ws vs : List ℕ) (s : Size) (st : Stage) → st ≡ Standing s → ∥ Stands st ws ∥₁ → 4 * s.quads ≤ most_quads → 44 * s.quads + 3 * s.points ≤ length ws →
    vs ≡ laid ws (8 * s.quads + s.points) (replicate (36 * s.quads + 2 * s.points) 0) → Kept (Working s (s.quads + s.points)) mark vs
unfolding runs
begin_keeps mark ws vs s st e h k room is =
    let F = s.quads in
    let V = s.points in
    let m = standing_in ws F V in
    let b = begins_write F V ws room in
    let us : List ℕ = laid ws (8 * F + V) (replicate (36 * F + 2 * V) 0) in
    let w : Written m (work_in us F V) = record { tasks_run = []; are_tasks = tt; tables_are = b.tables_blank; ran_are = b.none_ran ∙ ran_none m } in
    let l = b.length_kept in
    let law : ∥ Lawful m ∥₁ = subst (λ x. ∥ Stands x ws ∥₁) e h in
    subst (λ x. Kept (Working s (F + V)) mark x) (sym is) (record {
      few = omega arith;
      room = omega arith;
      lawful = ∥∥₁_map law (λ x. subst Lawful (sym b.standing_kept) x);
      written = ∣ subst (λ x. Written x (work_in us F V)) (sym b.standing_kept) w ∣₁;
      count = sym (ap (count_by (λ x. eqb x 0)) b.none_ran ∙ count_zeros (F + V));
    })

module _ (b : State) (mark n : ℕ) (s : Size) (ws : List ℕ) (a : AtWork b mark s n ws) where
  pub withdraw_keeps : Kept (Standing s) mark ws
  withdraw_keeps = let r = a.ready.room in record { few = omega arith; room = omega arith; lawful = a.lawful; written = ∣ tt ∣₁; count = refl }

  pub task_keeps : (t : Task) (k : ℕ) (vs : List ℕ) → TaskOf (standing_in ws s.quads s.points) t →
      k ≡ count_by (λ w. eqb w 0) (set (block ws (43 * s.quads + 2 * s.points) (s.quads + s.points)) (number (standing_in ws s.quads s.points) t) 1) →
      vs ≡ after_task (standing_in ws s.quads s.points) t ws → Kept (Working s k) mark vs
  task_keeps t k vs h c is =
      let F = s.quads in
      let V = s.points in
      let m = standing_in ws F V in
      let r = a.ready.room in
      let d = tasks_write F V t ws a.ready.range h r in
      let us : List ℕ = after_task m t ws in
      let l = d.length_kept in
      let more : Written m (work_in ws F V) → Written m (work_in us F V) = λ w.
      let g = work_goes_on m (runs m w.tasks_run (blank m)) w.tasks_run t (record { are_tasks = w.are_tasks; work_is = refl }) h in
      record {
        tasks_run = _;
        are_tasks = g.are_tasks;
        tables_are = d.tables_written ∙ ap (run m t) w.tables_are ∙ g.work_is;
        ran_are = d.ran_written ∙ ap (λ x. set x (number m t) 1) w.ran_are ∙ ran_push m w.tasks_run t h;
      } in
      subst (λ x. Kept (Working s k) mark x) (sym is) (record {
        few = a.few;
        room = omega arith;
        lawful = ∥∥₁_map a.lawful (λ x. subst Lawful (sym d.standing_kept) x);
        written = ∥∥₁_map a.written (λ w. subst (λ x. Written x (work_in us F V)) (sym d.standing_kept) (more w));
        count = c ∙ sym (ap (count_by (λ x. eqb x 0)) d.ran_written);
      })

  pub finish_keeps : (r : Size) (vs : List ℕ) → r.quads ≡ 4 * s.quads → r.points ≡ s.points + 3 * s.quads → s.quads + s.points ≤ first_left ws s.quads s.points →
      vs ≡ laid ws 0 (block ws (8 * s.quads + s.points) (35 * s.quads + s.points)) → Kept (Standing r) mark vs
  finish_keeps r vs q p all is =
      let F = s.quads in
      let V = s.points in
      let m = standing_in ws F V in
      let room = a.ready.room in
      let d = finishes_write F V ws room in
      let l = d.length_kept in
      let few = a.few in
      let us : List ℕ = laid ws 0 (block ws (8 * F + V) (35 * F + V)) in
      let raised : Lawful m → Written m (work_in ws F V) → Lawful (standing_in us (4 * F) (V + 3 * F)) = λ w x.
      let every = ran_all m x.tasks_run x.are_tasks (subst (λ (y : List ℕ). F + V ≤ least (λ i. eqb (get_or y i 0) 0) (F + V)) x.ran_are all) in
      subst Lawful (sym (d.standing_is ∙ x.tables_are ∙ any_order m w x.tasks_run x.are_tasks every)) (refinement_keeps_lawful m w (omega arith)) in
      let law : ∥ Lawful (standing_in us (4 * F) (V + 3 * F)) ∥₁ = ∥∥₁_map₂ a.lawful a.written raised in
      let fits : 8 * (4 * F) + (V + 3 * F) ≤ length us = omega arith in
      rw is (record { few = omega arith; room = rw (q, p) fits; lawful = rw (q, p) law; written = ∣ tt ∣₁; count = refl })

-- a mesh that was loaded
module _ (t : Tables) (j : fine ≡ judge (mesh t)) where
  pub judged_lawful : Lawful (mesh t)
  judged_lawful = (judges (mesh t)).only_lawful (sym j)

  pub judged_few : ((mesh t).quads ≤ most_quads) × ((mesh t).points ≤ 2 * (mesh t).quads)
  judged_few = let w = judged_lawful.sound in (w.quads_few, w.points_few)

  pub load_laid : (ws vs : List ℕ) (F : ℕ) → F ≡ (mesh t).quads → 8 * F + (mesh t).points ≤ length ws → vs ≡ four_laid ws F t.corners.now t.friends.now t.marks.now t.starts.now →
      LoadWrites (mesh t) ws vs
  unfolding mesh_of
  load_laid ws vs F e room is =
      let m = mesh t in
      let k : vs ≡ four_laid ws m.quads t.corners.now t.friends.now t.marks.now t.starts.now = is ∙ ap (λ x. four_laid ws x t.corners.now t.friends.now t.marks.now t.starts.now) e in
      subst (λ x. LoadWrites m ws x) (sym k) (loads_write m ws judged_lawful.sound.counted (omega arith))

  pub load_keeps : (mark : ℕ) (ws vs : List ℕ) (s : Size) → s.quads ≡ (mesh t).quads → s.points ≡ (mesh t).points → 8 * s.quads + s.points ≤ length ws →
      vs ≡ four_laid ws s.quads t.corners.now t.friends.now t.marks.now t.starts.now → Kept (Standing s) mark vs
  load_keeps mark ws vs s e f room is =
      let m = mesh t in
      let b = load_laid ws vs s.quads e (omega arith) is in
      let l = b.length_kept in
      let law : Lawful (standing_in vs m.quads m.points) = subst Lawful (sym b.standing_is) judged_lawful in
      record { few = omega arith; room = omega arith; lawful = ∣ rw (e, f) law ∣₁; written = ∣ tt ∣₁; count = refl }
