-- What each call answers and leaves, by the stage of the bench.
use Rattle.std.proofs.Common.{◌≡◌, ℕ, ◌+◌, ◌*◌, ◌<◌, ◌≤◌, Bool, true, false, not, eqb, ltb, List, length, replicate, Some, None, sym, refl, ap, ◌∙◌, arith}
use Rattle.std.proofs.lemmas.Bool.{cond-true, cond-false, lt-ltb, le-ltb, le-leb, lt-leb, eq-eqb, ne_eqb}
use Rattle.mesh.specs.Causes.{judge}
use Rattle.mesh.specs.Mesh.{Mesh, most_quads}
use Rattle.mesh.specs.Refusals.{Verdict, fine, declined}
use Rattle.refinement.specs.Tasks.{Task, quad_task, point_task, TaskOf}
use Rattle.tables.specs.Lent.{mesh}
use Rattle.tables.specs.declared.lent.Tables.{Tables}
use Rattle.chain.specs.Calls.{Call, load, begin, quad, point, finish, withdraw, State, cause, and_next, missing, words_to_load, holding, refusal, carry}
use Rattle.chain.specs.Clauses.{Called}
use Rattle.chain.proofs.Runs.{carried, declines}
use Rattle.layout.specs.Layout.{block, standing_in, laid, after_task, standing_bench, working_bench}
use Rattle.layout.specs.Laws.{LoadWrites}
use Rattle.layout.proofs.Laid.{begins_write, finishes_write}
use Rattle.layout.proofs.Writes.{tasks_write}
use Rattle.bench.specs.State.{bench_at, AtWork}
use Rattle.bench.specs.Questions.{unseen}
use Rattle.bench.proofs.Tasks.{first_left}
use Rattle.bench.specs.declared.level.Level.TheVariants.{InWork}
use Rattle.bench.specs.declared.stage.Size.{Size}
use Rattle.bench.specs.declared.stage.Stage.{Stage}
use Rattle.bench.specs.declared.stage.Stage.TheVariants.{Empty, Standing, Working}

-- what a load of a lawful mesh is refused for
abbrev later : State → Mesh → Verdict
later s m = cause 11 0 (not (missing s.work)) (cause 14 0 (ltb s.words (words_to_load m.quads m.points)) fine)

not_in_work : (s : Stage) (mark : ℕ) (ws : List ℕ) (m : Mesh) → ((z : Size) (n : ℕ) → s ≡ Working z n → ⊥) →
    later (bench_at s mark ws) m ≡ cause 14 0 (ltb (length ws) (8 * m.quads + m.points)) fine
not_in_work Empty mark ws m n = refl
not_in_work (Standing z) mark ws m n = refl
not_in_work (Working z k) mark ws m n = absurd (n z k refl)

words_of : (s : Stage) (mark : ℕ) (ws : List ℕ) → (bench_at s mark ws).words ≡ length ws
words_of Empty mark ws = refl
words_of (Standing z) mark ws = refl
words_of (Working z k) mark ws = refl

mark_of : (s : Stage) (mark : ℕ) (ws : List ℕ) → (bench_at s mark ws).mark ≡ mark
mark_of Empty mark ws = refl
mark_of (Standing z) mark ws = refl
mark_of (Working z k) mark ws = refl

loaded : (b : State) (mark : ℕ) (ws vs : List ℕ) (m : Mesh) → b.words ≡ length ws → b.mark ≡ mark → LoadWrites m ws vs → standing_bench mark m.quads m.points vs ≡ holding b (Some m) None
loaded b mark ws vs m e f d = λ i. record { words = (d.length_kept ∙ sym e) i; mark = sym f i; standing = Some (d.standing_is i); work = None }

-- a call that is refused before its last cause
refused_early : (h i j : Bool) (last : Verdict) (n p : ℕ) → cause 12 0 h (cause 15 0 i (cause 17 0 j fine)) ≡ declined n p → cause 12 0 h (cause 15 0 i (cause 17 0 j last)) ≡ declined n p
refused_early true i j last n p e = e
refused_early false true j last n p e = e
refused_early false false true last n p e = e
refused_early false false false last n p e = (cc)

-- the bench at a stage
module _ (mark : ℕ) (ws : List ℕ) where
  -- a call that a stage refuses
  pub refused_at : (s r : Stage) → s ≡ r → (c : Call) (n p : ℕ) → refusal (bench_at r mark ws) c ≡ declined n p → Called (bench_at s mark ws) c (bench_at s mark ws) (declined n p)
  refused_at s r e c n p k = rw e (declines (bench_at r mark ws) c n p k)

  pub too_large : (s : Stage) (z : Size) → s ≡ Standing z → most_quads < 4 * z.quads → Called (bench_at s mark ws) begin (bench_at s mark ws) (declined 13 0)
  too_large s z e h = refused_at s (Standing z) e begin 13 0 (cond-true _ _ _ (lt-ltb _ _ h))

  pub too_few : (s : Stage) (z : Size) → s ≡ Standing z → 4 * z.quads ≤ most_quads → length ws < 44 * z.quads + 3 * z.points → Called (bench_at s mark ws) begin (bench_at s mark ws) (declined 14 0)
  too_few s z e h k = refused_at s (Standing z) e begin 14 0 (cond-false _ _ _ (le-ltb _ _ h) ∙ cond-true _ _ _ (lt-ltb _ _ k))

  pub begin_carried : (s : Stage) (z : Size) (vs : List ℕ) → s ≡ Standing z → 4 * z.quads ≤ most_quads → 44 * z.quads + 3 * z.points ≤ length ws →
      vs ≡ laid ws (8 * z.quads + z.points) (replicate (36 * z.quads + 2 * z.points) 0) → Called (bench_at s mark ws) begin (working_bench mark z.quads z.points vs) fine
  begin_carried s z vs e h k is =
      let b = begins_write z.quads z.points ws k in
      rw (e, is)
      (carried (standing_bench mark z.quads z.points ws) _ begin (cond-false _ _ _ (le-ltb _ _ h) ∙ cond-false _ _ _ (le-ltb _ _ k))
      (λ i. record { words = b.length_kept i; mark = mark; standing = Some (b.standing_kept i); work = Some (record { tables = b.tables_blank i; ran = b.none_ran i }) }))

-- a bench without a level in work
module _ (b : State) (n p : ℕ) (e : unseen b InWork ≡ declined n p) where
  pub no_work_quad : (q : ℕ) → Called b (quad q) b (declined n p)
  no_work_quad q = declines b (quad q) n p (refused_early (missing b.standing) (missing b.work) false _ n p e)

  pub no_work_point : (v : ℕ) → Called b (point v) b (declined n p)
  no_work_point v = declines b (point v) n p (refused_early (missing b.standing) (missing b.work) false _ n p e)

  pub no_work_withdraw : (slip : ℕ) → refusal b (withdraw slip) ≡ declined n p
  no_work_withdraw slip = refused_early (missing b.standing) (missing b.work) false _ n p e

-- a slip that may not close the level in work
pub not_closed : (b : State) (slip n p : ℕ) → refusal b (withdraw slip) ≡ declined n p → Called b (finish slip) b (declined n p)
not_closed b slip n p e = declines b (finish slip) n p (refused_early (missing b.standing) (missing b.work) (not (eqb slip b.mark)) _ n p e)

-- a bench with one
module _ (b : State) (mark n : ℕ) (s : Size) (ws : List ℕ) (a : AtWork b mark s n ws) where
  refused_in_work : (c : Call) (k p : ℕ) → refusal (working_bench mark s.quads s.points ws) c ≡ declined k p → Called b c b (declined k p)
  refused_in_work c k p e = rw a.is (declines (working_bench mark s.quads s.points ws) c k p e)

  pub other_slip : (slip : ℕ) → (slip ≡ mark → ⊥) → refusal b (withdraw slip) ≡ declined 17 0
  other_slip slip h = rw a.is (ap (λ b. cause 17 0 (not b) fine) (ne_eqb slip mark h))

  pub withdraw_carried : (slip : ℕ) → slip ≡ mark → Called b (withdraw slip) (standing_bench mark s.quads s.points ws) fine
  withdraw_carried slip h =
      rw a.is (carried (working_bench mark s.quads s.points ws) (standing_bench mark s.quads s.points ws) (withdraw slip) (ap (λ b. cause 17 0 (not b) fine) (eq-eqb slip mark h)) refl)

  -- tasks
  pub no_such_quad : (q : ℕ) → s.quads ≤ q → Called b (quad q) b (declined 16 q)
  no_such_quad q h = refused_in_work (quad q) 16 q (cond-true _ _ _ (le-leb _ _ h))

  pub no_such_point : (v : ℕ) → s.points ≤ v → Called b (point v) b (declined 16 v)
  no_such_point v h = refused_in_work (point v) 16 v (cond-true _ _ _ (le-leb _ _ h))

  task_leaves : (t : Task) → TaskOf (standing_in ws s.quads s.points) t →
      working_bench mark s.quads s.points (after_task (standing_in ws s.quads s.points) t ws) ≡ carry (working_bench mark s.quads s.points ws) (elim t [ quad_task q ↦ quad q | point_task v ↦ point v ])
  task_leaves (quad_task q) h =
      let d = tasks_write s.quads s.points (quad_task q) ws a.ready.range h a.ready.room in
      λ i. record { words = d.length_kept i; mark = mark; standing = Some (d.standing_kept i); work = Some (record { tables = d.tables_written i; ran = d.ran_written i }) }
  task_leaves (point_task v) h =
      let d = tasks_write s.quads s.points (point_task v) ws a.ready.range h a.ready.room in
      λ i. record { words = d.length_kept i; mark = mark; standing = Some (d.standing_kept i); work = Some (record { tables = d.tables_written i; ran = d.ran_written i }) }

  pub quad_carried : (q : ℕ) (vs : List ℕ) → q < s.quads → vs ≡ after_task (standing_in ws s.quads s.points) (quad_task q) ws → Called b (quad q) (working_bench mark s.quads s.points vs) fine
  quad_carried q vs h is = rw (a.is, is) (carried (working_bench mark s.quads s.points ws) _ (quad q) (cond-false _ _ _ (lt-leb _ _ h)) (task_leaves (quad_task q) h))

  pub point_carried : (v : ℕ) (vs : List ℕ) → v < s.points → vs ≡ after_task (standing_in ws s.quads s.points) (point_task v) ws → Called b (point v) (working_bench mark s.quads s.points vs) fine
  point_carried v vs h is = rw (a.is, is) (carried (working_bench mark s.quads s.points ws) _ (point v) (cond-false _ _ _ (lt-leb _ _ h)) (task_leaves (point_task v) h))

  -- finish, by the lowest task that has yet to run
  abbrev lowest : ℕ
  lowest = first_left ws s.quads s.points

  of_slip : (slip : ℕ) → slip ≡ mark → refusal (working_bench mark s.quads s.points ws) (finish slip) ≡ cause 18 lowest (ltb lowest (s.quads + s.points)) fine
  of_slip slip h = ap (λ b. cause 17 0 (not b) (cause 18 lowest (ltb lowest (s.quads + s.points)) fine)) (eq-eqb slip mark h)

  pub not_run : (slip k : ℕ) → slip ≡ mark → k ≡ lowest → k < s.quads + s.points → Called b (finish slip) b (declined 18 k)
  not_run slip k h is l =
      refused_in_work (finish slip) 18 k (of_slip slip h ∙ ap (λ x. cause 18 x (ltb x (s.quads + s.points)) fine) (sym is) ∙ cond-true _ _ _ (lt-ltb _ _ l))

  pub finish_carried : (slip : ℕ) (r : Size) (vs : List ℕ) → slip ≡ mark → r.quads ≡ 4 * s.quads → r.points ≡ s.points + 3 * s.quads → s.quads + s.points ≤ lowest →
      vs ≡ laid ws 0 (block ws (8 * s.quads + s.points) (35 * s.quads + s.points)) → Called b (finish slip) (standing_bench mark r.quads r.points vs) fine
  finish_carried slip r vs h q p k is =
      let d = finishes_write s.quads s.points ws a.ready.room in
      rw (a.is, q, p, is)
      (carried (working_bench mark s.quads s.points ws) _ (finish slip) (of_slip slip h ∙ cond-false _ _ _ (le-ltb _ _ k))
      (λ i. record { words = d.length_kept i; mark = mark; standing = Some (d.standing_is i); work = None }))

-- loads
module _ (mark : ℕ) (ws : List ℕ) (s : Stage) (t : Tables) where
  abbrev loads : Call
  loads = load t.corners.now t.friends.now t.marks.now t.starts.now

  pub unlawful : (n p : ℕ) → declined n p ≡ judge (mesh t) → Called (bench_at s mark ws) loads (bench_at s mark ws) (declined n p)
  unlawful n p e = declines (bench_at s mark ws) loads n p (sym (ap (λ v. and_next v (later (bench_at s mark ws) (mesh t))) e))

  pub load_in_work : (z : Size) (n : ℕ) → s ≡ Working z n → fine ≡ judge (mesh t) → Called (bench_at s mark ws) loads (bench_at s mark ws) (declined 11 0)
  load_in_work z n e j =
      refused_at mark ws s (Working z n) e loads 11 0 (sym (ap (λ v. and_next v (later (bench_at (Working z n) mark ws) (mesh t))) j))

  module _ (idle : (z : Size) (n : ℕ) → s ≡ Working z n → ⊥) (j : fine ≡ judge (mesh t)) (G U : ℕ) (e : G ≡ (mesh t).quads) (f : U ≡ (mesh t).points) where
    only_room : refusal (bench_at s mark ws) loads ≡ cause 14 0 (ltb (length ws) (8 * (mesh t).quads + (mesh t).points)) fine
    only_room = sym (ap (λ v. and_next v (later (bench_at s mark ws) (mesh t))) j) ∙ not_in_work s mark ws (mesh t) idle

    pub load_too_few : length ws < 8 * G + U → Called (bench_at s mark ws) loads (bench_at s mark ws) (declined 14 0)
    load_too_few h = declines (bench_at s mark ws) loads 14 0 (only_room ∙ cond-true _ _ _ (lt-ltb (length ws) (8 * (mesh t).quads + (mesh t).points) (omega arith)))

    pub load_carried : (vs : List ℕ) → LoadWrites (mesh t) ws vs → 8 * G + U ≤ length ws →
        Called (bench_at s mark ws) loads (standing_bench mark G U vs) fine
    load_carried vs d h =
        carried (bench_at s mark ws) _ loads (only_room ∙ cond-false _ _ _ (le-ltb (length ws) (8 * (mesh t).quads + (mesh t).points) (omega arith)))
        (rw (e, f) (loaded (bench_at s mark ws) mark ws vs (mesh t) (words_of s mark ws) (mark_of s mark ws) d))
