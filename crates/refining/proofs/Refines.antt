-- The calls that refine a bench once, one after the other.
use Rattle.std.proofs.Common.{◌≡◌, ℕ, zero, suc, ◌+◌, ◌-◌, ◌<◌, ◌≤◌, eqb, ltb, List, [], ◌∷◌, ◌++◌, map, get_or, Some, None, Ok, Err, Result, sym, refl, ap, ◌∙◌, inl, inr, arith}
use Rattle.std.specs.Result.{IsOk}
use Rattle.std.specs.List.{range_with_len, AllByRecursion}
use Rattle.std.proofs.lemmas.List.FromFn.{map-range_with_len_more}
use Rattle.std.proofs.ByRecursion.{All-push}
use Rattle.std.proofs.lemmas.List.{append_assoc, append-nil}
use Rattle.std.proofs.lemmas.Bool.{cases_lt, cond-false, lt-leb, le-ltb, eq-eqb, not_from_true}
use Rattle.mesh.specs.Count.{least}
use Rattle.mesh.specs.Mesh.{Mesh}
use Rattle.mesh.specs.Refusals.{fine, declined, number_of, place_of}
use Rattle.refinement.specs.Tasks.{Task, TaskOf, quad_task, point_task, number, blank, runs, tasks, refine}
use Rattle.refinement.proofs.Order.{work_goes_on, tasks_are, tasks_all}
use Rattle.refinement.proofs.Totals.{least_none}
use Rattle.chain.specs.Calls.{Call, begin, quad, point, finish, State, refusal, opened, worked, holding, carry, either, next}
use Rattle.chain.specs.Clauses.{run_on}
use Rattle.chain.specs.History.{ran_words, work_on}
use Rattle.chain.proofs.Flags.{ran_none, ran_push, ran_tells}
use Rattle.bench.specs.State.{bench_at}
use Rattle.bench.specs.Model.{state, told_slip}
use Rattle.bench.specs.declared.bench.Bench.{Bench}
use Rattle.bench.specs.declared.bench.slip.Declined.{Declined}
use Rattle.bench.specs.declared.stage.Stage.{Stage}
use Rattle.bench.specs.declared.stage.Stage.TheVariants.{Empty, Standing, Working}
use Rattle.refining.specs.Once.{RefinedOnce}

run_on_push : (s : State) (cs : List Call) (c : Call) → run_on s (cs ++ c ∷ []) ≡ next (run_on s cs) c
run_on_push s [] c = refl
run_on_push s (b ∷ cs) c = run_on_push (next s b) cs c

-- calls by number: one more
pub run_on_more : (call : ℕ → Call) (s : State) (i : ℕ) → run_on s (map call (range_with_len 0 (i + 1))) ≡ next (run_on s (map call (range_with_len 0 i))) (call i)
run_on_more call s i = ap (run_on s) (map-range_with_len_more call 0 i i (omega arith)) ∙ run_on_push s (map call (range_with_len 0 i)) (call i)

all_left : {X : Type 0} (P : X → Type 0) (xs ys : List X) → AllByRecursion P (xs ++ ys) → AllByRecursion P xs
all_left P [] ys a = tt
all_left P (x ∷ xs) ys a = (a.0, all_left P xs ys a.1)

-- a call that is carried out
carried_out : (s : State) (c : Call) → refusal s c ≡ fine → next s c ≡ carry s c
carried_out s c e = ap (λ o. either o (carry s c) s) e

module _ (words mark : ℕ) (m : Mesh) where
  -- the bench whose level in work is what the tasks ts wrote
  abbrev after : List Task → State
  after ts = record { words = words; mark = mark; standing = Some m; work = work_on (Some m) (Some ts) }

  task_more : (ts : List Task) (t : Task) → AllByRecursion (TaskOf m) ts → TaskOf m t → holding (after ts) (Some m) (worked (Some m) t (after ts).work) ≡ after (ts ++ t ∷ [])
  task_more ts t a h =
      let w = (work_goes_on m (runs m ts (blank m)) ts t (record { are_tasks = a; work_is = refl }) h).work_is in
      let r = ran_push m ts t h in
      cc

  quad_more : (ts : List Task) (q : ℕ) → AllByRecursion (TaskOf m) ts → q < m.quads → next (after ts) (quad q) ≡ after (ts ++ quad_task q ∷ [])
  quad_more ts q a h = carried_out (after ts) (quad q) (cond-false _ _ _ (lt-leb _ _ h)) ∙ task_more ts (quad_task q) a h

  point_more : (ts : List Task) (v : ℕ) → AllByRecursion (TaskOf m) ts → v < m.points → next (after ts) (point v) ≡ after (ts ++ point_task v ∷ [])
  point_more ts v a h = carried_out (after ts) (point v) (cond-false _ _ _ (lt-leb _ _ h)) ∙ task_more ts (point_task v) a h

  -- calls by number, each of which runs its task
  numbers_run : (call : ℕ → Call) (task : ℕ → Task) (bound : ℕ) → ((i : ℕ) → i < bound → TaskOf m (task i)) →
      ((ts : List Task) (i : ℕ) → AllByRecursion (TaskOf m) ts → i < bound → next (after ts) (call i) ≡ after (ts ++ task i ∷ [])) →
      (a n : ℕ) (ts : List Task) → AllByRecursion (TaskOf m) ts → a + n ≤ bound → run_on (after ts) (map call (range_with_len a n)) ≡ after (ts ++ map task (range_with_len a n))
  numbers_run call task bound is more a zero ts all h = ap after (sym (append-nil ts))
  numbers_run call task bound is more a (suc n) ts all h =
      ap (λ s. run_on s (map call (range_with_len (a + 1) n))) (more ts a all (omega arith))
      ∙ numbers_run call task bound is more (a + 1) n (ts ++ task a ∷ []) (All-push (TaskOf m) ts (task a) all (is a (omega arith))) (omega arith)
      ∙ ap after (append_assoc ts (task a ∷ []) (map task (range_with_len (a + 1) n)))

  pub tasks_run : run_on (run_on (after []) (map quad (range_with_len 0 m.quads))) (map point (range_with_len 0 m.points)) ≡ after (tasks m)
  unfolding tasks
  tasks_run =
      ap (λ s. run_on s (map point (range_with_len 0 m.points))) (numbers_run quad quad_task m.quads (λ i h. h) quad_more 0 m.quads [] tt (omega arith))
      ∙ numbers_run point point_task m.points (λ i h. h) point_more 0 m.points (map quad_task (range_with_len 0 m.quads)) (all_left (TaskOf m) _ (map point_task (range_with_len 0 m.points)) (tasks_are m)) (omega arith)

  -- every task has run
  task_ran : (t : Task) → TaskOf m t → get_or (ran_words m (tasks m)) (number m t) 0 ≡ 1
  task_ran t h = elim (ran_tells m (tasks m) (tasks_are m) t h) [
    | inl y ↦ y.1
    | inr y ↦ absurd (y.0 (tasks_all m t h))
  ]

  flag_set : (i : ℕ) → i < m.quads + m.points → get_or (ran_words m (tasks m)) i 0 ≡ 1
  flag_set i h = elim (cases_lt i m.quads) [
    | inl l ↦ task_ran (quad_task i) l
    | inr l ↦
        let e : m.quads + (i - m.quads) ≡ i = omega arith in
        ap (λ k. get_or (ran_words m (tasks m)) k 0) (sym e) ∙ task_ran (point_task (i - m.quads)) (omega arith)
  ]

  none_left : least (λ i. eqb (get_or (ran_words m (tasks m)) i 0) 0) (m.quads + m.points) ≡ m.quads + m.points
  none_left = least_none _ _ (λ i h. ap (λ x. eqb x 0) (flag_set i h))

  pub finish_fine : refusal (after (tasks m)) (finish mark) ≡ fine
  finish_fine =
      let n : ℕ = least (λ i. eqb (get_or (ran_words m (tasks m)) i 0) 0) (m.quads + m.points) in
      let e : n ≡ m.quads + m.points = none_left in
      cond-false _ _ _ (not_from_true _ (eq-eqb mark mark refl)) ∙ cond-false (ltb n (m.quads + m.points)) _ _ (le-ltb n (m.quads + m.points) (omega arith))

  pub finish_leaves : next (after (tasks m)) (finish mark) ≡ holding (after (tasks m)) (Some (refine m)) None
  unfolding refine
  finish_leaves = carried_out (after (tasks m)) (finish mark) finish_fine

-- begin leaves the bench where no task has run
begun : (s : State) (m : Mesh) → refusal s begin ≡ fine → s.standing ≡ Some m → next s begin ≡ after s.words s.mark m []
unfolding runs
begun s m f e =
    carried_out s begin f ∙ ap (λ o. holding s o (opened o)) e
    ∙ ap (λ x. record { words = s.words; mark = s.mark; standing = Some m; work = Some (record { tables = blank m; ran = x }) }) (ran_none m)

-- a bench has one mark number at every stage
mark_at : (stage : Stage) (mark : ℕ) (ws : List ℕ) → (bench_at stage mark ws).mark ≡ mark
mark_at Empty mark ws = refl
mark_at (Standing s) mark ws = refl
mark_at (Working s n) mark ws = refl

pub mark_is : (b : Bench) → (state b).mark ≡ b.mark
mark_is b = mark_at b.stage b.mark b.words.cells.now

-- m stood in s, and t is s with a level in work in which every task of m has run
pub record AllRan (s t : State) (m : Mesh) : Type 0 where
  pub stood : s.standing ≡ Some m
  pub ran : t ≡ after s.words s.mark m (tasks m)

-- s before begin, b after it, k after the quads and t after the points
pub all_ran : (s : State) {b k t : State} {m : Mesh} {F V : ℕ} → fine ≡ refusal s begin → b ≡ next s begin → b.standing ≡ Some m → F ≡ m.quads → V ≡ m.points →
    k ≡ run_on b (map quad (range_with_len 0 F)) → t ≡ run_on k (map point (range_with_len 0 V)) → AllRan s t m
all_ran s {b} {k} {t} {m} {F} {V} f e o eF eV ek et =
    let stood : s.standing ≡ Some m = sym (ap (λ (x : State). x.standing) (e ∙ carried_out s begin (sym f))) ∙ o in
    let quads : k ≡ run_on (after s.words s.mark m []) (map quad (range_with_len 0 m.quads)) = ek ∙ ap (λ n. run_on b (map quad (range_with_len 0 n))) eF ∙ ap (λ x. run_on x (map quad (range_with_len 0 m.quads))) (e ∙ begun s m (sym f) stood) in
    record {
      stood = stood;
      ran = et ∙ ap (λ n. run_on k (map point (range_with_len 0 n))) eV ∙ ap (λ x. run_on x (map point (range_with_len 0 m.points))) quads ∙ tasks_run s.words s.mark m;
    }

-- then finish with the slip of this bench is not refused
pub not_refused : (s t : State) (m : Mesh) (slip n p : ℕ) → AllRan s t m → slip ≡ s.mark → declined n p ≡ refusal t (finish slip) → ⊥
not_refused s t m slip n p a e r =
    let f : declined n p ≡ fine = r ∙ ap (λ x. refusal t (finish x)) e ∙ ap (λ x. refusal x (finish s.mark)) a.ran ∙ finish_fine s.words s.mark m in
    cc

-- so it is carried out
pub finishes : {s t : State} {m : Mesh} {slip : ℕ} (r : Result Unit Declined) → AllRan s t m → slip ≡ s.mark → told_slip r ≡ refusal t (finish slip) → IsOk r
finishes (Ok x) a e r = refl
finishes {s} {t} {m} {slip} (Err d) a e r = absurd (not_refused s t m slip (number_of d.fault) (place_of d.fault) a e r)

-- and leaves m refined
pub refined : {s t exit : State} {m : Mesh} {slip : ℕ} → fine ≡ refusal s begin → AllRan s t m → slip ≡ s.mark → exit ≡ next t (finish slip) → RefinedOnce s exit fine
refined {s} {t} {exit} {m} f a e r = record {
  answers = f;
  refused_leaves = λ n p d. cc;
  refines = λ w _ o.
      let same : m ≡ w = let stood = a.stood in cc in
      r ∙ ap (λ x. next t (finish x)) e ∙ ap (λ x. next x (finish s.mark)) a.ran ∙ finish_leaves s.words s.mark m ∙ ap (λ x. holding s (Some (refine x)) None) same;
}
