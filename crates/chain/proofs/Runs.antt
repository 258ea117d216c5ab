-- The promise, by going through the calls.
use Rattle.std.proofs.Common.{◌≡◌, ℕ, suc, ◌+◌, ◌*◌, ◌^◌, ◌≤◌, Bool, true, false, not, eqb, ltb, leb, List, [], ◌∷◌, ◌++◌, get_or, set, Some, None, Option, sym, refl, ap, ◌∙◌, subst, pow-suc, arith}
use Rattle.std.specs.List.{AllByRecursion}
use Rattle.std.proofs.lemmas.Bool.{ltb-false}
use Rattle.std.proofs.lemmas.Bool.Decides.{nat_tests}
use Rattle.mesh.specs.Count.{least}
use Rattle.mesh.specs.Causes.{judge, mesh_of}
use Rattle.mesh.specs.Mesh.{Mesh, Lawful, most_quads}
use Rattle.mesh.specs.Refusals.{Verdict, fine, declined}
use Rattle.lines.specs.Reading.{Room, Reading, accepted, refused, reading}
use Rattle.refinement.specs.Tasks.{Task, TaskOf, quad_task, point_task, number, blank, run as run_task, runs, level}
use Rattle.refinement.proofs.Causes.{judges}
use Rattle.refinement.proofs.Order.{work_goes_on, any_order}
use Rattle.refinement.proofs.Keeps.{levels_lawful}
use Rattle.chain.specs.Calls.{Call, load, load_text, begin, quad, point, finish, withdraw, Work, State, cause, and_next, load_refusal, text_refusal, refusal, read_mesh, tables_of, holding, carry, either, next, made, run}
use Rattle.chain.specs.History.{latest_mesh, finishes, and_then, tasks_since, refined_times, ran_words, work_on, told_bench, kept_if, carried_out}
use Rattle.chain.specs.Promise.{Worked, Promise, EveryChainKeepsTheMesh}
use Rattle.chain.specs.Clauses.{GoesOn, Made, Called, run_on, on_top, GoesOnThrough, After as AfterCalls, CallByCall, TextsLoadAsTables}
use Rattle.chain.specs.Level.{Keeps}
use Rattle.chain.proofs.Levels.{whole, keeps}
use Rattle.chain.proofs.Flags.{ran_none, ran_push, ran_tells, ran_all}

some≢none : {A : Type 0} {B : Type 0} (x : A) → Some x ≡ None → B
some≢none x e = let z : ◌≡◌ {A = ℕ} 0 1 = cc in absurd (omega arith)

same : {A : Type 0} (x y : A) → Some x ≡ Some y → x ≡ y
same x y e = cc

-- where there is no refusal, no cause holds
declined≢fine : {B : Type 0} (n p : ℕ) → declined n p ≡ fine → B
declined≢fine n p e = let z : ◌≡◌ {A = ℕ} 0 1 = cc in absurd (omega arith)

clear : (n p : ℕ) (holds : Bool) (more : Verdict) → cause n p holds more ≡ fine → (holds ≡ false) × (more ≡ fine)
clear n p true more e = declined≢fine _ _ e
clear n p false more e = (refl, e)

tables_clear : (v more : Verdict) → and_next v more ≡ fine → v ≡ fine
tables_clear fine more e = refl
tables_clear (declined n p) more e = declined≢fine _ _ e

-- What holds of the calls that were carried out: of the mesh loaded latest, the finishes since and the tasks since a begin.
record Stood (m : Mesh) (k : ℕ) : Type 0 where
  lawful : Lawful m
  few : 4 ^ k * m.quads ≤ most_quads

record Working (m : Mesh) (k : ℕ) (ts : List Task) : Type 0 where
  stood : Stood m k
  are_tasks : AllByRecursion (TaskOf (level m k)) ts
  next_few : 4 * (level m k).quads ≤ most_quads

abbrev Fit : Option Mesh → ℕ → Option (List Task) → Type 0
Fit None k None = Unit {0}
Fit None k (Some ts) = ⊥
Fit (Some m) k None = Stood m k
Fit (Some m) k (Some ts) = Working m k ts

lawful_at : (m : Mesh) (k : ℕ) → Stood m k → Lawful (level m k)
lawful_at m k s = (levels_lawful m s.lawful k s.few).0

-- the bench that is told by a mesh loaded, so many finishes since and tasks since a begin
abbrev bench_with : ℕ → ℕ → Option Mesh → ℕ → Option (List Task) → State
bench_with words mark l k o = record { words = words; mark = mark; standing = refined_times k l; work = work_on (refined_times k l) o }

-- A call that is carried out: what is told before it and after it.
record Step (words mark : ℕ) (c : Call) (l : Option Mesh) (k : ℕ) (o : Option (List Task)) (l2 : Option Mesh) (k2 : ℕ) (o2 : Option (List Task)) : Type 0 where
  leaves : carry (bench_with words mark l k o) c ≡ bench_with words mark l2 k2 o2
  fits : Fit l2 k2 o2

-- the mesh of a load that is carried out
load_fits : (s : State) (m : Mesh) → load_refusal s m ≡ fine → Stood m 0
load_fits s m e =
    let w = (judges m).only_lawful (tables_clear (judge m) _ e) in
    let few = w.sound.quads_few in
    record { lawful = w; few = omega arith }

module _ (words mark : ℕ) where
  Open : Call → Option Mesh → ℕ → Option (List Task) → Type 0
  Open c l k o = refusal (bench_with words mark l k o) c ≡ fine

  load_step : (cs fs ms ss : List ℕ) (l : Option Mesh) (k : ℕ) (o : Option (List Task)) → Open (load cs fs ms ss) l k o →
      Step words mark (load cs fs ms ss) l k o (Some (mesh_of cs fs ms ss)) 0 None
  unfolding level Open
  load_step cs fs ms ss l k o e = record { leaves = refl; fits = load_fits (bench_with words mark l k o) (mesh_of cs fs ms ss) e }

  -- a text that was read is loaded
  text_fits : (s : State) (r : Reading) → text_refusal s r ≡ fine → (holding s (read_mesh r) None ≡ bench_with s.words s.mark (read_mesh r) 0 None) × Fit (read_mesh r) 0 None
  unfolding level
  text_fits s (accepted m) e = (refl, load_fits s (tables_of m) e)
  text_fits s (refused f) e = declined≢fine _ _ e

  text_step : (bytes : List ℕ) (room : Room) (l : Option Mesh) (k : ℕ) (o : Option (List Task)) → Open (load_text bytes room) l k o →
      Step words mark (load_text bytes room) l k o (read_mesh (reading bytes room)) 0 None
  unfolding Open
  text_step bytes room l k o e = let t = text_fits (bench_with words mark l k o) (reading bytes room) e in record { leaves = t.0; fits = t.1 }

  begin_step : (l : Option Mesh) (k : ℕ) (o : Option (List Task)) → Fit l k o → Open begin l k o → Step words mark begin l k o l k (Some [])
  unfolding Open runs
  begin_step None k None f e = declined≢fine _ _ e
  begin_step None k (Some ts) f e = absurd f
  begin_step (Some m) k (Some ts) f e = declined≢fine _ _ e
  begin_step (Some m) k None f e =
      record {
        leaves = ap (λ x. record { words = words; mark = mark; standing = Some (level m k); work = Some (record { tables = blank (level m k); ran = x }) }) (ran_none (level m k));
        fits = record { stood = f; are_tasks = tt; next_few = ltb-false _ _ (clear 13 0 _ _ e).0 };
      }

  -- a task of the level in work
  task_step : (m : Mesh) (k : ℕ) (ts : List Task) (t : Task) → Working m k ts → TaskOf (level m k) t →
      (◌≡◌ {A = Option Work}
      (Some (record { tables = run_task (level m k) t (runs (level m k) ts (blank (level m k))); ran = set (ran_words (level m k) ts) (number (level m k) t) 1 }))
      (work_on (Some (level m k)) (Some (ts ++ t ∷ []))))
      × Working m k (ts ++ t ∷ [])
  task_step m k ts t f h =
      let r = level m k in
      let a = work_goes_on r (runs r ts (blank r)) ts t (record { are_tasks = f.are_tasks; work_is = refl }) h in
      (cc (a.work_is, ran_push r ts t h), record { stood = f.stood; are_tasks = a.are_tasks; next_few = f.next_few })

  quad_step : (q : ℕ) (l : Option Mesh) (k : ℕ) (o : Option (List Task)) → Fit l k o → Open (quad q) l k o → Step words mark (quad q) l k o l k (and_then o (quad_task q))
  unfolding Open
  quad_step q None k None f e = declined≢fine _ _ e
  quad_step q None k (Some ts) f e = absurd f
  quad_step q (Some m) k None f e = declined≢fine _ _ e
  quad_step q (Some m) k (Some ts) f e =
      let c = (clear 16 q (leb (level m k).quads q) fine e).0 in
      let s = task_step m k ts (quad_task q) f (grind (arith, nat_tests)) in
      record { leaves = ap (λ x. record { words = words; mark = mark; standing = Some (level m k); work = x }) s.0; fits = s.1 }

  point_step : (v : ℕ) (l : Option Mesh) (k : ℕ) (o : Option (List Task)) → Fit l k o → Open (point v) l k o → Step words mark (point v) l k o l k (and_then o (point_task v))
  unfolding Open
  point_step v None k None f e = declined≢fine _ _ e
  point_step v None k (Some ts) f e = absurd f
  point_step v (Some m) k None f e = declined≢fine _ _ e
  point_step v (Some m) k (Some ts) f e =
      let c = (clear 16 v (leb (level m k).points v) fine e).0 in
      let s = task_step m k ts (point_task v) f (grind (arith, nat_tests)) in
      record { leaves = ap (λ x. record { words = words; mark = mark; standing = Some (level m k); work = x }) s.0; fits = s.1 }

  finish_step : (slip : ℕ) (l : Option Mesh) (k : ℕ) (o : Option (List Task)) → Fit l k o → Open (finish slip) l k o → Step words mark (finish slip) l k o l (suc k) None
  unfolding Open level
  finish_step slip None k None f e = declined≢fine _ _ e
  finish_step slip None k (Some ts) f e = absurd f
  finish_step slip (Some m) k None f e = declined≢fine _ _ e
  finish_step slip (Some m) k (Some ts) f e =
      let r = level m k in
      let tasks : ℕ = r.quads + r.points in
      let lowest : ℕ = least (λ i. eqb (get_or (ran_words r ts) i 0) 0) tasks in
      let ours = (clear 17 0 (not (eqb slip mark)) (cause 18 lowest (ltb lowest tasks) fine) e).1 in
      let all = ltb-false lowest tasks (clear 18 lowest (ltb lowest tasks) fine ours).0 in
      let s = f.stood in
      let n = levels_lawful m s.lawful k s.few in
      let done = any_order r n.0 ts f.are_tasks (ran_all r ts f.are_tasks all) in
      let q = n.1 in
      let h = f.next_few in
      let p = ap (λ x. x * m.quads) (pow-suc 4 k) in
      record {
        leaves = ap (λ x. record { words = words; mark = mark; standing = Some x; work = None }) done;
        fits = record { lawful = s.lawful; few = omega arith };
      }

  withdraw_step : (slip : ℕ) (l : Option Mesh) (k : ℕ) (o : Option (List Task)) → Fit l k o → Open (withdraw slip) l k o → Step words mark (withdraw slip) l k o l k None
  unfolding Open
  withdraw_step slip None k None f e = declined≢fine _ _ e
  withdraw_step slip None k (Some ts) f e = absurd f
  withdraw_step slip (Some m) k None f e = declined≢fine _ _ e
  withdraw_step slip (Some m) k (Some ts) f e = record { leaves = refl; fits = f.stood }

  abbrev StepOn : Call → List Call → List Call → Type 0
  StepOn c done more = Step words mark c (latest_mesh done) (finishes done) (tasks_since done) (latest_mesh more) (finishes more) (tasks_since more)

  abbrev Fits : List Call → Type 0
  Fits done = Fit (latest_mesh done) (finishes done) (tasks_since done)

  step : (done : List Call) (c : Call) → Fits done → refusal (told_bench words mark done) c ≡ fine → StepOn c done (c ∷ done)
  unfolding Open
  step done (load cs fs ms ss) f e = load_step cs fs ms ss (latest_mesh done) (finishes done) (tasks_since done) e
  step done (load_text bytes room) f e = text_step bytes room (latest_mesh done) (finishes done) (tasks_since done) e
  step done begin f e = begin_step (latest_mesh done) (finishes done) (tasks_since done) f e
  step done (quad q) f e = quad_step q (latest_mesh done) (finishes done) (tasks_since done) f e
  step done (point v) f e = point_step v (latest_mesh done) (finishes done) (tasks_since done) f e
  step done (finish slip) f e = finish_step slip (latest_mesh done) (finishes done) (tasks_since done) f e
  step done (withdraw slip) f e = withdraw_step slip (latest_mesh done) (finishes done) (tasks_since done) f e

  -- a call, carried out or refused
  one : (done : List Call) (c : Call) (o : Verdict) → refusal (told_bench words mark done) c ≡ o → Fits done →
      (either o (carry (told_bench words mark done) c) (told_bench words mark done) ≡ told_bench words mark (kept_if o c done)) × Fits (kept_if o c done)
  one done c fine e f = let s = step done c f e in (s.leaves, s.fits)
  one done c (declined n p) e f = (refl, f)

  fits_all : (calls : List Call) → Fits (carried_out words mark calls)
  fits_all [] = tt
  fits_all (c ∷ before) = let done = carried_out words mark before in (one done c (refusal (told_bench words mark done) c) refl (fits_all before)).1

  tells_next : (calls : List Call) (c : Call) → next (told_bench words mark (carried_out words mark calls)) c ≡ told_bench words mark (carried_out words mark (c ∷ calls))
  tells_next calls c = let done = carried_out words mark calls in (one done c (refusal (told_bench words mark done) c) refl (fits_all calls)).0

  tells_run : (calls : List Call) → run words mark calls ≡ told_bench words mark (carried_out words mark calls)
  tells_run [] = refl
  tells_run (c ∷ before) = ap (λ s. next s c) (tells_run before) ∙ tells_next before c

  -- The promise from that.
  leaves_all : (s : State) (c : Call) (n p : ℕ) → refusal s c ≡ declined n p → next s c ≡ s
  leaves_all s c n p e = ap (λ o. either o (carry s c) s) e

  is_lawful : (l : Option Mesh) (k : ℕ) (o : Option (List Task)) → Fit l k o → (r : Mesh) → refined_times k l ≡ Some r → Lawful r
  is_lawful None k None f r e = some≢none _ (sym e)
  is_lawful None k (Some ts) f r e = absurd f
  is_lawful (Some m) k None f r e = rw (same _ _ e) at (lawful_at m k f)
  is_lawful (Some m) k (Some ts) f r e = rw (same _ _ e) at (lawful_at m k f.stood)

  is_kept : (l : Option Mesh) (k : ℕ) (o : Option (List Task)) → Fit l k o → (m : Mesh) → l ≡ Some m → Keeps m k
  is_kept None k None f m e = some≢none _ (sym e)
  is_kept None k (Some ts) f m e = absurd f
  is_kept (Some n) k None f m e = rw (same _ _ e) at (keeps n f.lawful k f.few)
  is_kept (Some n) k (Some ts) f m e = rw (same _ _ e) at (keeps n f.stood.lawful k f.stood.few)

  no_work : (l : Option Mesh) (o : Option (List Task)) → o ≡ None → work_on l o ≡ None
  no_work None o e = refl
  no_work (Some r) o e = ap (work_on (Some r)) e

  is_worked : (l : Option Mesh) (k : ℕ) (o : Option (List Task)) → Fit l k o → (ts : List Task) → o ≡ Some ts →
      (r : Mesh) × (w : Work) × (refined_times k l ≡ Some r) × (work_on (refined_times k l) o ≡ Some w) × Worked r ts w
  is_worked None k None f ts e = some≢none _ (sym e)
  is_worked None k (Some us) f ts e = absurd f
  is_worked (Some m) k None f ts e = some≢none _ (sym e)
  is_worked (Some m) k (Some us) f ts e =
      let r = level m k in
      let w : Work = record { tables = runs r us (blank r); ran = ran_words r us } in
      let d : Worked r us w = record { tables_are = refl; ran_are = ran_tells r us f.are_tasks } in
      (r, w, refl, refl, subst (λ x. Worked r x w) (same _ _ e) d)

  promise_told : (done : List Call) → Fits done → Promise words mark done (told_bench words mark done)
  promise_told done f = record {
    none_before_load = λ e. ap (refined_times (finishes done)) e;
    standing_is = λ m e. ap (refined_times (finishes done)) e;
    standing_lawful = is_lawful (latest_mesh done) (finishes done) (tasks_since done) f;
    standing_whole = λ r e. whole r (is_lawful (latest_mesh done) (finishes done) (tasks_since done) f r e);
    loaded_kept = is_kept (latest_mesh done) (finishes done) (tasks_since done) f;
    none_in_work = no_work (refined_times (finishes done) (latest_mesh done)) (tasks_since done);
    work_is = is_worked (latest_mesh done) (finishes done) (tasks_since done) f;
    refused_leaves = leaves_all (told_bench words mark done);
    all_told = refl;
  }

  promise : (calls : List Call) (bench : State) → bench ≡ told_bench words mark (carried_out words mark calls) → Promise words mark (carried_out words mark calls) bench
  promise calls bench e = rw e (promise_told (carried_out words mark calls) (fits_all calls))

pub every_chain_keeps_the_mesh : EveryChainKeepsTheMesh
every_chain_keeps_the_mesh words mark calls = promise words mark calls (run words mark calls) (tells_run words mark calls)

-- What the contracts of code need.
goes_on : (entry exit : State) (c : Call) → exit ≡ next entry c → GoesOn entry c exit
unfolding GoesOn
goes_on entry exit c e words mark calls p =
    promise words mark (c ∷ calls) exit (e ∙ ap (λ s. next s c) p.all_told ∙ tells_next words mark calls c)

pub is_made : (words mark : ℕ) (bench : State) → bench ≡ made words mark → Made words mark bench
is_made words mark bench e = record { is = e; holds = promise words mark [] bench e }

pub called : (entry exit : State) (c : Call) (answer : Verdict) → answer ≡ refusal entry c → exit ≡ next entry c → Called entry c exit answer
called entry exit c answer a e = record { answers = a; leaves = e; goes_on = goes_on entry exit c e }

-- a call that is carried out, and one that is refused
pub carried : (entry exit : State) (c : Call) → refusal entry c ≡ fine → exit ≡ carry entry c → Called entry c exit fine
carried entry exit c n e = called entry exit c fine (sym n) (e ∙ sym (ap (λ o. either o (carry entry c) entry) n))

pub declines : (entry : State) (c : Call) (n p : ℕ) → refusal entry c ≡ declined n p → Called entry c entry (declined n p)
declines entry c n p e = called entry entry c (declined n p) (sym e) (sym (ap (λ o. either o (carry entry c) entry) e))

-- several calls: none, and one more at the end
pub through_none : (s : State) → GoesOnThrough s [] s
unfolding GoesOnThrough
through_none s words mark before p = p

on_top_push : (cs before : List Call) (c : Call) → on_top (cs ++ c ∷ []) before ≡ c ∷ on_top cs before
on_top_push [] before c = refl
on_top_push (b ∷ cs) before c = on_top_push cs (b ∷ before) c

pub through_push : (s t u : State) (cs : List Call) (c : Call) → GoesOnThrough s cs t → GoesOn t c u → GoesOnThrough s (cs ++ c ∷ []) u
unfolding GoesOnThrough GoesOn
through_push s t u cs c some one words mark before p =
    rw (on_top_push cs before c) (one words mark (on_top cs before) (some words mark before p))

pub through_run : (s : State) (cs : List Call) → GoesOnThrough s cs (run_on s cs)
unfolding GoesOnThrough GoesOn
through_run s [] words mark before p = p
through_run s (c ∷ cs) words mark before p = through_run (next s c) cs words mark (c ∷ before) (goes_on s (next s c) c refl words mark before p)

pub through_made : (words mark : ℕ) (bench exit : State) (cs : List Call) → Made words mark bench → GoesOnThrough bench cs exit → AfterCalls words mark cs exit
unfolding GoesOnThrough
through_made words mark bench exit cs h through = through words mark [] h.holds

pub call_by_call : CallByCall
call_by_call = record {
  when_made = λ words mark. is_made words mark (made words mark) refl;
  each_call = λ s c. called s (next s c) c (refusal s c) refl refl;
  any_calls = through_run;
  from_the_making = λ words mark cs. through_made words mark (made words mark) _ cs (is_made words mark (made words mark) refl) (through_run (made words mark) cs);
}

pub texts_load_as_tables : TextsLoadAsTables
texts_load_as_tables s bytes room = record {
  read_answers = λ m e. ap (text_refusal s) e;
  read_leaves = λ m e. ap (λ r. either (text_refusal s r) (holding s (read_mesh r) None) s) e;
  unread_answers = λ f e. ap (text_refusal s) e;
  unread_leaves = λ f e. ap (λ r. either (text_refusal s r) (holding s (read_mesh r) None) s) e;
}
