-- Tasks in any order, with repeats, make the same level.
use Rattle.std.proofs.Common.{◌≡◌, ℕ, ◌+◌, ◌*◌, ◌<◌, List, [], ◌∷◌, ◌++◌, map, length, get_or, replicate, sym, refl, ap, ◌∙◌, inl, inr, zero-add, arith}
use Rattle.std.specs.List.{range_with_len, ContainsAt as Has, AllByRecursion}
use Rattle.std.proofs.lemmas.List.{length-replicate, get_or-replicate, ext_get_or}
use Rattle.std.proofs.ByRecursion.{All-weaker, all-has, All-append, All-push, All-from_get_or, has_append_left, has_append_right}
use Rattle.std.proofs.lemmas.List.FromFn.{length-map-range_with_len, get_or-map-range_with_len}
use Rattle.mesh.specs.Mesh.{Mesh, Counted, Lawful}
use Rattle.refinement.specs.Tasks.{Task, quad_task, point_task, TaskOf, Names, number, corner_writes, friend_writes, mark_writes, start_writes, blank, run, runs, tasks, refine, Hold, Empty, Refined}
use Rattle.refinement.specs.Laws.{OwnedOnce, SlotsOwnedOnce, WorkBegins, WorkGoesOn, AnyOrder, TasksStand, TasksWait, RunAgain, RefinedIs}
use Rattle.refinement.proofs.Puts.{Agree, puts, length_puts, puts_make, puts_leave, put_again, names_owner, hold, empty}
use Rattle.refinement.proofs.Words.{corner_word, corner_owner, corners_agree, corner_named, side_owner, friend_word, friends_agree, friend_named, mark_word, marks_agree, mark_named, start_word, start_owner, starts_agree, start_named}

-- a table of the level after some tasks
pub runs_quads : (m : Mesh) (ts : List Task) (w : Mesh) → (runs m ts w).quads ≡ w.quads
unfolding runs run
runs_quads m [] w = refl
runs_quads m (t ∷ ts) w = runs_quads m ts (run m t w)

pub runs_points : (m : Mesh) (ts : List Task) (w : Mesh) → (runs m ts w).points ≡ w.points
unfolding runs run
runs_points m [] w = refl
runs_points m (t ∷ ts) w = runs_points m ts (run m t w)

runs_corners : (m : Mesh) (ts : List Task) (w : Mesh) → (runs m ts w).corners ≡ puts (corner_writes m) ts w.corners
unfolding runs run puts
runs_corners m [] w = refl
runs_corners m (t ∷ ts) w = runs_corners m ts (run m t w)

runs_friends : (m : Mesh) (ts : List Task) (w : Mesh) → (runs m ts w).friends ≡ puts (friend_writes m) ts w.friends
unfolding runs run puts
runs_friends m [] w = refl
runs_friends m (t ∷ ts) w = runs_friends m ts (run m t w)

runs_marks : (m : Mesh) (ts : List Task) (w : Mesh) → (runs m ts w).marks ≡ puts (mark_writes m) ts w.marks
unfolding runs run puts
runs_marks m [] w = refl
runs_marks m (t ∷ ts) w = runs_marks m ts (run m t w)

runs_starts : (m : Mesh) (ts : List Task) (w : Mesh) → (runs m ts w).starts ≡ puts (start_writes m) ts w.starts
unfolding runs run puts
runs_starts m [] w = refl
runs_starts m (t ∷ ts) w = runs_starts m ts (run m t w)

runs_push : (m : Mesh) (ts : List Task) (t : Task) (w : Mesh) → runs m (ts ++ t ∷ []) w ≡ run m t (runs m ts w)
unfolding runs
runs_push m [] t w = refl
runs_push m (u ∷ ts) t w = runs_push m ts t (run m u w)

pub work_begins : WorkBegins
unfolding runs
work_begins m = record { are_tasks = tt; work_is = refl }

pub work_goes_on : WorkGoesOn
work_goes_on m w ts t h k = record {
  are_tasks = All-push (TaskOf m) ts t h.are_tasks k;
  work_is = ap (run m t) h.work_is ∙ sym (runs_push m ts t (blank m));
}

-- the tasks by number are all the tasks
has_counted : {X : Type 0} (f : ℕ → X) (n i : ℕ) → i < n → Has (map f (range_with_len 0 n)) (f i)
has_counted f n i l = (i, rw length-map-range_with_len l, λ d. get_or-map-range_with_len f 0 n i i d l (zero-add i))

all_counted : {X : Type 0} (P : X → Type 0) (f : ℕ → X) (n : ℕ) → ((i : ℕ) → i < n → P (f i)) → AllByRecursion P (map f (range_with_len 0 n))
all_counted P f n h =
    All-from_get_or P (map f (range_with_len 0 n)) (f 0)
    (λ i l. let k : i < n = rw length-map-range_with_len at l in rw (get_or-map-range_with_len f 0 n i i (f 0) k (zero-add i)) (h i k))

pub tasks_are : (m : Mesh) → AllByRecursion (TaskOf m) (tasks m)
unfolding tasks
tasks_are m =
    All-append (TaskOf m) (map quad_task (range_with_len 0 m.quads)) (map point_task (range_with_len 0 m.points))
    (all_counted (TaskOf m) quad_task m.quads (λ i l. l))
    (all_counted (TaskOf m) point_task m.points (λ i l. l))

pub tasks_all : (m : Mesh) (t : Task) → TaskOf m t → Has (tasks m) t
unfolding tasks
tasks_all m (quad_task q) h = has_append_left (map quad_task (range_with_len 0 m.quads)) (map point_task (range_with_len 0 m.points)) (quad_task q) (has_counted quad_task m.quads q h)
tasks_all m (point_task v) h = has_append_right (map quad_task (range_with_len 0 m.quads)) (map point_task (range_with_len 0 m.points)) (point_task v) (has_counted point_task m.points v h)

number_once : (m : Mesh) (t u : Task) → TaskOf m t → TaskOf m u → number m t ≡ number m u → t ≡ u
number_once m (quad_task q) (quad_task p) h k e = ap quad_task e
number_once m (quad_task q) (point_task v) h k e = absurd (omega arith)
number_once m (point_task v) (quad_task q) h k e = absurd (omega arith)
number_once m (point_task u) (point_task v) h k e = let z : u ≡ v = omega arith in ap point_task z

-- one table
module _ (m : Mesh) (word owner : ℕ → ℕ) (n : ℕ) (f : Task → List (ℕ × ℕ)) (agree : (t : Task) → TaskOf m t → Agree word owner n (number m t) (f t)) where
  table_made : (ts : List Task) → AllByRecursion (TaskOf m) ts → (t : Task) → Has ts t → (s : ℕ) → s < n → Names s (f t) → get_or (puts f ts (replicate n 0)) s 0 ≡ word s
  table_made ts a t h s l k =
      puts_make word owner n Task (number m) f ts (replicate n 0) s t
      (All-weaker (TaskOf m) (λ t. Agree word owner n (number m t) (f t)) agree ts a) (rw length-replicate l) h k

  table_stands : (ts : List Task) → AllByRecursion (TaskOf m) ts → (t : Task) → Has ts t → Hold (puts f ts (replicate n 0)) (f t)
  table_stands ts a t h =
      hold word owner n (number m t) (f t) (puts f ts (replicate n 0)) (agree t (all-has (TaskOf m) ts t a h)) (λ s l k. table_made ts a t h s l k)

  table_waits : (ts : List Task) → AllByRecursion (TaskOf m) ts → (t : Task) → TaskOf m t → (Has ts t → ⊥) → Empty (puts f ts (replicate n 0)) (f t)
  table_waits ts a t k h =
      empty word owner n (number m t) (f t) (puts f ts (replicate n 0)) (agree t k)
      (λ s l i. puts_leave f ts (replicate n 0) s (other s i) ∙ get_or-replicate n s 0 0 l)
    where
      other : (s : ℕ) → Names s (f t) → (u : Task) → Has ts u → Names s (f u) → ⊥
      other s i u b j =
          let v = all-has (TaskOf m) ts u a b in
          let e = names_owner word owner n (number m t) (f t) (agree t k) s i in
          let d = names_owner word owner n (number m u) (f u) (agree u v) s j in
          h (rw (number_once m u t v k (omega arith)) at b)

  module _ (named : (s : ℕ) → s < n → (t : Task) × (TaskOf m t) × Names s (f t)) where
    table_owned : (s : ℕ) → s < n → OwnedOnce m f s
    table_owned s l =
        let r = named s l in
        record {
          owner = r.0;
          is_task = r.1;
          writes_it = r.2;
          only = λ t h k.
              let a = names_owner word owner n (number m r.0) (f r.0) (agree r.0 r.1) s r.2 in
              let b = names_owner word owner n (number m t) (f t) (agree t h) s k in
              number_once m t r.0 h r.1 (omega arith);
        }

-- two tables in which the same writes hold
hold_same : (a b : List ℕ) (ws : List (ℕ × ℕ)) → Hold a ws → Hold b ws → (s : ℕ) → Names s ws → get_or a s 0 ≡ get_or b s 0
hold_same a b [] h k s n = absurd n
hold_same a b (w ∷ ws) h k s n = elim n [
  | inl e ↦ rw e (h.0 ∙ sym k.0)
  | inr e ↦ hold_same a b ws h.1 k.1 s e
]

table_once : (m : Mesh) (n : ℕ) (f : Task → List (ℕ × ℕ)) → ((s : ℕ) → s < n → (t : Task) × (TaskOf m t) × Names s (f t)) →
    (a b : List ℕ) → length a ≡ n → length b ≡ n → ((t : Task) → TaskOf m t → Hold a (f t)) → ((t : Task) → TaskOf m t → Hold b (f t)) → a ≡ b
table_once m n f named a b la lb ha hb =
    ext_get_or 0 a b (la ∙ sym lb)
    (λ s l. let r = named s (omega arith) in hold_same a b (f r.0) (ha r.0 r.1) (hb r.0 r.1) s r.2)

same_mesh : (a b : Mesh) → a.quads ≡ b.quads → a.points ≡ b.points → a.corners ≡ b.corners → a.friends ≡ b.friends → a.marks ≡ b.marks → a.starts ≡ b.starts → a ≡ b
same_mesh a b f v c g k s = λ i. record { quads = f i; points = v i; corners = c i; friends = g i; marks = k i; starts = s i }

pub slots_owned_once : SlotsOwnedOnce
slots_owned_once m w = record {
  of_corners = table_owned m (corner_word m w) (corner_owner m w) (16 * m.quads) (corner_writes m) (corners_agree m w) (corner_named m w);
  of_friends = table_owned m (friend_word m w) (side_owner m w) (8 * m.quads) (friend_writes m) (friends_agree m w) (friend_named m w);
  of_marks = table_owned m (mark_word m w) (side_owner m w) (8 * m.quads) (mark_writes m) (marks_agree m w) (mark_named m w);
  of_starts = table_owned m (start_word m w) (start_owner m w) (m.points + 3 * m.quads) (start_writes m) (starts_agree m w) (start_named m w);
}

pub tasks_stand : TasksStand
unfolding blank
tasks_stand m w ts a t h = record {
  corners_stand = rw runs_corners (table_stands m (corner_word m w) (corner_owner m w) (16 * m.quads) (corner_writes m) (corners_agree m w) ts a t h);
  friends_stand = rw runs_friends (table_stands m (friend_word m w) (side_owner m w) (8 * m.quads) (friend_writes m) (friends_agree m w) ts a t h);
  marks_stand = rw runs_marks (table_stands m (mark_word m w) (side_owner m w) (8 * m.quads) (mark_writes m) (marks_agree m w) ts a t h);
  starts_stand = rw runs_starts (table_stands m (start_word m w) (start_owner m w) (m.points + 3 * m.quads) (start_writes m) (starts_agree m w) ts a t h);
}

pub tasks_wait : TasksWait
unfolding blank
tasks_wait m w ts a t k h = record {
  corners_wait = rw runs_corners (table_waits m (corner_word m w) (corner_owner m w) (16 * m.quads) (corner_writes m) (corners_agree m w) ts a t k h);
  friends_wait = rw runs_friends (table_waits m (friend_word m w) (side_owner m w) (8 * m.quads) (friend_writes m) (friends_agree m w) ts a t k h);
  marks_wait = rw runs_marks (table_waits m (mark_word m w) (side_owner m w) (8 * m.quads) (mark_writes m) (marks_agree m w) ts a t k h);
  starts_wait = rw runs_starts (table_waits m (start_word m w) (start_owner m w) (m.points + 3 * m.quads) (start_writes m) (starts_agree m w) ts a t k h);
}

pub run_again : RunAgain
unfolding run
run_again m w t h =
    same_mesh _ _ refl refl (put_again (corner_writes m t) w.corners h.corners_stand) (put_again (friend_writes m t) w.friends h.friends_stand)
    (put_again (mark_writes m t) w.marks h.marks_stand) (put_again (start_writes m t) w.starts h.starts_stand)

-- the tables keep their lengths
pub counted_runs : (m : Mesh) (ts : List Task) → Counted (runs m ts (blank m))
unfolding blank
counted_runs m ts =
    let q = runs_quads m ts (blank m) in
    record {
      corner_count = ap length (runs_corners m ts (blank m)) ∙ length_puts (corner_writes m) ts _ ∙ length-replicate _ _ ∙ omega arith;
      friend_count = ap length (runs_friends m ts (blank m)) ∙ length_puts (friend_writes m) ts _ ∙ length-replicate _ _ ∙ omega arith;
      mark_count = ap length (runs_marks m ts (blank m)) ∙ length_puts (mark_writes m) ts _ ∙ length-replicate _ _ ∙ omega arith;
      start_count = ap length (runs_starts m ts (blank m)) ∙ length_puts (start_writes m) ts _ ∙ length-replicate _ _ ∙ sym (runs_points m ts (blank m));
    }

-- every task stands once every task has run
pub refined_by : (m : Mesh) → Lawful m → (ts : List Task) → AllByRecursion (TaskOf m) ts → ((t : Task) → TaskOf m t → Has ts t) → Refined m (runs m ts (blank m))
unfolding blank
refined_by m w ts a h = record {
  quads_are = runs_quads m ts (blank m);
  points_are = runs_points m ts (blank m);
  counted = counted_runs m ts;
  all_stand = λ t k. tasks_stand m w ts a t (h t k);
}

refined_once : (m : Mesh) → Lawful m → (a b : Mesh) → Refined m a → Refined m b → a ≡ b
refined_once m w a b ra rb =
    same_mesh a b (ra.quads_are ∙ sym rb.quads_are) (ra.points_are ∙ sym rb.points_are)
    (table_once m (16 * m.quads) (corner_writes m) (corner_named m w) a.corners b.corners (omega arith) (omega arith)
    (λ t h. (ra.all_stand t h).corners_stand) (λ t h. (rb.all_stand t h).corners_stand))
    (table_once m (8 * m.quads) (friend_writes m) (friend_named m w) a.friends b.friends (omega arith) (omega arith)
    (λ t h. (ra.all_stand t h).friends_stand) (λ t h. (rb.all_stand t h).friends_stand))
    (table_once m (8 * m.quads) (mark_writes m) (mark_named m w) a.marks b.marks (omega arith) (omega arith)
    (λ t h. (ra.all_stand t h).marks_stand) (λ t h. (rb.all_stand t h).marks_stand))
    (table_once m (m.points + 3 * m.quads) (start_writes m) (start_named m w) a.starts b.starts (omega arith) (omega arith)
    (λ t h. (ra.all_stand t h).starts_stand) (λ t h. (rb.all_stand t h).starts_stand))

pub refined : (m : Mesh) → Lawful m → Refined m (refine m)
unfolding refine
refined m w = refined_by m w (tasks m) (tasks_are m) (tasks_all m)

pub refined_is : RefinedIs
refined_is m w r d = refined_once m w r (refine m) d (refined m w)

pub any_order : AnyOrder
any_order m w ts a h = refined_is m w (runs m ts (blank m)) (refined_by m w ts a h)
