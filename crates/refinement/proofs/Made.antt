-- What any list of tasks makes, slot by slot.
use Rattle.std.proofs.Common.{◌≡◌, ℕ, suc, List, [], ◌∷◌, get_or, sym, ap, ◌∙◌, inl, inr, arith}
use Rattle.std.specs.List.{ContainsAt as Has}
use Rattle.std.proofs.ByRecursion.{all-has}
use Rattle.mesh.specs.Mesh.{Mesh}
use Rattle.refinement.specs.Laws.{OwnedOnce, SlotHolds, AnyListOfTasks}
use Rattle.refinement.specs.Tasks.{Task, TaskOf, Names, corner_writes, friend_writes, mark_writes, start_writes, blank, runs, refine, Hold, Empty}
use Rattle.refinement.proofs.Order.{counted_runs, runs_quads, runs_points, slots_owned_once, tasks_stand, tasks_wait, refined, any_order}
use Rattle.refinement.proofs.Puts.{has_cases}

-- a write of a list, by its slot
write_at : (ws : List (ℕ × ℕ)) (s : ℕ) → Names s ws → (x : ℕ) × Has ws (s, x)
write_at [] s n = absurd n
write_at (w ∷ ws) s n = elim n [
  | inl e ↦ (w.1, (0, omega arith, λ d. ap (λ y. (y, w.1)) (sym e)))
  | inr e ↦ let r = write_at ws s e in (r.0, (suc r.1.0, omega (arith, r.1.1), r.1.2))
]

write_names : (ws : List (ℕ × ℕ)) (s x : ℕ) → Has ws (s, x) → Names s ws
write_names [] s x h = absurd (omega (arith, h.1))
write_names (w ∷ ws) s x h = elim (has_cases w ws (s, x) h) [
  | inl e ↦ inl (ap (λ y. y.0) (sym e))
  | inr k ↦ inr (write_names ws s x k)
]

-- one table: its words by task in the level in work, and in the refined level, in which each stands
module _ (m : Mesh) (ts : List Task) (f : Task → List (ℕ × ℕ)) (table full : List ℕ)
    (run-stands : (t : Task) → Has ts t → Hold table (f t)) (others-wait : (t : Task) → TaskOf m t → (Has ts t → ⊥) → Empty table (f t))
    (all_stand : (t : Task) → TaskOf m t → Hold full (f t)) where
  word_there : (t : Task) → TaskOf m t → (s x : ℕ) → Has (f t) (s, x) → get_or full s 0 ≡ x
  word_there t k s x h = all-has (λ (w : ℕ × ℕ). get_or full w.0 0 ≡ w.1) (f t) (s, x) (all_stand t k) h

  pub slot_holds : (s : ℕ) → OwnedOnce m f s → SlotHolds m ts f table s
  slot_holds s o =
      let r = write_at (f o.owner) s o.writes_it in
      record {
        owner = o.owner;
        word = r.0;
        is_task = o.is_task;
        writes_it = r.1;
        only = λ t x k h. (o.only t k (write_names (f t) s x h), sym (word_there t k s x h) ∙ word_there o.owner o.is_task s r.0 r.1);
        if_run = λ h. all-has (λ (w : ℕ × ℕ). get_or table w.0 0 ≡ w.1) (f o.owner) (s, r.0) (run-stands o.owner h) r.1;
        if_not = λ h. all-has (λ (w : ℕ × ℕ). get_or table w.0 0 ≡ 0) (f o.owner) (s, r.0) (others-wait o.owner o.is_task h) r.1;
      }

pub any_list_of_tasks : AnyListOfTasks
unfolding blank
any_list_of_tasks m w ts a =
    let now = runs m ts (blank m) in
    let owned = slots_owned_once m w in
    let d = refined m w in
    record {
      quads_are = runs_quads m ts (blank m);
      points_are = runs_points m ts (blank m);
      counted = counted_runs m ts;
      of_corners = λ s h. slot_holds m ts (corner_writes m) now.corners (refine m).corners (λ t k. (tasks_stand m w ts a t k).corners_stand) (λ t k n. (tasks_wait m w ts a t k n).corners_wait) (λ t k. (d.all_stand t k).corners_stand) s (owned.of_corners s h);
      of_friends = λ s h. slot_holds m ts (friend_writes m) now.friends (refine m).friends (λ t k. (tasks_stand m w ts a t k).friends_stand) (λ t k n. (tasks_wait m w ts a t k n).friends_wait) (λ t k. (d.all_stand t k).friends_stand) s (owned.of_friends s h);
      of_marks = λ s h. slot_holds m ts (mark_writes m) now.marks (refine m).marks (λ t k. (tasks_stand m w ts a t k).marks_stand) (λ t k n. (tasks_wait m w ts a t k n).marks_wait) (λ t k. (d.all_stand t k).marks_stand) s (owned.of_marks s h);
      of_starts = λ s h. slot_holds m ts (start_writes m) now.starts (refine m).starts (λ t k. (tasks_stand m w ts a t k).starts_stand) (λ t k n. (tasks_wait m w ts a t k n).starts_wait) (λ t k. (d.all_stand t k).starts_stand) s (owned.of_starts s h);
      all_run = any_order m w ts a;
    }
