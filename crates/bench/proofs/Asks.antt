-- The tables of a level that a bench lends, by its words.
use Rattle.std.proofs.Common.{◌≡◌, ℕ, ◌+◌, ◌*◌, ◌/◌, ◌<◌, ◌≤◌, List, length, get_or, Some, sym, refl, ap, ◌∙◌, subst, inl, inr, arith}
use mathlib.Core.Logic.{∥∥₁_elim}
use mathlib.Core.HLevel.{⊥_prop}
use Rattle.std.proofs.lemmas.Bool.{cases_lt, cases_eq}
use Rattle.std.specs.List.{ContainsAt as Has, AllByRecursion}
use Rattle.std.proofs.ByRecursion.{all-has}
use Rattle.mesh.specs.Causes.{mesh_of}
use Rattle.mesh.specs.Marks.{MarkWord}
use Rattle.mesh.specs.Mesh.{Mesh, Counted, Lawful, mark, most_quads}
use Rattle.mesh.specs.Refusals.{fine}
use Rattle.refinement.specs.Tasks.{Task, TaskOf, mark_writes, blank, runs, refine}
use Rattle.refinement.proofs.Keeps.{refinement_keeps_lawful}
use Rattle.refinement.proofs.Made.{any_list_of_tasks}
use Rattle.refinement.proofs.OneProof.{lawful_shown}
use Rattle.refinement.proofs.Order.{refined}
use Rattle.tables.specs.Lent.{mesh}
use Rattle.tables.specs.declared.lent.Tables.{Tables}
use Rattle.chain.specs.Calls.{Work, State}
use Rattle.layout.specs.Layout.{block, level_at, standing_in, work_in, Written}
use Rattle.layout.proofs.Blocks.{length_block}
use Rattle.bench.specs.State.{bench_at, AtWork}
use Rattle.bench.specs.declared.stage.Size.{Size}
use Rattle.bench.proofs.Keeps.{Kept}
use Rattle.bench.specs.declared.stage.Stage.{Stage}
use Rattle.bench.specs.declared.stage.Stage.TheVariants.{Standing, Working}
use Rattle.bench.specs.Questions.{seen, unseen, LawfulIf, Lent}
use Rattle.bench.specs.declared.level.Level.{Level}
use Rattle.bench.specs.declared.level.Level.TheVariants.{Standing as LevelStanding, InWork}

-- the tables of a level, by their lengths
pub lent_level : (ws : List ℕ) (a F V n1 n2 n3 n4 : ℕ) → a + (8 * F + V) ≤ length ws → n1 ≡ 4 * F → n2 ≡ 2 * F → n3 ≡ 2 * F → n4 ≡ V →
    mesh_of (block ws a n1) (block ws (a + 4 * F) n2) (block ws (a + 6 * F) n3) (block ws (a + 8 * F) n4) ≡ level_at ws a F V
unfolding mesh_of
lent_level ws a F V n1 n2 n3 n4 h e1 e2 e3 e4 =
    let c = length_block ws a (4 * F) (omega arith) in
    let s = length_block ws (a + 8 * F) V (omega arith) in
    let q : length (block ws a (4 * F)) / 4 ≡ F = omega arith in
    rw (e1, e2, e3, e4) (λ i. record { quads = q i; points = s i; corners = block ws a (4 * F); friends = block ws (a + 4 * F) (2 * F); marks = block ws (a + 6 * F) (2 * F); starts = block ws (a + 8 * F) V })

counted_level : (ws : List ℕ) (a F V : ℕ) → a + (8 * F + V) ≤ length ws → Counted (level_at ws a F V)
counted_level ws a F V h = record {
  corner_count = length_block ws a (4 * F) (omega arith);
  friend_count = length_block ws (a + 4 * F) (2 * F) (omega arith);
  mark_count = length_block ws (a + 6 * F) (2 * F) (omega arith);
  start_count = length_block ws (a + 8 * F) V (omega arith);
}

-- mark words, from what is not denied
not_not_mark : (x : ℕ) → ((MarkWord x → ⊥) → ⊥) → MarkWord x
not_not_mark x h = elim (cases_lt 4096 x) [
  | inl a ↦ elim (cases_eq x 65535) [ inl e ↦ inr e | inr e ↦ absurd (h (λ m. elim m [ inl k ↦ omega arith | inr k ↦ e k ])) ]
  | inr a ↦ inl a
]

lawful_mark : (m : Mesh) → ∥ Lawful m ∥₁ → (o : ℕ) → o < 2 * m.quads → MarkWord (mark m o)
lawful_mark m h o k = not_not_mark (mark m o) (λ n. ∥∥₁_elim h ⊥_prop (λ w. n (w.sound.marks_are_words o k)))

-- a mark of a level in work is that of the refined level, or 0
work_mark : (m : Mesh) → Lawful m → 4 * m.quads ≤ most_quads → (ts : List Task) → AllByRecursion (TaskOf m) ts → (o : ℕ) → o < 8 * m.quads →
    (MarkWord (mark (runs m ts (blank m)) o) → ⊥) → ⊥
work_mark m w few ts a o h n =
    let made = (any_list_of_tasks m w ts a).of_marks o h in
    let r = refined m w in
    let law = refinement_keeps_lawful m w few in
    let q = r.quads_are in
    let stands : mark (refine m) o ≡ made.word =
    all-has (λ (p : ℕ × ℕ). get_or (refine m).marks p.0 0 ≡ p.1) (mark_writes m made.owner) (o, made.word)
    (r.all_stand made.owner made.is_task).marks_stand made.writes_it in
    let word : MarkWord made.word = subst MarkWord stands (law.sound.marks_are_words o (omega arith)) in
    let not_ran : (Has ts made.owner → ⊥) = λ k. n (subst MarkWord (sym (made.if_run k)) word) in
    n (subst MarkWord (sym (made.if_not not_ran)) (inl (omega arith)))

written_mark : (m : Mesh) (w : Work) → ∥ Lawful m ∥₁ → ∥ Written m w ∥₁ → 4 * m.quads ≤ most_quads → (o : ℕ) → o < 8 * m.quads → MarkWord (mark w.tables o)
written_mark m w h g few o k =
    not_not_mark (mark w.tables o) (λ n.
    ∥∥₁_elim h ⊥_prop (λ law. ∥∥₁_elim g ⊥_prop (λ x.
    work_mark m law few x.tasks_run x.are_tasks o k (λ y. n (subst (λ z. MarkWord (mark z o)) (sym x.tables_are) y)))))

-- the tables that a bench lends
module _ (b : State) (ws : List ℕ) (t : Tables) where
  lent : (l : Level) (m : Mesh) → unseen b l ≡ fine → seen b l ≡ Some m → mesh t ≡ m → Counted m → m.quads ≤ most_quads → m.points ≤ 2 * m.quads →
      ((o : ℕ) → o < 2 * m.quads → MarkWord (mark m o)) → LawfulIf l m → Lent b l t
  lent l m u k e c q p w law = record {
    there = u;
    is = k ∙ ap Some (sym e);
    shape = subst Counted (sym e) c;
    quads_few = subst (λ x. x.quads ≤ most_quads) (sym e) q;
    points_few = subst (λ (x : Mesh). x.points ≤ 2 * x.quads) (sym e) p;
    marks_are_words = subst (λ (x : Mesh). (o : ℕ) → o < 2 * x.quads → MarkWord (mark x o)) (sym e) w;
    lawful = subst (LawfulIf l) (sym e) law;
  }

  lent_below : (s : Size) → unseen b LevelStanding ≡ fine → seen b LevelStanding ≡ Some (standing_in ws s.quads s.points) → 8 * s.quads + s.points ≤ length ws →
      ∥ Lawful (standing_in ws s.quads s.points) ∥₁ → mesh t ≡ level_at ws 0 s.quads s.points → Lent b LevelStanding t
  lent_below s u k room law e =
      lent LevelStanding (standing_in ws s.quads s.points) u k e (counted_level ws 0 s.quads s.points (omega arith)) s.quads_few s.points_few (lawful_mark _ law) (lawful_shown _ law)

  pub lent_work : (r s : Size) (mark n a : ℕ) → AtWork b mark s n ws → a ≡ 8 * s.quads + s.points → r.quads ≡ 4 * s.quads → r.points ≡ s.points + 3 * s.quads → mesh t ≡ level_at ws a r.quads r.points → Lent b InWork t
  lent_work r s mark n a w f q p e =
      let room = w.ready.room in
      let few = w.few in
      let g : mesh t ≡ level_at ws (8 * s.quads + s.points) (4 * s.quads) (s.points + 3 * s.quads) = cc in
      lent InWork (level_at ws (8 * s.quads + s.points) (4 * s.quads) (s.points + 3 * s.quads)) (ap (λ x. unseen x InWork) w.is) (ap (λ x. seen x InWork) w.is)
      g (counted_level ws (8 * s.quads + s.points) (4 * s.quads) (s.points + 3 * s.quads) (omega arith)) (omega arith) (let k = s.points_few in omega arith)
      (λ o l. written_mark (standing_in ws s.quads s.points) (work_in ws s.quads s.points) w.lawful w.written (omega arith) o (omega arith)) tt

-- and by its stage
module _ (mark : ℕ) (ws : List ℕ) (t : Tables) (st : Stage) (s : Size) (kept : Kept st mark ws) (is : mesh t ≡ level_at ws 0 s.quads s.points) where
  pub lent_standing : st ≡ Standing s → Lent (bench_at st mark ws) LevelStanding t
  lent_standing e =
      let k = subst (λ x. Kept x mark ws) e kept in
      subst (λ x. Lent (bench_at x mark ws) LevelStanding t) (sym e) (lent_below (bench_at (Standing s) mark ws) ws t s refl refl k.room k.lawful is)

  pub lent_while_working : (n : ℕ) → st ≡ Working s n → Lent (bench_at st mark ws) LevelStanding t
  lent_while_working n e =
      let k = subst (λ x. Kept x mark ws) e kept in
      let room = k.room in
      subst (λ x. Lent (bench_at x mark ws) LevelStanding t) (sym e) (lent_below (bench_at (Working s n) mark ws) ws t s refl refl (omega arith) k.lawful is)
