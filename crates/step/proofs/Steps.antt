-- What the step answers, call by call.
use Rattle.std.proofs.Common.{◌≡◌, ℕ, ◌*◌, ◌/◌, ◌<◌, ◌≤◌, Bool, true, false, not, ltb, List, length, Some, None, Ok, Err, MatchBool, Option, Result, sym, refl, ap, ◌∙◌, subst, inl, inr, arith}
use Rattle.std.specs.Result.{result_unwrap_or}
use Rattle.std.proofs.lemmas.Bool.{cond-true, cond-false, lt-ltb, le-ltb, cases_lt}
use Rattle.mesh.specs.Causes.{judge, mesh_of}
use Rattle.mesh.specs.Mesh.{Mesh, most_quads}
use Rattle.mesh.specs.Refusals.{Verdict, fine, declined, number_of, place_of}
use Rattle.mesh.specs.declared.fault.Fault.{Fault}
use Rattle.lines.specs.Laws.{TextOf, HasRoom}
use Rattle.lines.specs.Reading.{Reading, accepted, refused, reading}
use Rattle.lines.specs.Text.{mesh_text}
use Rattle.lines.proofs.Exactly.{reading_is_exact}
use Rattle.refinement.specs.Tasks.{refine}
use Rattle.refinement.proofs.Causes.{judges}
use Rattle.chain.specs.Calls.{State, made, load_text, begin, refusal, text_refusal, load_refusal, and_next, cause, missing, tables_of, holding, next, carry, either, words_to_load, words_to_begin, read_mesh}
use Rattle.chain.specs.Clauses.{Called}
use Rattle.refining.specs.Once.{RefinedOnce}
use Rattle.text.specs.Put.{Put}
use Rattle.text.specs.Writes.{frame_text, text_of, write_refusal, Writes}
use Rattle.step.specs.Step.{Answers, StepRefines, lent_room, longest_input, judged_text, read_text, step_text}

-- ---- the answer in the output
when_so : (P Q : Type 0) (b : Bool) → b ≡ true → P → MatchBool b P Q
when_so P Q b e p = subst (λ (x : Bool). MatchBool x P Q) (sym e) p

when_not : (P Q : Type 0) (b : Bool) → b ≡ false → Q → MatchBool b P Q
when_not P Q b e q = subst (λ (x : Bool). MatchBool x P Q) (sym e) q

pub answer_put : (e t : List ℕ) (n : ℕ) (o : List ℕ) → Put e 0 t n o → Answers e t n o
answer_put e t n o p = let i = p.inside in let q = p.place in when_not ((n ≡ 0) × (o ≡ e)) (Put e 0 t n o) (ltb (length e) (length t)) (le-ltb (length e) (length t) (omega arith)) p

pub answer_none : (e t o : List ℕ) → length e < length t → o ≡ e → Answers e t 0 o
answer_none e t o h k = when_so ((◌≡◌ {A = ℕ} 0 0) × (o ≡ e)) (Put e 0 t 0 o) (ltb (length e) (length t)) (lt-ltb (length e) (length t) h) (refl, k)

pub answer_same : (e t u : List ℕ) (n : ℕ) (o : List ℕ) → t ≡ u → Answers e t n o → Answers e u n o
answer_same e t u n o k a = subst (λ (x : List ℕ). Answers e x n o) k a

-- ---- an input that is too long, and one that is not
pub too_long : (s : List ℕ) → longest_input < length s → frame_text 22 0 ≡ step_text s
unfolding step_text
too_long s h = sym (cond-true (ltb longest_input (length s)) (frame_text 22 0) (read_text (reading s lent_room)) (lt-ltb longest_input (length s) h))

pub not_long : (s : List ℕ) → length s ≤ longest_input → read_text (reading s lent_room) ≡ step_text s
unfolding step_text
not_long s h = sym (cond-false (ltb longest_input (length s)) (frame_text 22 0) (read_text (reading s lent_room)) (le-ltb longest_input (length s) h))

-- ---- the load
-- a bench with the step's words, empty and with a standing level
abbrev pub empty : State
empty = made 9600 0

abbrev pub standing : Mesh → State
standing m = holding empty (Some m) None

frames : (k p n q : ℕ) → declined k p ≡ declined n q → frame_text k p ≡ frame_text n q
frames k p n q e = let a : k ≡ n = cc in let b : p ≡ q = cc in λ i. frame_text (a i) (b i)

module _ (s : List ℕ) (m : Mesh) (e : reading s lent_room ≡ accepted m) where
  told_text : TextOf m s × HasRoom m.quads m.points lent_room
  told_text = (reading_is_exact s lent_room (accepted m)).only_so e

  same : tables_of m ≡ m
  unfolding mesh_of
  same =
      let k = told_text.0.counted in
      let c = k.corner_count in
      let f : length m.corners / 4 ≡ m.quads = omega arith in
      λ i. record { quads = f i; points = k.start_count i; corners = m.corners; friends = m.friends; marks = m.marks; starts = m.starts }

  pub few_quads : m.quads ≤ 192
  few_quads = let h = told_text.1.corners_fit in omega arith

  pub few_points : m.points ≤ 384
  few_points = told_text.1.starts_fit

  enough : cause 11 0 (not (missing empty.work)) (cause 14 0 (ltb 9600 (words_to_load m.quads m.points)) fine) ≡ fine
  enough = let f = few_quads in let v = few_points in cond-false (ltb 9600 (words_to_load m.quads m.points)) (declined 14 0) fine (le-ltb 9600 (words_to_load m.quads m.points) (omega arith))

  -- it is refused as the judge finds
  load_is : refusal empty (load_text s lent_room) ≡ judge m
  load_is =
      ap (text_refusal empty) e
      ∙ ap (load_refusal empty) same
      ∙ ap (and_next (judge m)) enough
      ∙ kept (judge m)
    where
      kept : (v : Verdict) → and_next v fine ≡ v
      kept fine = refl
      kept (declined n p) = refl

  pub load_judged : (v : Verdict) → v ≡ refusal empty (load_text s lent_room) → judge m ≡ v
  load_judged v k = sym load_is ∙ sym k

  pub load_stands : fine ≡ refusal empty (load_text s lent_room) → next empty (load_text s lent_room) ≡ standing m
  load_stands k =
      ap (λ (v : Verdict). either v (carry empty (load_text s lent_room)) empty) (sym k)
      ∙ ap (λ (o : Reading). holding empty (read_mesh o) None) e
      ∙ ap (λ (x : Mesh). holding empty (Some x) None) same

  -- and then it can be refined
  pub begins : refusal (standing m) begin ≡ fine
  begins =
      let f = few_quads in
      let v = few_points in
      cond-false (ltb most_quads (4 * m.quads)) (declined 13 0) (cause 14 0 (ltb 9600 (words_to_begin m.quads m.points)) fine) (le-ltb most_quads (4 * m.quads) (omega arith))
      ∙ cond-false (ltb 9600 (words_to_begin m.quads m.points)) (declined 14 0) fine (le-ltb 9600 (words_to_begin m.quads m.points) (omega arith))

-- a load that is refused is answered by its frame
pub refused_load : (s : List ℕ) (n p : ℕ) → declined n p ≡ refusal empty (load_text s lent_room) → frame_text n p ≡ read_text (reading s lent_room)
refused_load s n p k = go (reading s lent_room) refl
  where
    go : (o : Reading) → reading s lent_room ≡ o → frame_text n p ≡ read_text o
    go (refused f) e = frames n p (number_of f) (place_of f) (k ∙ ap (text_refusal empty) e)
    go (accepted m) e = ap (λ (v : Verdict). judged_text v m) (sym (load_judged s m e (declined n p) k))

-- and one that is carried out by the text of the refined mesh
pub carried_load : (s : List ℕ) (m : Mesh) → reading s lent_room ≡ accepted m → fine ≡ refusal empty (load_text s lent_room) → mesh_text (refine m) ≡ read_text (reading s lent_room)
carried_load s m e k = ap (λ (v : Verdict). judged_text v m) (sym (load_judged s m e fine k)) ∙ ap read_text (sym e)

-- ---- the refinement, and the writing of it
not_declined : (n p : ℕ) → declined n p ≡ fine → ⊥
not_declined n p e = let z : ◌≡◌ {A = ℕ} 0 1 = cc in omega arith

-- text that is refused is longer than the buffer
longer : (m : Mesh) (z : State) (e : List ℕ) (f : Fault) → z.standing ≡ Some m → declined (number_of f) (place_of f) ≡ write_refusal z (length e) → length e < length (mesh_text m)
longer m z e f k d = elim (cases_lt (length e) (length (mesh_text m))) [
  | inl h ↦ h
  | inr h ↦
      absurd (not_declined (number_of f) (place_of f)
      (d ∙ ap (λ (x : Option Mesh). cause 12 0 (missing x) (cause 22 0 (ltb (length e) (length (text_of x))) fine)) k
      ∙ cond-false (ltb (length e) (length (mesh_text m))) (declined 22 0) fine (le-ltb (length e) (length (mesh_text m)) h)))
]

pub written : (m : Mesh) (z : State) (e o : List ℕ) (r : Result ℕ Fault) → z.standing ≡ Some m → Writes z e o r → Answers e (mesh_text m) (result_unwrap_or r 0) o
written m z e o (Ok n) k w =
    let p = w.leaves in
    let same_mesh : p.0 ≡ m = cc in
    answer_put e (mesh_text m) n o (subst (λ (x : Mesh). Put e 0 (mesh_text x) n o) same_mesh p.2)
written m z e o (Err f) k w = answer_none e (mesh_text m) o (longer m z e f k w.answers) w.leaves

pub step_refines : StepRefines
step_refines m s law t f v h =
    let room : HasRoom m.quads m.points lent_room = record { corners_fit = omega arith; friends_fit = omega arith; marks_fit = omega arith; starts_fit = v } in
    let e = (reading_is_exact s lent_room (accepted m)).always_so (t, room) in
    sym (not_long s h) ∙ ap read_text e ∙ ap (λ (x : Verdict). judged_text x m) ((judges m).all_lawful law)

-- ---- the calls one after the other
-- the load, from an empty bench
pub load_answered : (s : List ℕ) (b s1 : State) (v : Verdict) → b ≡ empty → Called b (load_text s lent_room) s1 v → v ≡ refusal empty (load_text s lent_room)
load_answered s b s1 v k c = c.answers ∙ ap (λ (x : State). refusal x (load_text s lent_room)) k

module _ (s : List ℕ) (m : Mesh) (e : reading s lent_room ≡ accepted m) (b s1 : State) (k : b ≡ empty) (c : Called b (load_text s lent_room) s1 fine) where
  pub after_load : s1 ≡ standing m
  after_load = c.leaves ∙ ap (λ (x : State). next x (load_text s lent_room)) k ∙ load_stands s m e (load_answered s b s1 fine k c)

  pub text_after : mesh_text (refine m) ≡ read_text (reading s lent_room)
  text_after = carried_load s m e (load_answered s b s1 fine k c)

  -- the refinement is not refused, and the refined mesh stands
  module _ (s2 : State) (v : Verdict) (r : RefinedOnce s1 s2 v) where
    pub refined_fine : v ≡ fine
    refined_fine = r.answers ∙ ap (λ (x : State). refusal x begin) after_load ∙ begins s m e

    pub refined_stands : s2.standing ≡ Some (refine m)
    refined_stands = ap (λ (x : State). x.standing) (r.refines m refined_fine (ap (λ (x : State). x.standing) after_load))

pub impossible : {A : Type 0} (n p : ℕ) → declined n p ≡ fine → A
impossible n p e = absurd (not_declined n p e)
