-- The whole promise, from the promise of the mesh and the laws of carried values.
use Rattle.std.proofs.Common.{◌≡◌, ℕ, zero, suc, ◌+◌, ◌-◌, ◌*◌, ◌^◌, ◌<◌, ◌≤◌, true, List, [], ◌∷◌, Some, None, sym, refl, ap, ◌∙◌, subst, inl, inr, pow-suc, arith}
use Rattle.mesh.specs.Mesh.{Mesh, Lawful}
use Rattle.mesh.specs.Refusals.{Verdict, fine, declined}
use Rattle.refinement.specs.Tasks.{blank, level, refine, tasks}
use Rattle.refinement.proofs.Order.{runs_quads}
use Rattle.chain.specs.Calls.{Call, load, load_text, begin, quad, point, finish, withdraw, State, refusal, run}
use Rattle.chain.specs.Clauses.{on_top, GoesOnThrough}
use Rattle.chain.specs.History.{latest_mesh, finishes, told_bench, kept_if, carried_out}
use Rattle.chain.specs.Promise.{Promise}
use Rattle.chain.proofs.Runs.{every_chain_keeps_the_mesh}
use Rattle.kinds.specs.Parts.{Each, most_weight, total}
use Rattle.carried.specs.Blends.{carried, values}
use Rattle.carried.specs.Laws.{Allowed}
use Rattle.carried.proofs.Levels.{earlier_by}
use Rattle.carried.proofs.Ranges.{stays}
use Rattle.carried.proofs.Seams.{seams_nearer, seams_stay, seams_still_meet}
use Rattle.promise.specs.Whole.{Reached, Kept, EveryChainKeepsAll, KeepsAllThrough}

-- ---- levels that are reached are not too large
level_quads : (m : Mesh) (k : ℕ) → (level m k).quads ≡ 4 ^ k * m.quads
unfolding level refine blank
level_quads m zero = omega arith
level_quads m (suc k) =
    let r = level m k in
    let a = runs_quads r (tasks r) (blank r) in
    let b = level_quads m k in
    let c = ap (λ x. x * m.quads) (pow-suc 4 k) in
    omega arith

reached_allowed : (m : Mesh) (n k : ℕ) → Lawful (level m n) → Reached m n k → Allowed m k
reached_allowed m n k w (inl h) =
    let few = w.sound.quads_few in
    let e = level_quads m n in
    let d : k + (n - k) ≡ n = omega arith in
    earlier_by m k (n - k) (rw d (omega arith))
reached_allowed m n k w (inr h) =
    let e = level_quads m n in
    let c = ap (λ x. x * m.quads) (pow-suc 4 n) in
    let few = h.1 in
    rw h.0 (omega arith)

-- ---- a mesh that was loaded is lawful
some≢none : {A : Type 0} {B : Type 0} (x : A) → None ≡ Some x → B
some≢none x e = let z : ◌≡◌ {A = ℕ} 0 1 = cc in absurd (omega arith)

module _ (words mark : ℕ) where
  abbrev LoadsLawful : List Call → Type 0
  LoadsLawful done = (m : Mesh) → latest_mesh done ≡ Some m → Lawful m

  -- as it stood right after its load
  just_loaded : (done : List Call) (bench : State) → Promise words mark done bench → finishes done ≡ 0 → LoadsLawful done
  unfolding level
  just_loaded done bench p e m h = p.standing_lawful m (p.standing_is m h ∙ ap (λ k. Some (level m k)) e)

  -- a load that is carried out: there is no finish since
  load_carried : (before : List Call) (c : Call) → refusal (told_bench words mark (carried_out words mark before)) c ≡ fine →
      finishes (c ∷ carried_out words mark before) ≡ 0 → LoadsLawful (c ∷ carried_out words mark before)
  load_carried before c e z =
      let P : Verdict → Type 0 = λ v. Promise words mark (kept_if v c (carried_out words mark before)) (run words mark (c ∷ before)) in
      just_loaded _ _ (subst P e (every_chain_keeps_the_mesh words mark (c ∷ before))) z

  one : (before : List Call) (c : Call) (v : Verdict) → refusal (told_bench words mark (carried_out words mark before)) c ≡ v →
      LoadsLawful (carried_out words mark before) → LoadsLawful (kept_if v c (carried_out words mark before))
  one before c (declined n p) e h = h
  one before (load cs fs ms ss) fine e h = load_carried before (load cs fs ms ss) e refl
  one before (load_text bytes room) fine e h = load_carried before (load_text bytes room) e refl
  one before begin fine e h = h
  one before (quad q) fine e h = h
  one before (point v) fine e h = h
  one before (finish slip) fine e h = h
  one before (withdraw slip) fine e h = h

  loads_lawful : (calls : List Call) → LoadsLawful (carried_out words mark calls)
  loads_lawful [] = λ m e. some≢none m e
  loads_lawful (c ∷ before) = one before c (refusal (told_bench words mark (carried_out words mark before)) c) refl (loads_lawful before)

-- ---- the promise
module _ {V R W : Type 0} (lies : R → V → Type 0) (blended : List (V × ℕ) → V) (middle : W → W → W)
    (keeps : (b : R) (ps : List (V × ℕ)) → 0 < total ps → total ps ≤ most_weight → Each (lies b) ps → lies b (blended ps))
    (even : (a b : W) → middle a b ≡ middle b a) where
  pub every_chain_keeps_all : EveryChainKeepsAll lies blended middle
  unfolding carried
  every_chain_keeps_all words mark calls =
      let done = carried_out words mark calls in
      let p = every_chain_keeps_the_mesh words mark calls in
      let w = loads_lawful words mark calls in
      let near : (m : Mesh) → latest_mesh done ≡ Some m → (k : ℕ) → Reached m (finishes done) k → Allowed m k =
      λ m e k. reached_allowed m (finishes done) k (p.standing_lawful _ (p.standing_is m e)) in
      record {
        mesh_kept = p;
        values_kept = λ m e j i h. stays lies blended keeps m (w m e) j i (near m e (j + i) h);
        values_next = λ m r e s j i h xs.
            let q = p.standing_is m e in
            let t : level m (j + i) ≡ r = ap (level m) h ∙ cc in
            ap (λ x. values blended x (carried blended m j xs i)) t;
        seams_kept = λ m e. seams_nearer ◌≡◌ middle m (Allowed m) (Reached m (finishes done)) (near m e) (seams_still_meet middle even m (w m e));
        likeness_kept = λ test laws m e.
            seams_nearer (λ a b. test a b ≡ true) middle m (Allowed m) (Reached m (finishes done)) (near m e) (seams_stay (λ a b. test a b ≡ true) middle laws m (w m e));
      }

  -- a bench of which the promise of the mesh holds is the one that the calls leave, so all is kept of it
  kept_of : (words mark : ℕ) (calls : List Call) (bench : State) → Promise words mark (carried_out words mark calls) bench →
      Kept lies blended middle words mark (carried_out words mark calls) bench
  kept_of words mark calls bench p =
      let e : run words mark calls ≡ bench = (every_chain_keeps_the_mesh words mark calls).all_told ∙ sym p.all_told in
      subst (λ (s : State). Kept lies blended middle words mark (carried_out words mark calls) s) e (every_chain_keeps_all words mark calls)

  pub keeps_through : (entry exit : State) (cs : List Call) → GoesOnThrough entry cs exit → KeepsAllThrough lies blended middle entry cs exit
  unfolding GoesOnThrough KeepsAllThrough
  keeps_through entry exit cs through words mark before p = kept_of words mark (on_top cs before) exit (through words mark before p)
