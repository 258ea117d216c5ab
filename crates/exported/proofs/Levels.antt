-- A bench refined level by level.
use Rattle.std.proofs.Common.{◌≡◌, ℕ, suc, ◌+◌, ◌<◌, ◌≤◌, Bool, false, sym, refl, ap, ◌∙◌, add-one, arith}
use Rattle.std.proofs.lemmas.Grind.{common_steps}
use borrow.Author.Count.{below_none, below_more}
use Rattle.mesh.specs.Count.{least}
use Rattle.mesh.specs.Mesh.{Mesh}
use Rattle.mesh.specs.Refusals.{Verdict, fine, declined}
use Rattle.refinement.specs.Tasks.{level}
use Rattle.refinement.proofs.Totals.{least_is, least_none}
use Rattle.chain.specs.Calls.{State, begin, refusal}
use Rattle.refining.specs.Once.{RefinedOnce}
use Rattle.exported.specs.Benches.{standing_on, refused, levels_made, refining_verdict}

module _ (words mark : ℕ) (m : Mesh) where
  abbrev pub stops : ℕ → Bool
  stops k = refused (refusal (standing_on words mark (level m k)) begin)

  abbrev pub At : ℕ → State → Type 0
  At i s = (s ≡ standing_on words mark (level m i)) × ((k : ℕ) → k < i → stops k ≡ false)

  pub at_first : (s : State) → s ≡ standing_on words mark m → At 0 s
  unfolding level
  at_first s e = (e, below_none _)

  -- what a refinement of that level answers
  answers : (s t : State) (i : ℕ) (v : Verdict) → At i s → RefinedOnce s t v → v ≡ refusal (standing_on words mark (level m i)) begin
  answers s t i v a r = r.answers ∙ ap (λ (x : State). refusal x begin) a.0

  pub at_next : (s t : State) (i : ℕ) → At i s → RefinedOnce s t fine → At (i + 1) t
  unfolding level
  at_next s t i a r =
      let e : t ≡ standing_on words mark (level m (suc i)) = rw (r.refines (level m i) refl (rw a.0), a.0) in
      (rw add-one e, below_more _ i a.1 (ap refused (sym (answers s t i fine a r))))

  pub at_stop : (s t : State) (i n k p : ℕ) → i < n → At i s → RefinedOnce s t (declined k p) →
      (t ≡ standing_on words mark (level m (levels_made words mark m n))) × (declined k p ≡ refining_verdict words mark m n)
  unfolding levels_made refining_verdict
  at_stop s t i n k p h a r =
      let is = answers s t i (declined k p) a r in
      let f : least stops n ≡ i = least_is stops n i h (ap refused (sym is)) a.1 in
      (rw (f, r.refused_leaves k p refl) a.0, rw f (grind (arith, common_steps)))

  pub at_end : (s : State) (i n : ℕ) → n ≤ i → i ≤ n → At i s →
      (s ≡ standing_on words mark (level m (levels_made words mark m n))) × (fine ≡ refining_verdict words mark m n)
  unfolding levels_made refining_verdict
  at_end s i n h l a =
      let e : i ≡ n = omega arith in
      let f : least stops n ≡ n = least_none stops n (rw e at a.1) in
      (rw (f, ← e) a.0, rw f (grind (arith, common_steps)))
