-- The words that say which tasks have run.
use Rattle.std.proofs.Common.{◌≡◌, ℕ, zero, suc, ◌+◌, ◌<◌, ◌≤◌, cond, eqb, ◌⊎◌, List, [], ◌∷◌, ◌++◌, length, get_or, set, replicate, sym, refl, ap, ◌∙◌, inl, inr, zero-add, arith, length-set, get_or-set_other, get_or-set_same}
use Rattle.std.specs.List.{ContainsAt as Has, HoldsAt, AllByRecursion}
use Rattle.std.proofs.ByRecursion.{has_append_left, has_append_right, has_push}
use Rattle.std.proofs.lemmas.List.FromFn.{length-map-range_with_len, get_or-map-range_with_len}
use Rattle.std.proofs.lemmas.List.{length-replicate, get_or-replicate, ext_get_or}
use Rattle.std.proofs.lemmas.Bool.{cases_eq, cond-true, cond-false, eq-eqb, ne_eqb, eqb-false}
use Rattle.mesh.specs.Count.{least}
use Rattle.mesh.specs.Mesh.{Mesh}
use Rattle.refinement.specs.Tasks.{Task, TaskOf, quad_task, point_task, number}
use Rattle.refinement.proofs.Totals.{least_fails}
use Rattle.chain.specs.History.{ran_word, ran_words}

number_apart : (r : Mesh) (t u : Task) → TaskOf r t → TaskOf r u → number r t ≡ number r u → t ≡ u
number_apart r (quad_task q) (quad_task p) h k e = ap quad_task e
number_apart r (quad_task q) (point_task v) h k e = absurd (omega arith)
number_apart r (point_task v) (quad_task q) h k e = absurd (omega arith)
number_apart r (point_task v) (point_task u) h k e = let z : v ≡ u = omega arith in ap point_task z

number_below : (r : Mesh) (t : Task) → TaskOf r t → number r t < r.quads + r.points
number_below r (quad_task q) h = omega arith
number_below r (point_task v) h = omega arith

not_at : (u : Task) (ts : List Task) (t : Task) → (u ≡ t → ⊥) → (Has ts t → ⊥) → (k : ℕ) → k < length (u ∷ ts) → HoldsAt (λ y. y ≡ t) (u ∷ ts) k → ⊥
not_at u ts t d n zero h k = d (k u)
not_at u ts t d n (suc i) h k = n (i, omega arith, k)

not_there : (u : Task) (ts : List Task) (t : Task) → (u ≡ t → ⊥) → (Has ts t → ⊥) → Has (u ∷ ts) t → ⊥
not_there u ts t d n k = not_at u ts t d n k.0 k.1 k.2

module _ (r : Mesh) where
  length_ran : (ts : List Task) → length (ran_words r ts) ≡ r.quads + r.points
  unfolding ran_words
  length_ran ts = length-map-range_with_len (ran_word r ts) 0 (r.quads + r.points)

  getD_ran : (ts : List Task) (i : ℕ) → i < r.quads + r.points → get_or (ran_words r ts) i 0 ≡ ran_word r ts i
  unfolding ran_words
  getD_ran ts i h = get_or-map-range_with_len (ran_word r ts) 0 (r.quads + r.points) i i 0 h (zero-add i)

  -- no task has run
  pub ran_none : replicate (r.quads + r.points) 0 ≡ ran_words r []
  ran_none =
      let n : length (replicate {A = ℕ} (r.quads + r.points) 0) ≡ r.quads + r.points = length-replicate (r.quads + r.points) 0 in
      let k = length_ran [] in
      ext_get_or 0 _ _ (n ∙ sym k) (λ i h. get_or-replicate (r.quads + r.points) i 0 0 (omega arith) ∙ sym (getD_ran [] i (omega arith)))

  -- one task more
  ran_word_push : (ts : List Task) (t : Task) (i : ℕ) → ran_word r (ts ++ t ∷ []) i ≡ cond (eqb (number r t) i) 1 (ran_word r ts i)
  ran_word_push [] t i = refl
  ran_word_push (u ∷ ts) t i = elim (cases_eq (number r u) i) [
    | inl e ↦
        cond-true _ _ _ (eq-eqb _ _ e)
        ∙ elim (cases_eq (number r t) i) [
          | inl d ↦ sym (cond-true _ _ _ (eq-eqb _ _ d))
          | inr d ↦ sym (cond-false _ _ _ (ne_eqb _ _ d) ∙ cond-true _ _ _ (eq-eqb _ _ e))
        ]
    | inr e ↦
        let b = ne_eqb _ _ e in
        cond-false _ _ _ b ∙ ran_word_push ts t i ∙ ap (λ x. cond (eqb (number r t) i) 1 x) (sym (cond-false _ 1 (ran_word r ts i) b))
  ]

  pub ran_push : (ts : List Task) (t : Task) → TaskOf r t → set (ran_words r ts) (number r t) 1 ≡ ran_words r (ts ++ t ∷ [])
  ran_push ts t h =
      let n = length_ran ts in
      let k = length_ran (ts ++ t ∷ []) in
      let l : length (set (ran_words r ts) (number r t) 1) ≡ length (ran_words r ts) = length-set (ran_words r ts) (number r t) 1 in
      let b = number_below r t h in
      ext_get_or 0 _ _ (l ∙ n ∙ sym k) (λ i m.
      let there = getD_ran (ts ++ t ∷ []) i (omega arith) ∙ ran_word_push ts t i in
      elim (cases_eq i (number r t)) [
        | inl e ↦
            ap (λ j. get_or (set (ran_words r ts) (number r t) 1) j 0) e ∙ get_or-set_same (ran_words r ts) (number r t) 1 0 (omega arith)
            ∙ sym (there ∙ cond-true _ _ _ (eq-eqb _ _ (sym e)))
        | inr e ↦
            get_or-set_other (ran_words r ts) (number r t) i 1 0 e ∙ getD_ran ts i (omega arith)
            ∙ sym (there ∙ cond-false _ _ _ (ne_eqb _ _ (λ d. e (sym d))))
      ])

  -- a word is 1 if its task is one of those that have run, else 0
  word_tells : (ts : List Task) → AllByRecursion (TaskOf r) ts → (t : Task) → TaskOf r t →
      (Has ts t × (ran_word r ts (number r t) ≡ 1)) ⊎ ((Has ts t → ⊥) × (ran_word r ts (number r t) ≡ 0))
  word_tells [] a t h = inr (λ k. absurd (omega (arith, k.1)), refl)
  word_tells (u ∷ ts) a t h = elim (cases_eq (number r u) (number r t)) [
    | inl e ↦ inl (rw (number_apart r u t a.0 h e) (has_append_left (t ∷ []) ts t (has_push [] t)), cond-true _ _ _ (eq-eqb _ _ e))
    | inr e ↦
        let b = ne_eqb _ _ e in
        elim (word_tells ts a.1 t h) [
          | inl y ↦ inl (has_append_right (u ∷ []) ts t y.0, cond-false _ _ _ b ∙ y.1)
          | inr y ↦ inr (not_there u ts t (λ d. e (ap (number r) d)) y.0, cond-false _ _ _ b ∙ y.1)
        ]
  ]

  pub ran_tells : (ts : List Task) → AllByRecursion (TaskOf r) ts → (t : Task) → TaskOf r t →
      (Has ts t × (get_or (ran_words r ts) (number r t) 0 ≡ 1)) ⊎ ((Has ts t → ⊥) × (get_or (ran_words r ts) (number r t) 0 ≡ 0))
  ran_tells ts a t h = rw (getD_ran ts (number r t) (number_below r t h)) (word_tells ts a t h)

  -- no lowest task is left
  pub ran_all : (ts : List Task) → AllByRecursion (TaskOf r) ts → r.quads + r.points ≤ least (λ i. eqb (get_or (ran_words r ts) i 0) 0) (r.quads + r.points) →
      (t : Task) → TaskOf r t → Has ts t
  ran_all ts a all t h = elim (ran_tells ts a t h) [
    | inl y ↦ y.0
    | inr y ↦
        let b = number_below r t h in
        absurd (eqb-false _ _ (least_fails (λ i. eqb (get_or (ran_words r ts) i 0) 0) (r.quads + r.points) (number r t) (omega arith)) y.1)
  ]
