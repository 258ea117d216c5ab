-- A running mix that takes one part more, named by its point.
use Rattle.std.proofs.Common.{◌≡◌, ℕ, ◌+◌, ◌≤◌, ltb, List, [], ◌∷◌, ◌++◌, get_or, sym, ap, ◌∙◌, subst, inl, inr, arith}
use Rattle.std.proofs.lemmas.List.{map-append}
use Rattle.std.proofs.lemmas.Bool.{cases_Bool, cond-true, cond-false}
use Rattle.kinds.specs.Parts.{most_weight, taken, total}
use Rattle.kinds.proofs.Parts.{total_taken, taken_append}
use Rattle.carried.specs.Blends.{values_at}
use Rattle.carried.proofs.Ranges.{values_total}
use Rattle.carry.specs.Mixes.{Mixed}

module _ {V : Type 0} (d : V) (xs : List V) where
  one_taken : (p w : ℕ) (v : V) → v ≡ get_or xs p d → taken ((v, w) ∷ []) ≡ values_at d xs (taken ((p, w) ∷ []))
  one_taken p w v e = elim (cases_Bool (ltb 0 w)) [
    | inl t ↦ cond-true _ _ _ t ∙ ap (λ u. (u, w) ∷ []) e ∙ sym (ap (values_at d xs) (cond-true (ltb 0 w) ((p, w) ∷ []) [] t))
    | inr f ↦ cond-false _ _ _ f ∙ sym (ap (values_at d xs) (cond-false (ltb 0 w) ((p, w) ∷ []) [] f))
  ]

  values_more : (ps : List (ℕ × ℕ)) (p w : ℕ) (v : V) → v ≡ get_or xs p d → values_at d xs (taken ps) ++ taken ((v, w) ∷ []) ≡ values_at d xs (taken (ps ++ (p, w) ∷ []))
  values_more ps p w v e =
      ap (λ l. values_at d xs (taken ps) ++ l) (one_taken p w v e)
      ∙ sym (map-append (λ (p : ℕ × ℕ). (get_or xs p.0 d, p.1)) (taken ps) (taken ((p, w) ∷ [])))
      ∙ ap (values_at d xs) (sym (taken_append ps ((p, w) ∷ [])))

module _ {V M : Type 0} (blended : List (V × ℕ) → V) (holds : M → List (V × ℕ) → Type 0) (weighed : M → ℕ)
    (weighs : (m : M) (ps : List (V × ℕ)) → holds m ps → weighed m ≡ total ps) (xs : List V) where
  pub mixed_more : (m n : M) (v : V) (p w : ℕ) → v ≡ get_or xs p (blended []) →
      ((ps : List (V × ℕ)) → holds m ps → weighed m + w ≤ most_weight → holds n (ps ++ taken ((v, w) ∷ []))) →
      (ps : List (ℕ × ℕ)) → Mixed blended holds xs m ps → total ps + w ≤ most_weight → Mixed blended holds xs n (ps ++ (p, w) ∷ [])
  mixed_more m n v p w e add ps h few =
      let a = weighs m _ h in
      let b = values_total (blended []) xs (taken ps) in
      let c = total_taken ps in
      subst (holds n) (values_more (blended []) xs ps p w v e) (add (values_at (blended []) xs (taken ps)) h (omega arith))
