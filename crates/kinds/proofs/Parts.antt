-- Lists of parts: their weight, and what holds of each.
use Rattle.std.proofs.Common.{◌≡◌, ℕ, ◌+◌, cond, ltb, List, [], ◌∷◌, ◌++◌, refl, ap, ◌∙◌, arith}
use Rattle.std.proofs.lemmas.Bool.{cond_both, cond-false, cond-true, ltb-false}
use Rattle.kinds.specs.Parts.{Each, taken, total}

module _ {V : Type 0} where
  pub total_append : (ps qs : List (V × ℕ)) → total (ps ++ qs) ≡ total ps + total qs
  total_append [] qs = omega arith
  total_append (p ∷ ps) qs = let r = total_append ps qs in omega arith

  pub total_taken : (ps : List (V × ℕ)) → total (taken ps) ≡ total ps
  total_taken [] = refl
  total_taken (p ∷ ps) =
      let r = total_taken ps in
      cond_both (ltb 0 p.1) (p ∷ taken ps) (taken ps) (λ l. total l ≡ p.1 + total ps)
      (λ e. omega arith)
      (λ e. let z = ltb-false 0 p.1 e in omega arith)

  pub taken_append : (ps qs : List (V × ℕ)) → taken (ps ++ qs) ≡ taken ps ++ taken qs
  taken_append [] qs = refl
  taken_append (p ∷ ps) qs =
      cond_both (ltb 0 p.1) (p ∷ taken ps) (taken ps) (λ l. cond (ltb 0 p.1) (p ∷ taken (ps ++ qs)) (taken (ps ++ qs)) ≡ l ++ taken qs)
      (λ e. cond-true _ _ _ e ∙ ap (λ l. p ∷ l) (taken_append ps qs))
      (λ e. cond-false _ _ _ e ∙ taken_append ps qs)

  pub each_any : (P : V → Type 0) → ((v : V) → P v) → (ps : List (V × ℕ)) → Each P ps
  each_any P h [] = tt
  each_any P h (p ∷ ps) = (h p.0, each_any P h ps)

  pub each_weaker : (P Q : V → Type 0) → ((v : V) → P v → Q v) → (ps : List (V × ℕ)) → Each P ps → Each Q ps
  each_weaker P Q h [] e = tt
  each_weaker P Q h (p ∷ ps) e = (h p.0 e.0, each_weaker P Q h ps e.1)
