-- The weighted sum of one coordinate over a list of parts.
use Rattle.std.specs.Prelude.{◌≡◌, ℕ, ◌+◌, List, [], ◌∷◌, ◌++◌, ℤ, pos, ◌+ℤ◌, ◌*ℤ◌, ◌≤ℤ◌}
use Rattle.std.proofs.Common.{add-mul, arith}
use borrow.Author.Differences.{ints, up, down, product_is}
use Rattle.kinds.specs.Parts.{Each, total}
use Rattle.attributes.specs.Nearest.{times_mono}

abbrev pub weighted : {V : Type 0} → (V → ℤ) → List (V × ℕ) → ℤ
weighted f [] = pos 0
weighted f (p ∷ ps) = pos p.1 *ℤ f p.0 +ℤ weighted f ps

times_sum : (k l : ℕ) (a : ℤ) → pos (k + l) *ℤ a ≡ pos k *ℤ a +ℤ pos l *ℤ a
times_sum k l a =
    omega (arith, ints, product_is (pos k) a, product_is (pos l) a, product_is (pos (k + l)) a, add-mul k l (up a), add-mul k l (down a))

module _ {V : Type 0} (f : V → ℤ) where
  pub weighted_push : (ps : List (V × ℕ)) (v : V) (w : ℕ) → weighted f (ps ++ ((v, w) ∷ [])) ≡ weighted f ps +ℤ pos w *ℤ f v
  weighted_push [] v w = omega (arith, ints)
  weighted_push (p ∷ ps) v w = omega (arith, ints, weighted_push ps v w)

  pub weighted_above : (lo : ℤ) (ps : List (V × ℕ)) → Each (λ v. lo ≤ℤ f v) ps → (pos (total ps) *ℤ lo) ≤ℤ weighted f ps
  weighted_above lo [] e = omega (arith, ints, product_is (pos 0) lo)
  weighted_above lo (p ∷ ps) e =
      omega (arith, ints, times_sum p.1 (total ps) lo, times_mono p.1 lo (f p.0) e.0, weighted_above lo ps e.1)

  pub weighted_below : (hi : ℤ) (ps : List (V × ℕ)) → Each (λ v. f v ≤ℤ hi) ps → weighted f ps ≤ℤ (pos (total ps) *ℤ hi)
  weighted_below hi [] e = omega (arith, ints, product_is (pos 0) hi)
  weighted_below hi (p ∷ ps) e =
      omega (arith, ints, times_sum p.1 (total ps) hi, times_mono p.1 (f p.0) hi e.0, weighted_below hi ps e.1)
