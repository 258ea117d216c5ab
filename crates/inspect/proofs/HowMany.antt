-- How many words of a list pass a test.
use Rattle.std.proofs.Common.{◌≡◌, ℕ, ◌+◌, ◌<◌, ◌≤◌, Bool, true, false, cond, List, [], ◌∷◌, length, get_or, take, filter, refl, ap, ◌∙◌, arith, length-append}
use Rattle.std.proofs.lemmas.List.Elements.{filter_more}
use Rattle.inspect.specs.Marks.{how_many, one_if}

module _ (test : ℕ → Bool) where
  pub how_many_le : (ws : List ℕ) → how_many test ws ≤ length ws
  unfolding how_many
  how_many_le [] = omega arith
  how_many_le (w ∷ ws) = go (test w) (how_many_le ws)
    where
      go : (b : Bool) → length (filter test ws) ≤ length ws → length (cond b (w ∷ filter test ws) (filter test ws)) ≤ length (w ∷ ws)
      go true h = omega arith
      go false h = omega arith

  pub how_many_more : (ws : List ℕ) (i : ℕ) → i < length ws → how_many test (take (i + 1) ws) ≡ one_if (test (get_or ws i 0)) (how_many test (take i ws))
  unfolding how_many
  how_many_more ws i h = ap length (filter_more test ws i 0 h) ∙ length-append (filter test (take i ws)) (cond (test (get_or ws i 0)) (get_or ws i 0 ∷ []) []) ∙ go (test (get_or ws i 0))
    where
      go : (b : Bool) → length (filter test (take i ws)) + length (cond b (get_or ws i 0 ∷ []) []) ≡ one_if b (length (filter test (take i ws)))
      go true = refl
      go false = omega arith
