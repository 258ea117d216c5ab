-- A list of parts: each is a value, or the slot of a value, with a whole weight.
use Rattle.std.specs.Prelude.{ℕ, ◌+◌, List, [], ◌∷◌, filter, nat_lt}

-- the greatest weight of a blend
abbrev pub most_weight : ℕ
most_weight = 268435456

-- the sum of the weights
abbrev pub total : {V : Type 0} → List (V × ℕ) → ℕ
total [] = 0
total (p ∷ ps) = p.1 + total ps

-- what holds of the value of each part
abbrev pub Each : {V : Type 0} → (V → Type 0) → List (V × ℕ) → Type 0
Each P [] = Unit {0}
Each P (p ∷ ps) = P p.0 × Each P ps

-- a part of weight 0 is not taken
abbrev pub taken : {V : Type 0} → List (V × ℕ) → List (V × ℕ)
taken ps = filter (λ p. nat_lt 0 p.1) ps
