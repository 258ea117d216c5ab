-- Blends of parts that are named by the points of a mesh.
use Rattle.std.specs.Prelude.{ℕ, List, []}
use Rattle.kinds.specs.Parts.{taken}
use Rattle.carried.specs.Blends.{values_at}

-- the blend of some parts of the values xs
abbrev pub blend : {V : Type 0} → (List (V × ℕ) → V) → List V → List (ℕ × ℕ) → V
blend blended xs ps = blended (values_at (blended []) xs (taken ps))

-- a running mix has taken those parts
abbrev pub Mixed : {V M : Type 0} → (List (V × ℕ) → V) → (M → List (V × ℕ) → Type 0) → List V → M → List (ℕ × ℕ) → Type 0
Mixed blended holds xs mix ps = holds mix (values_at (blended []) xs (taken ps))
