-- What a row of the next level should be.
use Rattle.std.specs.Prelude.{◌≡◌, ℕ, List, slice_index_or}
use Rattle.mesh.specs.Mesh.{Mesh}
use Rattle.carried.specs.Blends.{parts}
use Rattle.carry.specs.Mixes.{blend}

-- row s of a table is that of the blend of the parts of slot s
abbrev pub RightAt : {V R : Type 0} → (V → R) → (List (V × ℕ) → V) → Mesh → List V → List R → ℕ → Type 0
RightAt {R = R} row blended m xs out s = (d : R) → slice_index_or out s d ≡ row (blend blended xs (parts m s))
