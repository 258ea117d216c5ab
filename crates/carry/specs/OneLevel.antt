-- What one call keeps, from the rows that it reads to the rows that it writes.
use Rattle.std.specs.Prelude.{◌≡◌, ℕ, ◌*◌, ◌<◌, List, [], ◌∷◌, Result}
use Rattle.std.specs.List.{AllByRecursion}
use Rattle.mesh.specs.Mesh.{Mesh}
use Rattle.refinement.specs.Tasks.{halves, refine}
use Rattle.carried.specs.Corners.{Alike}
use Rattle.carry.specs.Rows.{made}

-- the values written lie in every range that holds all of those read
abbrev pub InEveryRange : {V R B : Type 0} → (B → V → Type 0) → (R → Result V ℕ) → List R → List R → Type 0
InEveryRange {B = B} lies verdict rows out = (b : B) → AllByRecursion (lies b) (made verdict rows) → AllByRecursion (lies b) (made verdict out)

-- the halves of an edge of m whose sides agree agree, and so do the edges made inside a quad
pub record SeamsMet {V R : Type 0} (verdict : R → Result V ℕ) (m : Mesh) (rows out : List R) : Type 0 where
  pub halves_meet : (o : ℕ) → o < 2 * m.quads → Alike ◌≡◌ m (made verdict rows) o → AllByRecursion (Alike ◌≡◌ (refine m) (made verdict out)) (halves m (o ∷ []))
  pub insides_meet : (c : ℕ) → c < 4 * m.quads → Alike ◌≡◌ (refine m) (made verdict out) (2 * c)
