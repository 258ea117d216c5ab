-- What every chain of calls keeps, whole: the mesh, the values on its points, and the values on its corners.
use Rattle.std.specs.Prelude.{◌≡◌, ℕ, suc, ◌+◌, ◌*◌, ◌≤◌, Bool, true, ◌⊎◌, List, Some}
use Rattle.mesh.specs.Mesh.{Mesh, most_quads}
use Rattle.refinement.specs.Tasks.{level}
use Rattle.chain.specs.Calls.{Call, State, run}
use Rattle.chain.specs.Clauses.{on_top}
use Rattle.chain.specs.History.{latest_mesh, finishes, carried_out}
use Rattle.chain.specs.Promise.{Promise}
use Rattle.kinds.specs.Likeness.{Likeness}
use Rattle.carried.specs.Blends.{carried, values}
use Rattle.carried.specs.Laws.{SeamsStay, ValuesStay}

-- level k of a mesh m with n finishes since its load: one that stands, or stood since then, or the next one if it is not too large
abbrev pub Reached : Mesh → ℕ → ℕ → Type 0
Reached m n k = (k ≤ n) ⊎ ((k ≡ suc n) × (4 * (level m n).quads ≤ most_quads))

-- A bench on which the calls `done` were carried out, the latest first.
pub record Kept {V R W : Type 0} (lies : R → V → Type 0) (blended : List (V × ℕ) → V) (middle : W → W → W) (words mark : ℕ) (done : List Call) (bench : State) : Type 0 where
  -- The mesh: the standing level, its friends, walks and valences, the level in work.
  pub mesh_kept : Promise words mark done bench
  -- Values carried from any list for the loaded mesh, or for a level refined from it, lie in every range that held all of the first ones.
  pub values_kept : (m : Mesh) → latest_mesh done ≡ Some m → ValuesStay lies blended m (Reached m (finishes done))
  -- Each next list is what `values` gives from the one before on the standing level.
  pub values_next : (m r : Mesh) → latest_mesh done ≡ Some m → bench.standing ≡ Some r → (j i : ℕ) → j + i ≡ finishes done → (xs : List V) →
      carried blended m j xs (suc i) ≡ values blended r (carried blended m j xs i)
  -- Seams that met still meet: the pieces of an edge whose sides agree agree, and so do the edges made inside a quad and their pieces.
  pub seams_kept : (m : Mesh) → latest_mesh done ≡ Some m → SeamsStay ◌≡◌ middle m (Reached m (finishes done))
  -- The same by every test of two values that is a likeness, as one by which 0 and -0 are equal.
  pub likeness_kept : (test : W → W → Bool) → Likeness (λ a b. test a b ≡ true) middle →
      (m : Mesh) → latest_mesh done ≡ Some m → SeamsStay (λ a b. test a b ≡ true) middle m (Reached m (finishes done))

-- It holds after every list of calls, on a bench made with any number of words and any mark number.
abbrev pub EveryChainKeepsAll : {V R W : Type 0} → (R → V → Type 0) → (List (V × ℕ) → V) → (W → W → W) → Type 0
EveryChainKeepsAll lies blended middle =
    (words mark : ℕ) (calls : List Call) → Kept lies blended middle words mark (carried_out words mark calls) (run words mark calls)

-- The calls cs, in the order in which they were made, on a bench of which the promise of the mesh held: all is kept after them, whatever was called before.
unfoldable pub KeepsAllThrough : {V R W : Type 0} → (R → V → Type 0) → (List (V × ℕ) → V) → (W → W → W) → State → List Call → State → Type 0
KeepsAllThrough lies blended middle entry cs exit =
    (words mark : ℕ) (before : List Call) →
    Promise words mark (carried_out words mark before) entry → Kept lies blended middle words mark (carried_out words mark (on_top cs before)) exit
