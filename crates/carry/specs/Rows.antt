-- Rows, the values that they make, and why a call over them is refused.
use Rattle.std.specs.Prelude.{ℕ, ◌+◌, ◌*◌, true, ◌&&◌, List, [], ◌∷◌, map, length, is_ok, Ok, Err, Result, ◌==◌, nat_le, slice_index_or}
use Rattle.std.specs.List.{flat_map}
use Rattle.mesh.specs.Causes.{once, each, judge}
use Rattle.mesh.specs.Mesh.{Mesh, most_quads}
use Rattle.mesh.specs.Refusals.{Verdict, fine, declined}

abbrev pub the_value : {V : Type 0} → Result V ℕ → List V
the_value (Ok v) = v ∷ []
the_value (Err component) = []

-- the values that rows make, in their order
unfoldable pub made : {V R : Type 0} → (R → Result V ℕ) → List R → List V
made verdict rows = flat_map (λ r. the_value (verdict r)) rows

-- 20 at the lowest row that makes no value
unfoldable pub rows_refusal : {V R : Type 0} → (R → Result V ℕ) → List R → Verdict
rows_refusal verdict rows = each 20 (λ i. slice_index_or (map (λ r. is_ok (verdict r)) rows) i true) (length rows) fine

-- 13 where the next level has too many quads; then 19 where there are not as many rows as values stand, or not as many to be written;
-- then the refusal of the rows
unfoldable pub refusal : {V R : Type 0} → (R → Result V ℕ) → ℕ → ℕ → ℕ → List R → ℕ → Verdict
refusal verdict quads standing new rows room =
    once 13 (nat_le (4 * quads) most_quads) (once 19 (length rows == standing && room == new) (rows_refusal verdict rows))

-- the first refusal of two
unfoldable pub first_of : Verdict → Verdict → Verdict
first_of fine later = later
first_of (declined k p) later = declined k p

-- why values on the points of a mesh are refused, and why values on its corners are: first for its tables
unfoldable pub values_refusal : {V R : Type 0} → (R → Result V ℕ) → Mesh → List R → ℕ → Verdict
values_refusal verdict m rows room = first_of (judge m) (refusal verdict m.quads m.points (m.points + 3 * m.quads) rows room)

unfoldable pub corners_refusal : {V R : Type 0} → (R → Result V ℕ) → Mesh → List R → ℕ → Verdict
corners_refusal verdict m rows room = first_of (judge m) (refusal verdict m.quads (4 * m.quads) (16 * m.quads) rows room)
