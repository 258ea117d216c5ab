-- The corners that a walk has met, and what is known of the marks there.
use Rattle.std.specs.Prelude.{◌≡◌, ℕ, cond, List, map, length, Some, None, Option, sum, filter, nat_lt}
use Rattle.std.specs.List.{range_with_len}
use Rattle.mesh.specs.Mesh.{Mesh, mark, off_edge, walk}
use Rattle.carried.specs.Blends.{some_infinite}
use Rattle.carry.specs.declared.seen.Around.{Around}

-- the first n corners of the walk at v, and those of them whose off-edge is marked
abbrev pub met : Mesh → ℕ → ℕ → List ℕ
met m v n = map (walk m v) (range_with_len 0 n)

abbrev pub marked_met : Mesh → ℕ → ℕ → List ℕ
marked_met m v n = filter (λ c. nat_lt 0 (mark m (off_edge c))) (met m v n)

abbrev pub marks_at : Mesh → List ℕ → List ℕ
marks_at m cs = map (λ c. mark m (off_edge c)) cs

-- the sum of some marks; none if one is infinite
abbrev pub finite_sum : List ℕ → Option ℕ
finite_sum ws = cond (some_infinite ws) None (Some (sum ws))

-- a says what the marked corners cs have: how many they are, and the sum of the marks there if none is infinite
pub record Seen (m : Mesh) (cs : List ℕ) (a : Around) : Type 0 where
  pub marked_is : a.marked ≡ length cs
  pub sum_is : a.sum ≡ finite_sum (marks_at m cs)
