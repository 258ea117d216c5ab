-- Rows that are right: each is the row of the value that belongs there.
use Rattle.std.specs.Prelude.{◌≡◌, ℕ, ◌<◌, List, slice_index_or}

-- the first n rows of a table are those of the values in a list
abbrev pub Upto : {V R : Type 0} → (V → R) → List V → List R → ℕ → Type 0
Upto {V} {R} row ys out n = (k : ℕ) → k < n → (d : R) (e : V) → slice_index_or out k d ≡ row (slice_index_or ys k e)
