-- How far out a coordinate may lie.
use Rattle.std.specs.Prelude.{ℕ, ◌≤◌, ℤ, unsigned_abs}

-- in tenths of a micrometre, either way
abbrev pub farthest : ℕ
farthest = 16777216

abbrev pub Limited : ℤ → Type 0
Limited c = unsigned_abs c ≤ farthest
