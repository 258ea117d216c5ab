-- What a texture number may be, and the middle of two.
use Rattle.std.specs.Prelude.{ℕ, ◌*◌, Bool, false, negsuc, nat_le, Float}
use Rattle.std.specs.Float.{nan, inf, fin, binary32}
use Rattle.std.specs.Float.Ieee.{up, down, add, mul}

-- x is finite, and at most n in size: m * 2 ^ e ≤ n, where 2 ^ e is the fraction up e / down e
abbrev pub within : ℕ → Float → Bool
within n nan = false
within n (inf s) = false
within n (fin s m e) = nat_le (m * up e) (n * down e)

-- a texture number: finite, and within 65,536 either way
abbrev pub lawful : Float → Bool
lawful x = within 65536 x

-- 0.5
abbrev pub half : Float
half = fin false 1 (negsuc 0)

-- the middle: the sum, rounded once, times 0.5, rounded once
unfoldable pub halfway_of : Float → Float → Float
halfway_of x y = mul binary32 (add binary32 x y) half
