-- The test of a texture number in code: its size compared with 65,536, a comparison that fails at a NaN and at an infinity.
use Rattle.std.proofs.Common.{◌≡◌, ℕ, ◌*◌, true, false, ◌&&◌, ◌||◌, eqb, ltb, leb, pos, refl, ap, ◌∙◌, mul-one, arith}
use lib.Ieee.{Float, nan, inf, fin, up, down, le}
use Rattle.std.proofs.lemmas.Bool.Decides.{nat_tests}
use Rattle.std.specs.Float.{float_with_sign}
use Rattle.attributes.specs.Halfway.{lawful}

at_most : (a b : ℕ) → (ltb a b || (eqb a b && true)) ≡ leb a b
at_most a b = grind (arith, nat_tests)

pub tested : (x : Float) → le (float_with_sign false x) (fin false 1 (pos 16)) ≡ lawful x
unfolding le float_with_sign
tested nan = refl
tested (inf s) = refl
tested (fin s m e) = at_most (m * up e * 1) (65536 * down e) ∙ ap (λ (a : ℕ). leb a (65536 * down e)) (mul-one (m * up e))
