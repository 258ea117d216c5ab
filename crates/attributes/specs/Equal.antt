-- Texture pairs that `==` finds equal: 0 and -0 count as equal.
use Rattle.std.specs.Prelude.{◌≡◌, Bool, true, ◌&&◌}
use Rattle.std.specs.Float.Ieee.{eq}
use Rattle.kinds.specs.Likeness.{Likeness}
use Rattle.attributes.specs.Textures.{middle_of}
use Rattle.attributes.specs.declared.texture.Texture.{Texture}

abbrev pub equal : Texture → Texture → Bool
equal a b = eq a.u b.u && eq a.v b.v

-- the middle of equal pairs is equal
abbrev pub EqualIsALikeness : Type 0
EqualIsALikeness = Likeness (λ a b. equal a b ≡ true) middle_of
