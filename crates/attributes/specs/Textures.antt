-- What rows and middles of texture pairs are.
use Rattle.std.specs.Prelude.{ℕ, Bool, true, false, T, List, [], ◌∷◌, Ok, Err, Result, slice_index_or, Float}
use Rattle.std.specs.Float.{nan}
use Rattle.attributes.specs.Halfway.{halfway_of, lawful}
use Rattle.attributes.specs.Rounding.{halfway_lawful}
use Rattle.attributes.specs.declared.texture.Texture.{Texture}

abbrev pub row_of : Texture → List Float
row_of t = t.u ∷ (t.v ∷ [])

abbrev pub at : (u v : Float) → T (lawful u) → T (lawful v) → Texture
at u v hu hv = record { u = u; v = v; uok = hu; vok = hv }

abbrev pub test : (b : Bool) → Dec (T b)
test true = yes tt
test false = no (λ h. h)

-- the pair, or the number of the first component that is no texture number
abbrev pub judged : (u v : Float) → Dec (T (lawful u)) → Dec (T (lawful v)) → Result Texture ℕ
judged u v (no _) dv = Err 0
judged u v (yes hu) (no _) = Err 1
judged u v (yes hu) (yes hv) = Ok (at u v hu hv)

unfoldable pub checked : Float → Float → Result Texture ℕ
checked u v = judged u v (test (lawful u)) (test (lawful v))

abbrev pub verdict_of : List Float → Result Texture ℕ
verdict_of r = checked (slice_index_or r 0 nan) (slice_index_or r 1 nan)

abbrev pub middle_of : Texture → Texture → Texture
middle_of a b =
    at (halfway_of a.u b.u) (halfway_of a.v b.v)
    (halfway_lawful a.u b.u a.uok b.uok) (halfway_lawful a.v b.v a.vok b.vok)
