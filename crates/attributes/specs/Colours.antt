-- What a colour's rows and middles are.
use Rattle.std.specs.Prelude.{ℕ, ◌+◌, ◌/◌, List, [], ◌∷◌, Ok, Result, slice_index}
use Rattle.attributes.specs.declared.colour.Colour.{Colour}

abbrev pub row_of : Colour → List ℕ
row_of v = v.red ∷ (v.green ∷ (v.blue ∷ []))

-- every row makes a colour
abbrev pub verdict_of : List ℕ → Result Colour ℕ
verdict_of r = Ok (record { red = slice_index r 0; green = slice_index r 1; blue = slice_index r 2 })

abbrev half_of : ℕ → ℕ → ℕ
half_of a b = (a + b) / 2

abbrev pub middle_of : Colour → Colour → Colour
middle_of a b = record { red = half_of a.red b.red; green = half_of a.green b.green; blue = half_of a.blue b.blue }
